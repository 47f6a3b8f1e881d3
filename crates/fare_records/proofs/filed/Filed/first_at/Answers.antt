-- the index is seen as the records
use Rattle.std.proofs.Common.{get_or, ap, ◌∙◌}
use Rattle.std.specs.List.{position_from}
use Rattle.fare_records.specs.Keyed.{has_own_key, own_key}
use Rattle.fare_records.proofs.filed.Filed.first_at.Goals as goal

pub returns : goal.returns
returns c = λ d. c.first_at.ensures d ∙ ap (λ records. position_from (has_own_key (own_key (get_or records c.args.place d))) 0 records) c.self.view_is
