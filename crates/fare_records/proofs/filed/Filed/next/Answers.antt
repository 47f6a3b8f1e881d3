-- the index is seen as the records
use Rattle.std.proofs.Common.{◌+◌, drop, get_or, ap, ◌∙◌}
use Rattle.std.specs.List.{position_from}
use Rattle.fare_records.specs.Keyed.{has_own_key, own_key}
use Rattle.fare_records.proofs.filed.Filed.next.Goals as goal

pub returns : goal.returns
returns c = λ d.
    c.next.ensures d
    ∙ ap (λ records. position_from (has_own_key (own_key (get_or records c.args.place d))) (c.args.place + 1) (drop (c.args.place + 1) records)) c.self.view_is
