-- the first place of the key, where the guess stands or by the index
use Rattle.std.proofs.Common.{◌∙◌, ap}
use Rattle.std.specs.List.{position_from}
use Rattle.fare_records.specs.Keyed.{has_own_key}
use Rattle.fare_records.proofs.Chain.{first_of_guess}
use Rattle.fare_records.proofs.filed.Filed.first_guessed.Goals as goal

pub returns : goal.returns
returns c = c.first.ensures ∙ ap (position_from (has_own_key c.args.key.now) 0) c.self.view_is

pub returns-then-stands_at : goal.returns-then-stands_at
returns-then-stands_at c = first_of_guess _ _ _ _ (c.stands_at.ensures c.if-stands_at.true) c.first_at.ensures
