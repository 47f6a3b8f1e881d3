use Rattle.fare_component.proofs.LawLemmas.{entry_has_one_direction}
use Rattle.fare_component.proofs.laws.entries_have_one_direction.Goals as goal

pub returns : goal.returns
returns c = entry_has_one_direction
