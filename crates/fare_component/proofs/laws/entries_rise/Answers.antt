use Rattle.fare_component.proofs.LawLemmas.{entries_in_order}
use Rattle.fare_component.proofs.laws.entries_rise.Goals as goal

pub returns : goal.returns
returns c = entries_in_order
