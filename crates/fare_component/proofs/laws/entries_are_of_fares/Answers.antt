use Rattle.fare_component.proofs.LawLemmas.{entry_is_of_fare}
use Rattle.fare_component.proofs.laws.entries_are_of_fares.Goals as goal

pub returns : goal.returns
returns c = entry_is_of_fare
