use Rattle.fare_component.proofs.LawLemmas.{amount_is_entry}
use Rattle.fare_component.proofs.laws.fares_with_amounts_are_entries.Goals as goal

pub returns : goal.returns
returns c = amount_is_entry
