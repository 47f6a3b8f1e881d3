use Rattle.fare_rules.proofs.ReferenceLemmas.{no_reference}
use Rattle.fare_rules.proofs.laws.reference.no_reference_to_itself.Goals as goal

pub returns : goal.returns
returns c = no_reference
