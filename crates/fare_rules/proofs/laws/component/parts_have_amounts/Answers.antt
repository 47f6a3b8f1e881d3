use Rattle.fare_rules.proofs.AmountLemmas.{amount_of_lawful}
use Rattle.fare_rules.proofs.laws.component.parts_have_amounts.Goals as goal

pub returns : goal.returns
returns c = amount_of_lawful
