use Rattle.fare_rules.proofs.TotalLemmas.{lawful_price_up_to}
use Rattle.fare_rules.proofs.laws.price.price_is_bounded.Goals as goal

pub returns : goal.returns
returns c = lawful_price_up_to
