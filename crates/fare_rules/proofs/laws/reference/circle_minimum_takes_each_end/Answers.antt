use Rattle.fare_rules.proofs.CircleLemmas.{minimum_of_closed}
use Rattle.fare_rules.proofs.laws.reference.circle_minimum_takes_each_end.Goals as goal

pub returns : goal.returns
returns c = minimum_of_closed
