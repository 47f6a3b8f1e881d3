use Rattle.fare_best.proofs.OneLemmas.{first_is_one}
use Rattle.fare_best.proofs.first.first_k_is_one.Goals as goal

pub returns : goal.returns
returns c = first_is_one
