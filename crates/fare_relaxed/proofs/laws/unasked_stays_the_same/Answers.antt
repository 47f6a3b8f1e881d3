use Rattle.fare_relaxed.proofs.Unasked.{unasked_same}
use Rattle.fare_relaxed.proofs.laws.unasked_stays_the_same.Goals as goal

pub returns : goal.returns
returns c tariff term unasked = unasked_same tariff term unasked
