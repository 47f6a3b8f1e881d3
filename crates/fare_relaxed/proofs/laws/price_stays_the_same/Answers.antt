use Rattle.fare_relaxed.proofs.SamePrice.{lawful_same}
use Rattle.fare_relaxed.proofs.laws.price_stays_the_same.Goals as goal

pub returns : goal.returns
returns c tariff trip parts term price relaxed lawful after = lawful_same term tariff trip parts price relaxed lawful after
