use Rattle.fare_relaxed.proofs.SamePrice.{lawful_stays}
use Rattle.fare_relaxed.proofs.laws.lawful_stays_lawful.Goals as goal

pub returns : goal.returns
returns c tariff trip parts term price range lawful = lawful_stays term tariff trip parts price range lawful
