use Rattle.fare_relaxed.proofs.NoFault.{is_edition}
use Rattle.fare_relaxed.proofs.laws.relaxed_is_an_edition.Goals as goal

pub returns : goal.returns
returns c number tariff term valid = is_edition number term tariff.records valid
