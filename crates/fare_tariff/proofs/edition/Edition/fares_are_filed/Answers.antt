-- the fare of a number has no kind, and is in form
use Rattle.fare_tariff.proofs.FoundFares.{filed_fare}
use Rattle.fare_tariff.proofs.edition.Edition.fares_are_filed.Goals as goal

pub returns : goal.returns
returns c = λ number fare h. (filed_fare c.args.self.now number fare c.records-records.ensures.valid h).0
