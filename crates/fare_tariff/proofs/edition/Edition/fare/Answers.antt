-- the record at the place that is found is such a fare
use Rattle.std.proofs.Common.{◌≡◌, Some, IsSomeAnd}
use Rattle.fare_tariff.specs.Lookup.{fare_number, fare_at}
use Rattle.fare_tariff.specs.Filed.{IsFareOn}
use Rattle.fare_tariff.proofs.FoundOptions.{of_value}
use Rattle.fare_tariff.proofs.FoundFares.{filed_on}
use Rattle.fare_tariff.proofs.edition.Edition.fare.Goals as goal

pub returns-clause-filed : goal.returns-clause-filed
returns-clause-filed c =
    of_value c.fare_number.result (λ number. IsSomeAnd (fare_at c.args.self.now number) (IsFareOn c.args.key.now c.args.on)) (λ number h.
    let found : fare_number c.args.self.now c.args.key.now c.args.on ≡ Some number = cc in
    filed_on c.args.self.now c.args.key.now c.args.on number found)
