-- the record of the number that is found is such a fare, and few stand before it
use Rattle.std.proofs.Common.{◌≡◌, ◌<◌, Some, IsSomeAnd}
use Rattle.fare_records.specs.declared.limits.TheConstants.{MOST_FARES_BETWEEN}
use Rattle.fare_tariff.specs.Lookup.{nth_fare, fare_at}
use Rattle.fare_tariff.specs.Filed.{IsFareBetween}
use Rattle.fare_tariff.proofs.FoundOptions.{of_value, of_some}
use Rattle.fare_tariff.proofs.FoundFares.{filed_nth}
use Rattle.fare_tariff.proofs.edition.Edition.nth_fare.Goals as goal

pub returns-clause-filed : goal.returns-clause-filed
returns-clause-filed c =
    of_value c.nth_fare_number.result (λ number. IsSomeAnd (fare_at c.args.self.now number) (IsFareBetween c.args.from c.args.to c.args.ind)) (λ number h.
    let found : nth_fare c.args.self.now c.args.from c.args.to c.args.ind c.args.k ≡ Some number = cc in
    let facts = filed_nth c.args.self.now c.args.from c.args.to c.args.ind c.args.k number c.filed.ensures.valid.no_fault found in
    facts.0)

pub returns-clause-few : goal.returns-clause-few
returns-clause-few c =
    of_some c.nth_fare_number.result (c.args.k < MOST_FARES_BETWEEN) (λ number h.
    let found : nth_fare c.args.self.now c.args.from c.args.to c.args.ind c.args.k ≡ Some number = cc in
    let facts = filed_nth c.args.self.now c.args.from c.args.to c.args.ind c.args.k number c.filed.ensures.valid.no_fault found in
    facts.1)
