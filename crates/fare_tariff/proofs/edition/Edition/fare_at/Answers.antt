-- the fare that is found has no kind
use Rattle.std.proofs.Common.{◌≡◌, ◌+◌, ◌≤◌, Some}
use Rattle.fare_records.specs.declared.limits.TheConstants.{MOST_RECORDS}
use Rattle.fare_tariff.specs.Lookup.{fare_at}
use Rattle.fare_tariff.specs.Filed.{IsFiledFare}
use Rattle.fare_tariff.proofs.FoundOptions.{of_copied, of_reference}
use Rattle.fare_tariff.proofs.FoundFares.{filed_fare}
use Rattle.fare_tariff.proofs.edition.Edition.fare_at.Goals as goal

pub returns-clause-filed : goal.returns-clause-filed
returns-clause-filed c =
    of_copied c.fare_record.result (IsFiledFare c.args.self.now) (λ fare h.
    let found : fare_at c.args.self.now c.args.number ≡ Some fare = cc in
    let facts = filed_fare c.args.self.now c.args.number fare c.records.ensures.valid found in
    facts.0)

pub returns-clause-in_limit : goal.returns-clause-in_limit
returns-clause-in_limit c =
    of_reference c.fare_record.result (c.args.number ≤ MOST_RECORDS + 1) (λ fare h.
    let found : fare_at c.args.self.now c.args.number ≡ Some fare = cc in
    let facts = filed_fare c.args.self.now c.args.number fare c.records.ensures.valid found in
    facts.1)
