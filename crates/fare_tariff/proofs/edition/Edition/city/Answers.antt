-- the record that is found has no kind
use Rattle.std.proofs.Common.{◌≡◌, Some}
use Rattle.fare_tariff.specs.Lookup.{city_record}
use Rattle.fare_tariff.specs.Filed.{IsFiledCity}
use Rattle.fare_tariff.proofs.FoundOptions.{of_copied}
use Rattle.fare_tariff.proofs.Found.{filed_city}
use Rattle.fare_tariff.proofs.edition.Edition.city.Goals as goal

pub returns-clause-filed : goal.returns-clause-filed
returns-clause-filed c =
    of_copied c.city_record.result (IsFiledCity c.args.self.now c.args.c) (λ r h.
    let found : city_record c.args.self.now c.args.c ≡ Some r = cc in
    filed_city c.args.self.now c.args.c r c.filed.ensures.valid.no_fault found)
