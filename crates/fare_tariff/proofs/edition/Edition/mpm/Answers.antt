-- the record that is found is no mileage of 0
use Rattle.std.proofs.Common.{◌≡◌, ◌<◌, Some}
use Rattle.fare_tariff.specs.Lookup.{first_some, mpm_in}
use Rattle.fare_tariff.proofs.FoundOptions.{of_value}
use Rattle.fare_tariff.proofs.Found.{mpm_above_zero}
use Rattle.fare_tariff.proofs.edition.Edition.mpm.Goals as goal

pub returns-clause-above_zero : goal.returns-clause-above_zero
returns-clause-above_zero c =
    of_value c.permitted_miles.result (λ miles. 0 < miles) (λ miles h.
    let found : first_some (mpm_in c.args.a c.args.b c.args.ind) c.args.self.now.records ≡ Some miles = cc in
    mpm_above_zero c.args.self.now.records c.args.a c.args.b c.args.ind miles c.filed.ensures.valid.no_fault found)
