-- the check of the relaxed records answers the relaxed edition, and so no fault of a record
use Rattle.std.proofs.Common.{◌≡◌, Ok}
use Rattle.fare_tariff.specs.Check.{check_edition}
use Rattle.fare_relaxed.specs.Relax.{relax}
use Rattle.fare_relaxed.proofs.NoFault.{relaxed_checked, never_at, ok_same}
use Rattle.fare_relaxed.proofs.relaxing.relaxed.Goals as goal

pub unreachable-requires : goal.unreachable-requires
unreachable-requires g c =
    never_at (check_edition c.number.result c.effective.result c.in_ok-records.records.items) (relax c.args.term c.args.edition.now) c.in-Err-At.field-0 c.in-Err-At.field-0-0 c.in-Err-At.field-0-1
    (relaxed_checked c.args.edition.now c.args.term c.number.result c.effective.result c.records.result.now c.in_ok-records.records.items c.number.ensures.value c.effective.ensures c.records.ensures.records c.in_ok-records.ensures c.records.ensures.valid)
    c.in-Err-At.field-0-is c.in-Err-At.ensures

pub returns-in-Ok : goal.returns-in-Ok
returns-in-Ok g c =
    ok_same c.in-Ok.made (relax c.args.term c.args.edition.now) (check_edition c.number.result c.effective.result c.in_ok-records.records.items) c.in-Ok.ensures
    (relaxed_checked c.args.edition.now c.args.term c.number.result c.effective.result c.records.result.now c.in_ok-records.records.items c.number.ensures.value c.effective.ensures c.records.ensures.records c.in_ok-records.ensures c.records.ensures.valid)
