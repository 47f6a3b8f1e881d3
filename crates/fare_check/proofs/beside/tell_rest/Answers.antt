-- the fault of the record at hand is told, and then those of the records behind it
use Rattle.std.proofs.Common.{◌<◌, ◌≡◌, length, ap, arith, refl, sym, ◌∙◌}
use borrow.Author.Tests.{eqb-true}
use Rattle.fare_check.specs.CheckText.{line_of}
use Rattle.fare_check.proofs.PlacesLeft.{left_behind}
use Rattle.fare_check.proofs.Told.{all_left, ends_told, fewer_left, nothing_left}
use Rattle.fare_check.proofs.Steps.{check_end, check_step, check_stop, none_further, one_fewer, some_further}
use Rattle.fare_check.proofs.beside.tell_rest.Goals as goal

pub loop-place-init : goal.loop-place-init
loop-place-init c = record { told = all_left c.args.report.now _; left = c.requires.faulty; enough = omega (arith, c.requires.enough) }

pub fault_of-fault-requires-clause-left : goal.fault_of-fault-requires-clause-left
fault_of-fault-requires-clause-left c = c.loop-place.invariant.left

pub loop-place-preserved : goal.loop-place-preserved
loop-place-preserved c =
    let line = line_of c.args.grounds.now.version c.args.grounds.now.filed.now in
    let all = c.args.grounds.now.filed.now in
    let now = c.loop-place.invariant in
    let within : c.loop-place.place < length all = omega (arith, ap length c.records-place-end.ensures.records) in
    let step = check_step line all c.loop-place.place c.loop-place.rows c.read_row.new.self c.read_row.new.row c.in_ok-read_row.field-0 c.fault_of-fault.result c.in_ok-read_row.ensures.taken c.if-not-branch.false within c.fault_of-fault.ensures in
    record {
      told = fewer_left _ _ _ _ now.told step c.in_ok-tell_row.ensures;
      left = left_behind all c.loop-place.left.now c.behind-left.result.now c.loop-place.place within now.left c.behind-left.ensures;
      enough = one_fewer (length all) c.loop-place.place c.loop-place.rows c.read_row.new.self c.read_row.new.row c.in_ok-read_row.field-0 c.in_ok-read_row.ensures.taken c.if-not-branch.false now.enough;
    }

pub returns-then-is_empty : goal.returns-then-is_empty
returns-then-is_empty c =
    let line = line_of c.args.grounds.now.version c.args.grounds.now.filed.now in
    let now = c.loop-place.invariant in
    let none : length c.loop-place.left.now ≡ 0 = eqb-true (length c.loop-place.left.now) 0 (sym c.is_empty.ensures ∙ c.if-is_empty.true) in
    nothing_left _ _ now.told (none_further line c.args.grounds.now.filed.now c.loop-place.left.now c.loop-place.place c.loop-place.rows now.left now.enough none)

pub returns-then-is_full : goal.returns-then-is_full
returns-then-is_full c =
    let line = line_of c.args.grounds.now.version c.args.grounds.now.filed.now in
    let now = c.loop-place.invariant in
    let as_many = some_further line c.args.grounds.now.filed.now c.loop-place.left.now c.loop-place.place c.loop-place.rows now.left now.enough in
    ends_told c.count_more.result c.args.report.now c.loop-place.report c.count_more.new.self _ _ _ now.told refl (c.count_more.ensures _ as_many)

pub returns-then-not-branch : goal.returns-then-not-branch
returns-then-not-branch c =
    let line = line_of c.args.grounds.now.version c.args.grounds.now.filed.now in
    nothing_left _ _ c.loop-place.invariant.told (check_stop line c.args.grounds.now.filed.now c.loop-place.place c.loop-place.rows c.read_row.new.self c.read_row.new.row c.in_ok-read_row.field-0 c.in_ok-read_row.ensures.taken c.if-not-branch.true)

pub returns : goal.returns
returns c =
    let line = line_of c.args.grounds.now.version c.args.grounds.now.filed.now in
    let end : c.loop-place.place ≡ length c.args.grounds.now.filed.now = omega (arith, ap length c.records-place-end.ensures.records) in
    nothing_left _ _ c.loop-place.invariant.told (check_end line c.args.grounds.now.filed.now c.loop-place.place c.loop-place.rows end)
