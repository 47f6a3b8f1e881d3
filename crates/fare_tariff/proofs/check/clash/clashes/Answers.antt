-- the walk, step by step
use Rattle.std.proofs.Common.{◌≡◌, ◌+◌, ◌<◌, ◌≤◌, get_or, ap, ◌∙◌, arith}
use Rattle.fare_records.specs.declared.limits.TheConstants.{MOST_FARES_BETWEEN}
use Rattle.fare_tariff.proofs.Clashes.{clear_first, clear_end, clear_past, clear_full, clear_over, clear_next}
use Rattle.fare_tariff.proofs.check.clash.clashes.Goals as goal

pub loop-at-init : goal.loop-at-init
loop-at-init c = clear_first c.args.filed.now c.args.place c.args.key.now c.args.season c.args.first c.requires

pub returns-then-other-place : goal.returns-then-other-place
returns-then-other-place c =
    clear_past c.args.filed.now c.args.place c.args.key.now c.args.season c.loop-at.passed c.loop-at.at c.in-Some.other c.in-Some.is c.if-other-place.true c.loop-at.invariant

pub returns-then-passed : goal.returns-then-passed
returns-then-passed c =
    let full : MOST_FARES_BETWEEN ≤ c.loop-at.passed + 1 = omega (arith, c.if-passed.true) in
    clear_full c.args.filed.now c.args.place c.args.key.now c.args.season c.loop-at.passed c.loop-at.at c.in-Some.other c.in-Some.is c.if-other-place.false full c.loop-at.invariant

pub returns-then-is_sought : goal.returns-then-is_sought
returns-then-is_sought c =
    let read : c.index-records-other.result ≡ get_or c.args.filed.now c.in-Some.other c.index-records-other.result = c.index-records-other.is ∙ ap (λ l. get_or l c.in-Some.other c.index-records-other.result) c.records.ensures.records in
    clear_over c.args.filed.now c.args.place c.args.key.now c.args.season c.loop-at.passed c.loop-at.at c.in-Some.other c.index-records-other.result c.in-Some.is c.if-other-place.false read c.if-is_sought.ensures c.loop-at.invariant

pub loop-at-smaller : goal.loop-at-smaller
loop-at-smaller c =
    let read : c.index-records-other.result ≡ get_or c.args.filed.now c.in-Some.other c.index-records-other.result = c.index-records-other.is ∙ ap (λ l. get_or l c.in-Some.other c.index-records-other.result) c.records.ensures.records in
    let few : c.loop-at.passed < 63 = omega (arith, c.if-passed.false) in
    (clear_next c.args.filed.now c.args.place c.args.key.now c.args.season c.loop-at.passed c.loop-at.at c.next-at.result c.in-Some.other c.index-records-other.result c.in-Some.is c.if-other-place.false few read c.if-is_sought.ensures (c.next-at.ensures c.index-records-other.result) c.loop-at.invariant).1

pub loop-at-preserved : goal.loop-at-preserved
loop-at-preserved c =
    let read : c.index-records-other.result ≡ get_or c.args.filed.now c.in-Some.other c.index-records-other.result = c.index-records-other.is ∙ ap (λ l. get_or l c.in-Some.other c.index-records-other.result) c.records.ensures.records in
    let few : c.loop-at.passed < 63 = omega (arith, c.if-passed.false) in
    (clear_next c.args.filed.now c.args.place c.args.key.now c.args.season c.loop-at.passed c.loop-at.at c.next-at.result c.in-Some.other c.index-records-other.result c.in-Some.is c.if-other-place.false few read c.if-is_sought.ensures (c.next-at.ensures c.index-records-other.result) c.loop-at.invariant).0

pub returns : goal.returns
returns c = clear_end c.args.filed.now c.args.place c.args.key.now c.args.season c.loop-at.passed c.loop-at.at c.in_default.is c.loop-at.invariant
