use Rattle.std.proofs.Common.{◌≡◌, [], false, length, rules}
use Rattle.std.specs.Prelude.{◌==◌, slice_index_or}
use Rattle.fare_csv.proofs.LinesTaken.{taken-last, taken-more, taken-none}
use Rattle.fare_csv.proofs.plain_line.take_line.Goals as goal

pub loop-first-init : goal.loop-first-init
loop-first-init c = rw c.clear.ensures (taken-none c.args.text.now)

pub returns-then-not-is_empty-clause-line : goal.returns-then-not-is_empty-clause-line
returns-then-not-is_empty-clause-line c =
    let some : (length (slice_index_or c.push.new.self 0 []) == 0) ≡ false = search rules in
    (taken-last c.loop-first.row c.push.new.self c.in-Some.first.field.now c.loop-first.rest.now c.in-Some.first.behind.now c.args.text.now
    c.in-Some.first.mark c.loop-first.invariant c.in-Some.ensures.0 c.in-Some.ensures.1 c.in_ok-push.ensures c.if-first-eq10.true some).0

pub returns-then-not-is_empty-clause-plain : goal.returns-then-not-is_empty-clause-plain
returns-then-not-is_empty-clause-plain c =
    let some : (length (slice_index_or c.push.new.self 0 []) == 0) ≡ false = search rules in
    (taken-last c.loop-first.row c.push.new.self c.in-Some.first.field.now c.loop-first.rest.now c.in-Some.first.behind.now c.args.text.now
    c.in-Some.first.mark c.loop-first.invariant c.in-Some.ensures.0 c.in-Some.ensures.1 c.in_ok-push.ensures c.if-first-eq10.true some).1

pub loop-first-preserved : goal.loop-first-preserved
loop-first-preserved c =
    taken-more c.loop-first.row c.push.new.self c.in-Some.first.field.now c.loop-first.rest.now c.in-Some.first.behind.now c.args.text.now
    c.in-Some.first.mark c.loop-first.invariant c.in-Some.ensures.0 c.in-Some.ensures.1 c.in_ok-push.ensures c.if-first-ne44.false
