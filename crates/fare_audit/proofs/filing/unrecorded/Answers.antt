use Rattle.std.proofs.Common.{◌≡◌, ◌∙◌, ◌≤◌, ◌+◌, true, length, Some, arith, refl, rules, sym}
use Rattle.std.specs.Prelude.{find}
use Rattle.std.proofs.lemmas.Grind.{common_steps}
use Rattle.std.proofs.lemmas.List.{length-map}
use Rattle.fare_rules.specs.Numbers.{numbers}
use Rattle.fare_rules.proofs.NumberLemmas.{find_next}
use Rattle.fare_audit.specs.Filing.{bare_part, bare_parts, lacks_record, unrecorded}
use Rattle.fare_audit.proofs.filing.unrecorded.Goals as goal

pub returns-then-lacks_record : goal.returns-then-lacks_record
unfolding unrecorded
returns-then-lacks_record c =
    let test = lacks_record c.args.edition.now c.args.trip.now c.args.line.now in
    let within : c.loop-i.i + 1 ≤ length c.args.line.now.parts = first_of (search rules, grind (arith, common_steps)) in
    let size : length (bare_parts c.args.line.now) ≡ length c.args.line.now.parts = length-map c.args.line.now.parts bare_part in
    let here : test (c.loop-i.i + 1) ≡ true = sym c.lacks_record.ensures ∙ c.if-lacks_record.true in
    let found : find test (numbers (c.loop-i.i + 1) (length (bare_parts c.args.line.now) + 1)) ≡ Some (c.loop-i.i + 1) =
    rw (find_next test (c.loop-i.i + 1) (length (bare_parts c.args.line.now) + 1) (omega (arith, size, within)), here) refl in
    sym found ∙ c.loop-i.invariant
