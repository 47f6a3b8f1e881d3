use Rattle.std.proofs.Common.{◌≡◌, ◌∙◌, ◌-◌, Ok, Err, length, arith, sym, ap}
use Rattle.fare_line.specs.reader.Draft.{whole_line}
use Rattle.fare_line.proofs.LineLaws.{found_one, not_both, whole_found, whole_stops}
use Rattle.fare_line.proofs.LineLengths.{front_length}
use Rattle.fare_line.proofs.reading.read_line.Goals as goal

pub overflow_sub-result : goal.overflow_sub-result
overflow_sub-result c =
    let e : whole_line c.args.bytes.now ≡ Err c.in-Err.left = sym c.whole_line.ensures ∙ c.in-Err.is in
    (whole_stops c.args.bytes.now c.in-Err.left e).0

pub overflow_cast-result : goal.overflow_cast-result
overflow_cast-result c =
    let e : whole_line c.args.bytes.now ≡ Err c.in-Err.left = sym c.whole_line.ensures ∙ c.in-Err.is in
    omega (arith, front_length c.args.bytes.now (length c.args.bytes.now - c.in-Err.left) (whole_stops c.args.bytes.now c.in-Err.left e).1)

pub returns-in-Ok-clause-found : goal.returns-in-Ok-clause-found
returns-in-Ok-clause-found c =
    let e : whole_line c.args.bytes.now ≡ Ok c.in-Ok.line = sym c.whole_line.ensures ∙ c.in-Ok.is in
    whole_found c.args.bytes.now c.in-Ok.line e

pub returns-in-Ok-clause-only : goal.returns-in-Ok-clause-only
returns-in-Ok-clause-only c line valid text =
    let e : whole_line c.args.bytes.now ≡ Ok c.in-Ok.line = sym c.whole_line.ensures ∙ c.in-Ok.is in
    ap (λ k. Ok k) (found_one c.args.bytes.now c.in-Ok.line line e valid text)

pub returns-in-Err-clause-only : goal.returns-in-Err-clause-only
returns-in-Err-clause-only c line valid text =
    let e : whole_line c.args.bytes.now ≡ Err c.in-Err.left = sym c.whole_line.ensures ∙ c.in-Err.is in
    absurd (not_both c.args.bytes.now c.in-Err.left line e valid text)

pub returns-in-Err-clause-bad : goal.returns-in-Err-clause-bad
returns-in-Err-clause-bad c =
    let e : whole_line c.args.bytes.now ≡ Err c.in-Err.left = sym c.whole_line.ensures ∙ c.in-Err.is in
    (whole_stops c.args.bytes.now c.in-Err.left e).1
