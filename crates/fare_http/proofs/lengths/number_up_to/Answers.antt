use Rattle.std.proofs.Common.{◌+◌, ◌-◌, ◌*◌, get_or, arith}
use Rattle.std.proofs.lemmas.Str.Parse.{digits_value-take-le}
use Rattle.fare_http.proofs.LengthLemmas.{number_more, not_read}
use Rattle.fare_http.proofs.lengths.number_up_to.Goals as goal

pub returns-then-number-most : goal.returns-then-number-most
returns-then-number-most c =
    let digits = c.args.digits.now in
    let at = c.loop-digit.digit-index in
    let more = number_more digits at c.loop-digit-test.true c.requires.digits in
    let front = digits_value-take-le 10 digits (at + 1) (omega arith) in
    let read = c.loop-digit.invariant.read in
    not_read (10 * c.loop-digit.number + (get_or digits at 0 - 48)) c.args.most digits (omega (arith, c.if-number-most.true)) (omega (arith, more, front, read))

pub loop-digit-preserved : goal.loop-digit-preserved
loop-digit-preserved c =
    let digits = c.args.digits.now in
    let at = c.loop-digit.digit-index in
    let more = number_more digits at c.loop-digit-test.true c.requires.digits in
    let read = c.loop-digit.invariant.read in
    record { read = omega (arith, more, read); small = omega (arith, c.if-number-most.false) }
