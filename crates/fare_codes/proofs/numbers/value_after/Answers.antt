use Rattle.std.proofs.Common.{◌+◌, ◌-◌, ◌*◌, get_or, arith}
use Rattle.fare_codes.proofs.NumberLemmas.{value_after_more, value_after_take_le, not_read}
use Rattle.fare_codes.proofs.numbers.value_after.Goals as goal

pub returns-then-value-most-clause-value : goal.returns-then-value-most-clause-value
returns-then-value-most-clause-value c =
    let more = value_after_more c.args.start c.args.bytes.now c.loop-byte.byte-index c.loop-byte-test.true c.requires.form in
    let front = value_after_take_le c.args.start c.args.bytes.now (c.loop-byte.byte-index + 1) in
    let read = c.loop-byte.invariant.read in
    not_read (10 * c.loop-byte.value + (get_or c.args.bytes.now c.loop-byte.byte-index 0 - 48)) _ _ (omega arith) (omega arith)
