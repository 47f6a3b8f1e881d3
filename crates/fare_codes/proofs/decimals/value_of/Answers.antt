use Rattle.std.proofs.Common.{arith}
use Rattle.fare_codes.specs.Numbers.{decimal_value}
use Rattle.fare_codes.proofs.NumberLemmas.{number_is_digits}
use Rattle.fare_codes.proofs.DecimalLemmas.{decimal_parts, decimal_bound, behind_is}
use Rattle.fare_codes.proofs.decimals.value_of.Goals as goal

pub overflow_sub-point : goal.overflow_sub-point
overflow_sub-point c =
    let some = (decimal_parts c.args.places c.args.bytes.now c.requires.form).some in
    omega arith

pub slice_bounds-joined_value-count : goal.slice_bounds-joined_value-count
slice_bounds-joined_value-count c =
    let some = (decimal_parts c.args.places c.args.bytes.now c.requires.form).some in
    omega arith

pub slice_bounds-joined_value-start : goal.slice_bounds-joined_value-start
slice_bounds-joined_value-start c =
    let some = (decimal_parts c.args.places c.args.bytes.now c.requires.form).some in
    omega arith

pub joined_value-requires-clause-before : goal.joined_value-requires-clause-before
joined_value-requires-clause-before c =
    number_is_digits _ (decimal_parts c.args.places c.args.bytes.now c.requires.form).before

pub joined_value-requires-clause-behind : goal.joined_value-requires-clause-behind
joined_value-requires-clause-behind c =
    let parts = decimal_parts c.args.places c.args.bytes.now c.requires.form in
    rw (behind_is c.args.places c.args.bytes.now parts.some) parts.behind

pub joined_value-requires-clause-small : goal.joined_value-requires-clause-small
unfolding decimal_value
joined_value-requires-clause-small c =
    let parts = decimal_parts c.args.places c.args.bytes.now c.requires.form in
    rw (behind_is c.args.places c.args.bytes.now parts.some) (decimal_bound c.args.places c.args.bytes.now c.requires.form)

pub returns : goal.returns
unfolding decimal_value
returns c =
    let parts = decimal_parts c.args.places c.args.bytes.now c.requires.form in
    rw (behind_is c.args.places c.args.bytes.now parts.some) at c.joined_value.ensures
