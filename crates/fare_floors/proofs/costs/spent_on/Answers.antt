use Rattle.std.proofs.Common.{◌≡◌, ◌+◌, ◌≤◌, arith}
use Rattle.std.specs.Prelude.{slice_index, sum_by}
use Rattle.fare_rules.specs.Numbers.{numbers}
use Rattle.fare_rules.proofs.NumberLemmas.{sum_next}
use Rattle.fare_floors.proofs.costs.spent_on.Goals as goal

pub loop-unit-preserved : goal.loop-unit-preserved
loop-unit-preserved c cost same =
    let next : sum_by cost (numbers c.loop-unit.unit (c.args.greatest + 1)) ≡ cost c.loop-unit.unit + sum_by cost (numbers (c.loop-unit.unit + 1) (c.args.greatest + 1)) = sum_next cost c.loop-unit.unit (c.args.greatest + 1) (omega arith) in
    let here : slice_index c.args.floors.now c.loop-unit.unit ≡ cost c.loop-unit.unit = same c.loop-unit.unit (omega arith) (omega arith) in
    let before : c.loop-unit.total + sum_by cost (numbers c.loop-unit.unit (c.args.greatest + 1)) ≤ sum_by cost (numbers 1 (c.args.greatest + 1)) = c.loop-unit.invariant cost same in
    omega arith

pub returns : goal.returns
returns c cost same =
    let before : c.loop-unit.total + sum_by cost (numbers c.loop-unit.unit (c.args.greatest + 1)) ≤ sum_by cost (numbers 1 (c.args.greatest + 1)) = c.loop-unit.invariant cost same in
    omega arith
