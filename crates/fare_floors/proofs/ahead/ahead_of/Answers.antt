use Rattle.std.proofs.Common.{◌≡◌, ℕ, ◌-◌, ◌+◌, ◌≤◌, [], subst, sym, ◌∙◌, refl, ap, arith, length-set, set}
use Rattle.std.specs.Prelude.{slice_index_or}
use Rattle.fare_rules.specs.Construction.{greatest_unit, places}
use Rattle.fare_trip.specs.Itinerary.{count}
use Rattle.fare_floors.specs.Ahead.{AreBehindHalf}
use Rattle.fare_floors.specs.Stack.{AreOver}
use Rattle.fare_floors.proofs.AheadLemmas.{ahead_is, rows_put}
use Rattle.fare_floors.proofs.ahead.ahead_of.Goals as goal

pub begun_row-requires-clause-below : goal.begun_row-requires-clause-below
begun_row-requires-clause-below c = c.requires.stack.over (c.loop-unit.unit - 1) (omega arith)

pub loop-unit-init : goal.loop-unit-init
loop-unit-init c = record { long = refl; rows = λ unit low high. absurd (omega arith) }

pub loop-unit-preserved : goal.loop-unit-preserved
loop-unit-preserved c =
    let n : c.count-sectors.result ≡ count c.args.table.now.trip = c.count-sectors.ensures.value ∙ ap count c.trip.ensures in
    let most : c.count-sectors.result ≤ 16 = c.count-sectors.ensures.at_most in
    record {
      long = length-set c.loop-unit.half c.loop-unit.unit c.begun_row.result ∙ c.loop-unit.invariant.long;
      rows = rows_put (AreBehindHalf c.args.table.now c.args.homing.now c.args.front.now) c.loop-unit.half c.loop-unit.unit c.begun_row.result (omega (arith, c.loop-unit.invariant.long)) c.loop-unit.invariant.rows c.begun_row.ensures;
    }

pub new_row-requires-clause-below : goal.new_row-requires-clause-below
new_row-requires-clause-below c =
    let P : ℕ → Type 0 = λ u. AreOver c.args.table.now c.args.homing.now c.args.front.now (greatest_unit c.args.front.now (places c.args.front.now)) (slice_index_or c.args.stack.over u []) in
    let last : greatest_unit c.args.front.now (places c.args.front.now) ≡ c.greatest_unit-greatest.result = sym c.greatest_unit-greatest.ensures.value in
    subst P last (c.requires.stack.over (greatest_unit c.args.front.now (places c.args.front.now)) (omega arith))

pub returns : goal.returns
returns c =
    let n : c.count-sectors.result ≡ count c.args.table.now.trip = c.count-sectors.ensures.value ∙ ap count c.trip.ensures in
    let most : c.count-sectors.result ≤ 16 = c.count-sectors.ensures.at_most in
    let here : c.loop-unit.unit ≡ greatest_unit c.args.front.now (places c.args.front.now) + 1 = omega arith in
    let new : c.greatest_unit-greatest.result ≡ greatest_unit c.args.front.now (places c.args.front.now) = c.greatest_unit-greatest.ensures.value in
    let alone = slice_index_or c.args.stack.over c.greatest_unit-greatest.result [] in
    let P : ℕ → Type 0 = λ u. AreOver c.args.table.now c.args.homing.now c.args.front.now (greatest_unit c.args.front.now (places c.args.front.now)) (slice_index_or c.args.stack.over u []) in
    let Q : ℕ → Type 0 = λ u. AreBehindHalf c.args.table.now c.args.homing.now c.args.front.now u c.new_row.result in
    ahead_is c.args.table.now c.args.homing.now c.requires.homing c.args.front.now
    (record { floors = c.args.stack.floors; spent = c.args.stack.spent; alone = alone; half = set c.loop-unit.half (c.greatest_unit-greatest.result + 1) c.new_row.result; ceiling = c.args.homing.now.ceiling }) c.requires.stack.floors c.requires.stack.spent refl
    (subst P (sym new) (c.requires.stack.over (greatest_unit c.args.front.now (places c.args.front.now)) (omega arith)))
    (λ unit low high.
    rows_put (AreBehindHalf c.args.table.now c.args.homing.now c.args.front.now) c.loop-unit.half (c.greatest_unit-greatest.result + 1) c.new_row.result (omega (arith, c.loop-unit.invariant.long))
    (λ u one less. c.loop-unit.invariant.rows u one (omega arith)) (subst Q (ap (λ n. n + 1) (sym new)) c.new_row.ensures) unit low (omega arith))
