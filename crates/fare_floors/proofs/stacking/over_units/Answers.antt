use Rattle.std.proofs.Common.{rules, ◌≡◌, ℕ, ◌-◌, ◌≤◌, [], length, length-set, replicate, set, sym, subst, ◌∙◌, ap, arith}
use Rattle.std.specs.Prelude.{None, slice_index_or}
use Rattle.fare_trip.specs.Itinerary.{count}
use Rattle.fare_rules.specs.Construction.{end_of, greatest_unit, places}
use Rattle.fare_bounds.specs.Covers.{rest_at}
use Rattle.fare_legs.specs.Costs.{IsUpTo}
use Rattle.fare_floors.specs.Barring.{left_of}
use Rattle.fare_floors.specs.Stack.{AreOver}
use Rattle.fare_floors.proofs.AheadLemmas.{rows_more}
use Rattle.fare_floors.proofs.stacking.over_units.Goals as goal

pub over_unit-requires-clause-behind : goal.over_unit-requires-clause-behind
over_unit-requires-clause-behind c = c.loop-unit.invariant.over (c.loop-unit.unit - 1) (omega arith)

pub loop-unit-init : goal.loop-unit-init
loop-unit-init c = record {
  long = search rules;
  over = λ unit less.
      let none : 0 ≡ unit = omega arith in
      let same : c.left_of.result ≡ left_of c.args.table.now.edition c.args.homing.now c.args.partial.now = c.left_of.ensures ∙ ap (left_of c.args.table.now.edition c.args.homing.now) c.parts.ensures.parts in
      let P : ℕ → Type 0 = λ u. AreOver c.args.table.now c.args.homing.now c.args.partial.now u (slice_index_or (set (replicate 18 (replicate 17 None)) 0 c.left_of.result) u []) in
      subst P none (λ rest price i cost lawful cheap low most over. subst (λ row. IsUpTo cost (rest_at row i)) (sym same) over);
}

pub loop-unit-preserved : goal.loop-unit-preserved
loop-unit-preserved c =
    let n : c.count-sectors.result ≡ count c.args.table.now.trip = c.count-sectors.ensures.value ∙ ap count c.trip.ensures in
    let ends : end_of c.args.partial.now (length c.args.partial.now) ≤ count c.args.table.now.trip = c.requires.made.advances.ends (length c.args.partial.now) in
    let few : length c.args.partial.now ≤ end_of c.args.partial.now (length c.args.partial.now) = c.requires.made.few in
    let ordered : greatest_unit c.args.partial.now (places c.args.partial.now) ≤ length c.args.partial.now = c.requires.made.ordered in
    let within : c.loop-unit.unit ≤ 17 = omega (arith, c.count-sectors.ensures.at_most) in
    record {
      long = length-set c.loop-unit.over c.loop-unit.unit c.over_unit.result ∙ c.loop-unit.invariant.long;
      over = rows_more (AreOver c.args.table.now c.args.homing.now c.args.partial.now) c.loop-unit.over c.loop-unit.unit c.over_unit.result (omega (arith, c.loop-unit.invariant.long)) c.loop-unit.invariant.over c.over_unit.ensures;
    }

pub returns : goal.returns
returns c unit most = c.loop-unit.invariant.over unit (omega arith)
