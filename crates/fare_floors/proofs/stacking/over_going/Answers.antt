use Rattle.std.proofs.Common.{◌≡◌, ℕ, ◌≤◌, length, ap, subst, ◌∙◌, arith}
use Rattle.fare_trip.specs.Itinerary.{Itinerary, count}
use Rattle.fare_rules.specs.Construction.{end_of, greatest_unit, places}
use Rattle.fare_floors.proofs.OverLastLemmas.{over_both, over_lasts_unit}
use Rattle.fare_floors.proofs.StackFloorLemmas.{over_open_unit}
use Rattle.fare_floors.specs.Stack.{AreHomes, IsOverOpen}
use Rattle.fare_bounds.specs.Covers.{rest_at}
use Rattle.fare_floors.proofs.stacking.over_going.Goals as goal

pub over_lasts-lasts-requires-clause-few : goal.over_lasts-lasts-requires-clause-few
over_lasts-lasts-requires-clause-few c =
    let n : c.count-sectors.result ≡ count c.args.table.now.trip = c.count-sectors.ensures.value ∙ ap count c.trip.ensures in
    let ends : end_of c.args.partial.now (length c.args.partial.now) ≤ count c.args.table.now.trip = c.requires.made.advances.ends (length c.args.partial.now) in
    let few : length c.args.partial.now ≤ end_of c.args.partial.now (length c.args.partial.now) = c.requires.made.few in
    let ordered : greatest_unit c.args.partial.now (places c.args.partial.now) ≤ length c.args.partial.now = c.requires.made.ordered in
    omega (arith, c.requires.high, c.count-sectors.ensures.at_most)

pub returns : goal.returns
returns c =
    let R : ℕ → Type 0 = λ from. AreHomes c.args.table.now.edition c.args.table.now.trip from c.args.opened.start c.args.opened.closes c.args.behind.now c.homes_of-homes.result in
    let homes = subst R c.end.ensures.value c.homes_of-homes.ensures in
    let n : count c.trip-2.result.now ≡ count c.args.table.now.trip = ap count c.trip-2.ensures in
    let rows : (i : ℕ) → end_of c.args.partial.now (length c.args.partial.now) ≤ i → i ≤ count c.args.table.now.trip → IsOverOpen c.args.table.now.trip c.args.homing.now (end_of c.args.partial.now (length c.args.partial.now)) c.args.opened.closes c.args.opened.stands c.args.opened.start c.args.opened.must i c.homes_of-homes.result (rest_at c.args.behind.now i) (rest_at c.over_open-row.result i) =
    λ i low most.
    let T : Itinerary → Type 0 = λ trip. IsOverOpen trip c.args.homing.now c.end-2.result c.args.opened.closes c.args.opened.stands c.args.opened.start c.args.opened.must i c.homes_of-homes.result (rest_at c.args.behind.now i) (rest_at c.over_open-row.result i) in
    let E : ℕ → Type 0 = λ from. IsOverOpen c.args.table.now.trip c.args.homing.now from c.args.opened.closes c.args.opened.stands c.args.opened.start c.args.opened.must i c.homes_of-homes.result (rest_at c.args.behind.now i) (rest_at c.over_open-row.result i) in
    subst E c.end-2.ensures.value (subst T c.trip-2.ensures (c.over_open-row.ensures i (omega (arith, c.end-2.ensures.value)) (omega arith))) in
    over_both c.args.table.now c.args.homing.now c.args.partial.now c.args.unit c.over_open-row.result c.over_lasts-lasts.result c.greater_of.result
    (over_open_unit c.args.table.now c.args.homing.now c.args.partial.now c.args.unit c.requires.low c.requires.high c.args.behind.now c.requires.behind c.args.opened c.requires.opened c.over_open-row.result (c.homes_of-homes.result, homes, rows))
    (over_lasts_unit c.args.table.now c.args.homing.now c.args.partial.now c.args.unit c.requires.low c.requires.high c.args.behind.now c.requires.behind c.args.opened c.requires.opened c.homes_of-homes.result c.over_lasts-lasts.result homes c.over_lasts-lasts.ensures)
    c.greater_of.ensures
