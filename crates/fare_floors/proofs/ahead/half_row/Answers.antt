use Rattle.std.proofs.Common.{◌≡◌, ℕ, ◌+◌, Option, Bool, ap, subst, ◌∙◌, arith, length-set}
use Rattle.fare_trip.specs.Itinerary.{Itinerary, count}
use Rattle.fare_bounds.specs.Covers.{rest_at}
use Rattle.fare_floors.specs.Ahead.{must_go_from}
use Rattle.fare_floors.specs.Stack.{IsOverOpen}
use Rattle.fare_floors.proofs.StackRowLemmas.{row_put}
use Rattle.fare_floors.proofs.ahead.half_row.Goals as goal

pub loop-i-preserved : goal.loop-i-preserved
loop-i-preserved c =
    let P : ℕ → Option ℕ → Type 0 = λ i number. IsOverOpen c.trip-trip.result.now c.args.homing.now (i + 1) c.args.begun i c.args.start (must_go_from c.args.table.now.edition c.args.table.now.trip c.args.start c.args.begun i) i c.homes_of-homes.result (rest_at c.args.below.now i) number in
    let Q : Bool → Type 0 = λ must. IsOverOpen c.trip-trip.result.now c.args.homing.now (c.loop-i.i + 1) c.args.begun c.loop-i.i c.args.start must c.loop-i.i c.homes_of-homes.result c.number_at-behind.result c.over_point.result in
    let R : Option ℕ → Type 0 = λ behind. IsOverOpen c.trip-trip.result.now c.args.homing.now (c.loop-i.i + 1) c.args.begun c.loop-i.i c.args.start (must_go_from c.args.table.now.edition c.args.table.now.trip c.args.start c.args.begun c.loop-i.i) c.loop-i.i c.homes_of-homes.result behind c.over_point.result in
    record {
      long = length-set c.loop-i.row c.loop-i.i c.over_point.result ∙ c.loop-i.invariant.long;
      known = row_put P c.loop-i.row c.args.from c.loop-i.i c.over_point.result (omega (arith, c.loop-i.invariant.long)) c.loop-i.invariant.known (subst R c.number_at-behind.ensures (subst Q c.must_go_from.ensures c.over_point.ensures));
    }

pub returns : goal.returns
returns c =
    let n : c.count-i-end.result ≡ count c.args.table.now.trip = c.count-i-end.ensures.value ∙ ap count c.trip-trip.ensures in (
      c.homes_of-homes.result,
      c.homes_of-homes.ensures,
      λ i low most.
          let P : Itinerary → Type 0 = λ trip. IsOverOpen trip c.args.homing.now (i + 1) c.args.begun i c.args.start (must_go_from c.args.table.now.edition c.args.table.now.trip c.args.start c.args.begun i) i c.homes_of-homes.result (rest_at c.args.below.now i) (rest_at c.loop-i.row i) in
          subst P c.trip-trip.ensures (c.loop-i.invariant.known i low (omega arith)),
    )
