use Rattle.std.proofs.Common.{◌≡◌, ℕ, ◌+◌, arith, false, List, Option, Some, None, length, ap, sym, subst, ◌∙◌}
use Rattle.std.specs.Prelude.{option_map}
use Rattle.fare_trip.specs.Itinerary.{Itinerary, sector}
use Rattle.fare_rules.specs.declared.part.Part.{Part}
use Rattle.fare_rules.specs.Construction.{end_of}
use Rattle.fare_rules.specs.UnitPrice.{price}
use Rattle.fare_bounds.specs.Covers.{IsCover, IsLeast, rest_at}
use Rattle.fare_floors.specs.Costs.{units_floor}
use Rattle.fare_floors.specs.Floors.{IsFloorAnswer, IsNoLess}
use Rattle.fare_floors.proofs.FloorLemmas.{sum_is_floor}
use Rattle.fare_floors.proofs.ShutLemmas.{floor_is_below, shut_floor}
use Rattle.fare_floors.proofs.floors.floor_of.Goals as goal

pub returns-in-None : goal.returns-in-None
returns-in-None c =
    let P : Itinerary → Type 0 = λ trip. (sector trip 1).surface ≡ false in
    let flown : (sector c.args.table.now.trip 1).surface ≡ false = subst P c.trip-trip.ensures c.law.ensures.ordered.first_flown in
    let same : rest_at c.args.rest.now (end_of c.args.partial.now (length c.args.partial.now)) ≡ None = sym (ap (rest_at c.args.rest.now) c.end.ensures.value) ∙ sym c.in-None.ensures.value in
    let Q : Option ℕ → Type 0 = λ behind. IsLeast (IsCover c.args.table.now.edition c.args.table.now.trip (end_of c.args.partial.now (length c.args.partial.now))) behind in
    record {
      floor = sum_is_floor c.args.table.now.edition c.args.table.now.trip c.args.partial.now (units_floor c.args.table.now.edition c.args.table.now.trip c.args.partial.now) None flown
          (floor_is_below c.args.table.now.edition c.args.table.now.trip c.args.partial.now)
          (subst Q same (c.requires.rest (end_of c.args.partial.now (length c.args.partial.now))));
      shut = λ shut. tt;
    }

pub returns-in-Some : goal.returns-in-Some
returns-in-Some c =
    let P : Itinerary → Type 0 = λ trip. (sector trip 1).surface ≡ false in
    let flown : (sector c.args.table.now.trip 1).surface ≡ false = subst P c.trip-trip.ensures c.law.ensures.ordered.first_flown in
    let same : rest_at c.args.rest.now (end_of c.args.partial.now (length c.args.partial.now)) ≡ Some c.in-Some.least = sym (ap (rest_at c.args.rest.now) c.end.ensures.value) ∙ sym c.in-Some.ensures.value in
    let Q : Option ℕ → Type 0 = λ behind. IsLeast (IsCover c.args.table.now.edition c.args.table.now.trip (end_of c.args.partial.now (length c.args.partial.now))) behind in
    let R : ℕ → Type 0 = λ spent. IsFloorAnswer c.args.table.now.edition c.args.table.now.trip c.args.partial.now (Some (spent + c.in-Some.least)) in
    let parts : List Part → Type 0 = λ xs. c.units_floor-spent.result ≡ units_floor c.args.table.now.edition c.args.table.now.trip xs in
    let value : c.units_floor-spent.result ≡ units_floor c.args.table.now.edition c.args.table.now.trip c.args.partial.now = subst parts c.parts.ensures.parts c.units_floor-spent.ensures.value in
    record {
      floor = subst R (sym value)
          (sum_is_floor c.args.table.now.edition c.args.table.now.trip c.args.partial.now (units_floor c.args.table.now.edition c.args.table.now.trip c.args.partial.now) (Some c.in-Some.least) flown
          (floor_is_below c.args.table.now.edition c.args.table.now.trip c.args.partial.now)
          (subst Q same (c.requires.rest (end_of c.args.partial.now (length c.args.partial.now)))));
      shut = λ shut.
          let floor : Option ℕ = Some (c.units_floor-spent.result + c.in-Some.least) in
          let is : floor ≡ option_map (λ least. price c.args.table.now.edition c.args.table.now.trip c.args.partial.now + least) (rest_at c.args.rest.now (end_of c.args.partial.now (length c.args.partial.now))) =
          ap (λ spent. Some (spent + c.in-Some.least)) (value ∙ shut_floor c.args.table.now.edition c.args.table.now.trip c.args.partial.now shut)
          ∙ sym (ap (option_map (λ least. price c.args.table.now.edition c.args.table.now.trip c.args.partial.now + least)) same) in
          subst (λ x. IsNoLess x floor) is (omega arith);
    }
