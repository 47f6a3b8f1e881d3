use Rattle.std.proofs.Common.{◌<◌, ◌+◌, ℕ, List, [], ◌∷◌, ◌++◌, map, ap, sym, ◌∙◌, append_assoc, arith}
use Rattle.fare_codes.specs.declared.city.City.{City}
use Rattle.fare_trip.specs.Itinerary.{point}
use Rattle.fare_rules.specs.Numbers.{numbers}
use Rattle.fare_mileage.proofs.Cities.{cities_next}
use Rattle.fare_mileage.proofs.miles.interior_cities.Goals as goal

pub loop-i-preserved : goal.loop-i-preserved
loop-i-preserved c =
    let city : ℕ → City = point c.args.trip.now in
    let before : List City = c.loop-i.cities.items in
    let rest : List City = map city (numbers (c.loop-i.i + 1) c.args.b) in
    let left : c.loop-i.i < c.args.b = omega arith in
    record {
      whole =
          ap (λ l. l ++ rest) (c.push.ensures.items ∙ ap (λ (x : City). before ++ x ∷ []) c.point.ensures)
          ∙ append_assoc before (city c.loop-i.i ∷ []) rest
          ∙ ap (λ l. before ++ l) (sym (cities_next city c.loop-i.i c.args.b left))
          ∙ c.loop-i.invariant.whole;
      count = omega (arith, c.push.ensures.len);
    }
