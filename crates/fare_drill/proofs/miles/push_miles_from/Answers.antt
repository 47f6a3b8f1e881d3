-- the miles to the next city, and behind the last one
use Rattle.std.proofs.Common.{◌≡◌, ℕ, ◌+◌, ◌-◌, ◌<◌, ◌++◌, List, [], ◌∷◌, length, map, get_or, refl, ap, sym, ◌∙◌, arith}
use Rattle.std.specs.List.{enumerate_from, range_with_len}
use Rattle.std.proofs.lemmas.List.FromFn.{get_or-map-range_with_len, length-map-range_with_len, map-range_with_len_more}
use Rattle.fare_codes.specs.declared.city.City.{City}
use Rattle.fare_drill.specs.Cities.{extra_city}
use Rattle.fare_drill.specs.Miles.{extra_miles, pair}
use Rattle.fare_drill.proofs.Growing.{first_made, numbered_joined}
use Rattle.fare_drill.proofs.miles.push_miles_from.Goals as goal

-- one of the extra cities is that of its place
city_at : (cities : List City) (i : ℕ) (one : City) → cities ≡ map extra_city (range_with_len 0 (length cities)) → i < length cities → one ≡ get_or cities i one → one ≡ extra_city i
city_at cities i one all within is =
    is ∙ ap (λ l. get_or l i one) all ∙ get_or-map-range_with_len extra_city 0 (length cities) i i one within (omega arith)

pub loop-k-preserved : goal.loop-k-preserved
loop-k-preserved c =
    let from : c.index-cities-first.result ≡ extra_city c.args.first = city_at c.args.cities.now c.args.first _ c.requires.cities c.requires.one c.index-cities-first.is in
    let to : c.index-cities-first-in-loop-k.result ≡ extra_city (c.args.first + 1 + c.loop-k.k) = city_at c.args.cities.now (c.args.first + 1 + c.loop-k.k) _ c.requires.cities (omega (arith, c.min-count.ensures, c.loop-k-test.true)) c.index-cities-first-in-loop-k.is in
    let made : c.extra_miles-miles.result ≡ extra_miles (c.args.start + c.loop-k.k, pair c.args.first (c.args.first + 1 + c.loop-k.k)) = c.extra_miles-miles.ensures (pair c.args.first (c.args.first + 1 + c.loop-k.k)) from to in (
      numbered_joined extra_miles c.args.records.now.items c.loop-k.records.items _ c.args.start (c.args.start + c.loop-k.k) (map (pair c.args.first) (range_with_len (c.args.first + 1) c.loop-k.k)) (pair c.args.first (c.args.first + 1 + c.loop-k.k) ∷ []) c.loop-k.invariant.0
          (c.push_reserved.ensures.items ∙ ap (λ miles. c.loop-k.records.items ++ miles ∷ []) made)
          (ap (λ n. c.args.start + n) (length-map-range_with_len (pair c.args.first) (c.args.first + 1) c.loop-k.k))
          ∙ ap (λ pairs. c.args.records.now.items ++ map extra_miles (enumerate_from c.args.start pairs)) (sym (map-range_with_len_more (pair c.args.first) (c.args.first + 1) c.loop-k.k (c.args.first + 1 + c.loop-k.k) refl)),
      omega (arith, c.min-count.ensures, c.loop-k-test.true, c.loop-k.invariant.1, c.push_reserved.ensures.len, c.push_reserved.ensures.capacity),
    )

pub returns-clause-records : goal.returns-clause-records
returns-clause-records c =
    c.loop-k.invariant.0
    ∙ ap (λ pairs. c.args.records.now.items ++ map extra_miles (enumerate_from c.args.start pairs))
    (sym (first_made (pair c.args.first) (c.args.first + 1) (length c.args.cities.now - (c.args.first + 1)) (c.args.end - c.args.start) c.loop-k.k (omega (arith, c.min-count.ensures, c.loop-k-test.false, c.loop-k.auto.k-end))))
