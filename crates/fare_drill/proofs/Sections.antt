-- The sections of a drill's records: in each the ranks rise, and each record is fit.
use Rattle.std.proofs.Common.{◌≡◌, ◌≢◌, ℕ, ◌+◌, ◌*◌, ◌^◌, ◌<◌, ◌≤◌, Bool, true, false, List, [], ◌∷◌, map, ◌==◌, if◌then◌else◌, refl, arith}
use Rattle.std.specs.List.{range_with_len}
use Rattle.std.proofs.lemmas.Bool.{eqb-false}
use Rattle.fare_records.specs.declared.record.Record.{Record}
use Rattle.fare_tariff.specs.Check.{is_unknown_rule}
use Rattle.fare_drill.specs.Cities.{city, city_record}
use Rattle.fare_drill.specs.Fares.{FareWay, ways, ways_from, ways_to, ways_between, fare_of, fares, drawn_fare}
use Rattle.fare_drill.specs.Drill.{currencies, rule_record}
use Rattle.fare_drill.proofs.RisingLists.{Rising, rising_numbered, rising_pieces, rising_row, rising_wider}
use Rattle.fare_drill.proofs.Ranks.{rank, value, fare_rank, option_value, kind_value, carrier_value, rule_value, different_text}
use Rattle.fare_drill.proofs.NoFault.{IsFit}
use Rattle.fare_drill.proofs.Known.{IsFiled, country_known, both_known}

-- the number of a city's code
pub city_value : (i : ℕ) → i < 26 → value (city i) ≡ 4_407_617 + i
unfolding value
city_value i few = omega arith

-- the currencies
pub currencies_rise : (all : List Record) → Rising rank (IsFit all) 0 currencies (2 ^ 56 * 67)
unfolding Rising rank value
currencies_rise all = (
  record { known_city = refl; known_rule = refl; known_currency = refl; points_differ = refl; above_zero = refl },
  omega arith,
  (
    record { known_city = refl; known_rule = refl; known_currency = refl; points_differ = refl; above_zero = refl },
    omega arith,
    omega arith,
  ),
)

-- the cities
pub cities_rise : (all : List Record) (count : ℕ) → count ≤ 26 → IsFiled all count → Rising rank (IsFit all) (2 ^ 56 * 67) (map city_record (range_with_len 0 count)) (2 ^ 56 * 67 + 2 * 2 ^ 52)
unfolding rank
cities_rise all count few filed =
    let bound : ℕ → ℕ = λ i. 2 ^ 56 * 67 + 2 ^ 52 + 4_407_617 + i in
    let rises : Rising rank (IsFit all) (bound 0) (map city_record (range_with_len 0 count)) (bound (0 + count)) =
    rising_row rank (IsFit all) city_record bound 0 count (λ i low high. (
      record { known_city = refl; known_rule = refl; known_currency = country_known all count i filed; points_differ = refl; above_zero = refl },
      omega (arith, city_value i (omega arith)),
      omega (arith, city_value i (omega arith)),
    )) in
    rising_wider rank (IsFit all) (bound 0) _ _ (bound (0 + count)) _ rises (omega arith) (omega arith)

-- the rule
pub rule_rises : (all : List Record) → Rising rank (IsFit all) (2 ^ 56 * 67 + 2 * 2 ^ 52) (rule_record ∷ []) (2 ^ 56 * 67 + 3 * 2 ^ 52)
unfolding Rising rank
rule_rises all =
    (record { known_city = refl; known_rule = refl; known_currency = refl; points_differ = refl; above_zero = refl }, omega arith, omega arith)

-- a way goes between two cities of so many that differ, by a rule that is filed
record IsFitWay (all : List Record) (count : ℕ) (way : FareWay) : Type 0 where
  from_below : way.from < count
  to_below : way.to < count
  differ : way.from ≢ way.to
  rule_known : is_unknown_rule all way.rule ≡ false

-- the rank of a way's fare, whatever its draw
way_rank : FareWay → ℕ
way_rank way = rank (fare_of way 0)

-- the eight ways between two cities
eight_rise : (all : List Record) (count i j : ℕ) → IsFiled all count → i < count → j < count → i ≢ j → Rising way_rank (IsFitWay all count) (fare_rank (city i) (city j)) (ways_between i j) (fare_rank (city i) (city j) + 8)
unfolding Rising way_rank rank fare_rank option_value kind_value carrier_value rule_value
eight_rise all count i j filed from to differ = (
  record { from_below = from; to_below = to; differ = differ; rule_known = refl },
  omega arith,
  (
    record { from_below = from; to_below = to; differ = differ; rule_known = filed.rule_known },
    omega arith,
    (
      record { from_below = from; to_below = to; differ = differ; rule_known = refl },
      omega arith,
      (
        record { from_below = from; to_below = to; differ = differ; rule_known = filed.rule_known },
        omega arith,
        (
          record { from_below = from; to_below = to; differ = differ; rule_known = refl },
          omega arith,
          (
            record { from_below = from; to_below = to; differ = differ; rule_known = filed.rule_known },
            omega arith,
            (
              record { from_below = from; to_below = to; differ = differ; rule_known = refl },
              omega arith,
              (
                record { from_below = from; to_below = to; differ = differ; rule_known = filed.rule_known },
                omega arith,
                omega arith,
              ),
            ),
          ),
        ),
      ),
    ),
  ),
)

-- the ways from a city to another, if it is another
ways_to_rise : (all : List Record) (count i j : ℕ) → IsFiled all count → i < count → j < count → Rising way_rank (IsFitWay all count) (fare_rank (city i) (city j)) (ways_to i j) (fare_rank (city i) (city j) + 8)
unfolding Rising
ways_to_rise all count i j filed from to = by_test (i == j) refl
  where
    by_test : (same : Bool) → (i == j) ≡ same → Rising way_rank (IsFitWay all count) (fare_rank (city i) (city j)) (if same then [] else ways_between i j) (fare_rank (city i) (city j) + 8)
    by_test true e = omega arith
    by_test false e = eight_rise all count i j filed from to (eqb-false i j e)

-- the least rank of the fares from a city of a number to another
between_bound : ℕ → ℕ → ℕ
between_bound i j = 2 ^ 56 * 67 + 3 * 2 ^ 52 + 8 * (2 ^ 24 * (4_407_617 + i) + (4_407_617 + j))

fare_rank-city : (i j : ℕ) → i < 26 → j < 26 → fare_rank (city i) (city j) ≡ between_bound i j
unfolding fare_rank between_bound
fare_rank-city i j from to = omega (arith, city_value i from, city_value j to)

-- the least rank of the fares from a city of a number
from_bound : ℕ → ℕ
from_bound i = 2 ^ 56 * 67 + 3 * 2 ^ 52 + 8 * (2 ^ 24 * (4_407_617 + i))

-- the ways from a city
ways_from_rise : (all : List Record) (count i : ℕ) → count ≤ 26 → IsFiled all count → i < count → Rising way_rank (IsFitWay all count) (from_bound i) (ways_from count i) (from_bound (i + 1))
unfolding between_bound from_bound
ways_from_rise all count i few filed from =
    let rises : Rising way_rank (IsFitWay all count) (between_bound i 0) (ways_from count i) (between_bound i (0 + count)) =
    rising_pieces way_rank (IsFitWay all count) (ways_to i) (between_bound i) 0 count (λ j low high.
    let least = fare_rank-city i j (omega arith) (omega arith) in
    rising_wider way_rank (IsFitWay all count) (fare_rank (city i) (city j)) _ (ways_to i j) (fare_rank (city i) (city j) + 8) _ (ways_to_rise all count i j filed from (omega arith)) (omega (arith, least)) (omega (arith, least))) in
    rising_wider way_rank (IsFitWay all count) (between_bound i 0) _ (ways_from count i) (between_bound i (0 + count)) _ rises (omega arith) (omega arith)

-- a fare is fit
fare_fits : (all : List Record) (count drawn : ℕ) (way : FareWay) → count ≤ 26 → IsFiled all count → IsFitWay all count way → IsFit all (fare_of way drawn)
fare_fits all count drawn way few filed fit = record {
  known_city = both_known all (city way.from) (city way.to) (filed.city_known way.from fit.from_below) (filed.city_known way.to fit.to_below);
  known_rule = fit.rule_known;
  known_currency = refl;
  points_differ = different_text (city way.from) (city way.to) (λ same. fit.differ (omega (arith, same, fit.from_below, fit.to_below, city_value way.from (omega (arith, fit.from_below)), city_value way.to (omega (arith, fit.to_below)))));
  above_zero = refl;
}

-- the fares
pub fares_rise : (all : List Record) (seed count : ℕ) → count ≤ 26 → IsFiled all count → Rising rank (IsFit all) (2 ^ 56 * 67 + 3 * 2 ^ 52) (fares seed count) (2 ^ 56 * 67 + 4 * 2 ^ 52)
unfolding way_rank rank option_value from_bound
fares_rise all seed count few filed =
    let every : Rising way_rank (IsFitWay all count) (from_bound 0) (ways count) (from_bound (0 + count)) =
    rising_pieces way_rank (IsFitWay all count) (ways_from count) from_bound 0 count (λ i low high. ways_from_rise all count i few filed (omega arith)) in
    let rises : Rising rank (IsFit all) (from_bound 0) (fares seed count) (from_bound (0 + count)) =
    rising_numbered way_rank (IsFitWay all count) rank (IsFit all) (drawn_fare seed) (λ k way fit. (fare_fits all count _ way few filed fit, refl)) 0 (from_bound 0) (ways count) (from_bound (0 + count)) every in
    rising_wider rank (IsFit all) (from_bound 0) _ (fares seed count) (from_bound (0 + count)) _ rises (omega arith) (omega arith)
