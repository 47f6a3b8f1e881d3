-- The sections of miles, and of the extra cities.
use Rattle.std.proofs.Common.{◌≡◌, ℕ, ◌+◌, ◌-◌, ◌*◌, ◌/◌, ◌%◌, ◌^◌, ◌<◌, ◌≤◌, false, List, map, take, is_none, codes, refl, arith}
use Rattle.std.specs.List.{range_with_len, enumerate_from}
use Rattle.std.proofs.lemmas.Bool.{ne_eqb}
use Rattle.fare_records.specs.declared.record.Record.{Record}
use Rattle.fare_tariff.specs.Check.{is_unknown_city}
use Rattle.fare_tariff.specs.Lookup.{first_some, currency_in}
use Rattle.fare_drill.specs.Cities.{city, extra_city, extra_record}
use Rattle.fare_drill.specs.Miles.{NumberPair, pair, pairs, pairs_from, permitted, ticketed, extra_miles}
use Rattle.fare_drill.specs.Drill.{extra_city_count}
use Rattle.fare_drill.proofs.RisingLists.{Rising, Rising-map, Rising-take, rising_numbered, rising_pieces, rising_row, rising_wider}
use Rattle.fare_drill.proofs.Ranks.{rank, value, pair_value, different_text}
use Rattle.fare_drill.proofs.NoFault.{IsFit}
use Rattle.fare_drill.proofs.Known.{IsFiled, both_known}
use Rattle.fare_drill.proofs.Sections.{city_value}

-- the number of an extra city's code, while its letters rise
extra_value : ℕ → ℕ
extra_value i = 4_473_153 + 256 * (i / 26) + i % 26

extra_city_value : (i : ℕ) → i < 676 → value (extra_city i) ≡ extra_value i
unfolding value extra_value
extra_city_value i few = omega arith

-- the numbers of a pair rise, and are below a count
record IsPair (count : ℕ) (p : NumberPair) : Type 0 where
  rising : p.first < p.second
  below : p.second < count

-- the pairs of numbers whose codes have rising numbers
pairs_rise : (made : NumberPair → Record) (v : ℕ → ℕ) (base count : ℕ) → ((i j : ℕ) → i < j → j < count → rank (made (pair i j)) ≡ base + 2 ^ 24 * v i + v j) → ((i : ℕ) → i < count → v i < v (i + 1)) → v count ≤ 2 ^ 24 → Rising (λ p. rank (made p)) (IsPair count) (base + 2 ^ 24 * v 0) (pairs count) (base + 2 ^ 24 * v (0 + count))
pairs_rise made v base count ranked rises small =
    rising_pieces (λ p. rank (made p)) (IsPair count) (pairs_from count) (λ i. base + 2 ^ 24 * v i) 0 count (λ i low high.
    let last : (i + 1) + (count - (i + 1)) ≡ count = omega arith in
    let row : Rising (λ p. rank (made p)) (IsPair count) (base + 2 ^ 24 * v i + v (i + 1)) (pairs_from count i) (base + 2 ^ 24 * v i + v ((i + 1) + (count - (i + 1)))) =
    rising_row (λ p. rank (made p)) (IsPair count) (pair i) (λ j. base + 2 ^ 24 * v i + v j) (i + 1) (count - (i + 1)) (λ j from to.
    let exact = ranked i j (omega arith) (omega arith) in
    (record { rising = omega arith; below = omega arith }, omega (arith, exact), omega (arith, exact, rises j (omega arith)))) in
    rising_wider (λ p. rank (made p)) (IsPair count) (base + 2 ^ 24 * v i + v (i + 1)) _ (pairs_from count i) (base + 2 ^ 24 * v i + v count) _ (rw last at row) (omega arith) (omega (arith, small, rises i (omega arith))))

-- miles between two known cities whose codes have different numbers are fit
permitted_fits : (all : List Record) (count : ℕ) (p : NumberPair) → count ≤ 26 → IsFiled all count → IsPair count p → IsFit all (permitted p)
permitted_fits all count p few filed fit =
    let first = city_value p.first (omega (arith, fit.rising, fit.below)) in
    let second = city_value p.second (omega (arith, fit.below)) in
    record {
      known_city = both_known all (city p.first) (city p.second) (filed.city_known p.first (omega (arith, fit.rising, fit.below))) (filed.city_known p.second fit.below);
      known_rule = refl;
      known_currency = refl;
      points_differ = different_text (city p.first) (city p.second) (λ same. omega (arith, same, fit.rising, first, second));
      above_zero = ne_eqb (120 * (p.second - p.first)) 0 (λ none. omega (arith, none, fit.rising));
    }

ticketed_fits : (all : List Record) (count : ℕ) (p : NumberPair) → count ≤ 26 → IsFiled all count → IsPair count p → IsFit all (ticketed p)
ticketed_fits all count p few filed fit =
    let first = city_value p.first (omega (arith, fit.rising, fit.below)) in
    let second = city_value p.second (omega (arith, fit.below)) in
    record {
      known_city = both_known all (city p.first) (city p.second) (filed.city_known p.first (omega (arith, fit.rising, fit.below))) (filed.city_known p.second fit.below);
      known_rule = refl;
      known_currency = refl;
      points_differ = different_text (city p.first) (city p.second) (λ same. omega (arith, same, fit.rising, first, second));
      above_zero = ne_eqb (100 * (p.second - p.first)) 0 (λ none. omega (arith, none, fit.rising));
    }

-- the permitted miles
pub permitted_rise : (all : List Record) (count : ℕ) → count ≤ 26 → IsFiled all count → Rising rank (IsFit all) (2 ^ 56 * 67 + 4 * 2 ^ 52) (map permitted (pairs count)) (2 ^ 56 * 67 + 5 * 2 ^ 52)
unfolding rank pair_value
permitted_rise all count few filed =
    let v : ℕ → ℕ = λ i. 4_407_617 + i in
    let every : Rising (λ p. rank (permitted p)) (IsPair count) (2 ^ 56 * 67 + 4 * 2 ^ 52 + 2 ^ 24 * v 0) (pairs count) (2 ^ 56 * 67 + 4 * 2 ^ 52 + 2 ^ 24 * v (0 + count)) =
    pairs_rise permitted v (2 ^ 56 * 67 + 4 * 2 ^ 52) count (λ i j less below. omega (arith, city_value i (omega arith), city_value j (omega arith))) (λ i below. omega arith) (omega arith) in
    rising_wider rank (IsFit all) _ _ (map permitted (pairs count)) _ _ (Rising-map (λ p. rank (permitted p)) (IsPair count) rank (IsFit all) permitted (λ p fit. (permitted_fits all count p few filed fit, refl)) _ (pairs count) _ every) (omega arith) (omega arith)

-- the ticketed point miles
pub ticketed_rise : (all : List Record) (count : ℕ) → count ≤ 26 → IsFiled all count → Rising rank (IsFit all) (2 ^ 56 * 67 + 5 * 2 ^ 52) (map ticketed (pairs count)) (2 ^ 56 * 68)
unfolding rank pair_value
ticketed_rise all count few filed =
    let v : ℕ → ℕ = λ i. 4_407_617 + i in
    let every : Rising (λ p. rank (ticketed p)) (IsPair count) (2 ^ 56 * 67 + 5 * 2 ^ 52 + 2 ^ 24 * v 0) (pairs count) (2 ^ 56 * 67 + 5 * 2 ^ 52 + 2 ^ 24 * v (0 + count)) =
    pairs_rise ticketed v (2 ^ 56 * 67 + 5 * 2 ^ 52) count (λ i j less below. omega (arith, city_value i (omega arith), city_value j (omega arith))) (λ i below. omega arith) (omega arith) in
    rising_wider rank (IsFit all) _ _ (map ticketed (pairs count)) _ _ (Rising-map (λ p. rank (ticketed p)) (IsPair count) rank (IsFit all) ticketed (λ p fit. (ticketed_fits all count p few filed fit, refl)) _ (pairs count) _ every) (omega arith) (omega arith)

-- so many extra cities have two letters each
pub extra_city_count-is : extra_city_count ≡ 676
unfolding extra_city_count
extra_city_count-is = refl

-- the extra cities
pub extra_cities_rise : (all : List Record) (count : ℕ) → count ≤ 676 → is_none (first_some (currency_in (codes "XA")) all) ≡ false → Rising rank (IsFit all) (2 ^ 56 * 68) (map extra_record (range_with_len 0 count)) (2 ^ 56 * 68 + 2 * 2 ^ 52)
unfolding rank extra_value
extra_cities_rise all count few country =
    let bound : ℕ → ℕ = λ i. 2 ^ 56 * 68 + 2 ^ 52 + extra_value i in
    let rises : Rising rank (IsFit all) (bound 0) (map extra_record (range_with_len 0 count)) (bound (0 + count)) =
    rising_row rank (IsFit all) extra_record bound 0 count (λ i low high. (
      record { known_city = refl; known_rule = refl; known_currency = country; points_differ = refl; above_zero = refl },
      omega (arith, extra_city_value i (omega arith)),
      omega (arith, extra_city_value i (omega arith)),
    )) in
    rising_wider rank (IsFit all) (bound 0) _ _ (bound (0 + count)) _ rises (omega arith) (omega arith)

-- miles between two extra cities are fit
extra_fits : (all : List Record) (count k : ℕ) (p : NumberPair) → count ≤ 676 → ((i : ℕ) → i < count → is_unknown_city all (extra_city i) ≡ false) → IsPair count p → IsFit all (extra_miles (k, p))
unfolding extra_value
extra_fits all count k p few known fit =
    let first = extra_city_value p.first (omega (arith, fit.rising, fit.below)) in
    let second = extra_city_value p.second (omega (arith, fit.below)) in
    record {
      known_city = both_known all (extra_city p.first) (extra_city p.second) (known p.first (omega (arith, fit.rising, fit.below))) (known p.second fit.below);
      known_rule = refl;
      known_currency = refl;
      points_differ = different_text (extra_city p.first) (extra_city p.second) (λ same. omega (arith, same, fit.rising, fit.below, first, second));
      above_zero = ne_eqb (1 + k % 9_999) 0 (λ none. omega (arith, none));
    }

-- the miles between the first so many pairs of extra cities
pub extra_miles_rise : (all : List Record) (count extra : ℕ) → count ≤ 676 → ((i : ℕ) → i < count → is_unknown_city all (extra_city i) ≡ false) → Rising rank (IsFit all) (2 ^ 56 * 68 + 2 * 2 ^ 52) (map extra_miles (enumerate_from 0 (take extra (pairs count)))) (2 ^ 56 * 69)
unfolding rank pair_value extra_value
extra_miles_rise all count extra few known =
    let base : ℕ = 2 ^ 56 * 68 + 5 * 2 ^ 52 in
    let every : Rising (λ p. rank (extra_miles (0, p))) (IsPair count) (base + 2 ^ 24 * extra_value 0) (pairs count) (base + 2 ^ 24 * extra_value (0 + count)) =
    pairs_rise (λ p. extra_miles (0, p)) extra_value base count (λ i j less below. omega (arith, extra_city_value i (omega arith), extra_city_value j (omega arith))) (λ i below. omega arith) (omega arith) in
    let front = Rising-take (λ p. rank (extra_miles (0, p))) (IsPair count) extra _ (pairs count) _ every in
    rising_wider rank (IsFit all) _ _ (map extra_miles (enumerate_from 0 (take extra (pairs count)))) _ _ (rising_numbered (λ p. rank (extra_miles (0, p))) (IsPair count) rank (IsFit all) extra_miles (λ k p fit. (extra_fits all count k p few known fit, refl)) 0 _ (take extra (pairs count)) _ front) (omega arith) (omega arith)
