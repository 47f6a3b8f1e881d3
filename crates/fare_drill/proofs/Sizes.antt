-- How many records a drill has.
use Rattle.std.proofs.Common.{ℕ, zero, suc, ◌+◌, ◌-◌, ◌*◌, ◌≤◌, Bool, true, false, List, [], ◌++◌, length, map, take, ◌==◌, if◌then◌else◌, arith}
use Rattle.std.specs.List.{flat_map, range_with_len, enumerate_from}
use Rattle.std.proofs.lemmas.List.{length-append, length-map, length-take}
use Rattle.std.proofs.lemmas.List.FromFn.{length-range_with_len, length-map-range_with_len, length-enumerate_from}
use Rattle.fare_drill.specs.Cities.{extra_record}
use Rattle.fare_drill.specs.Fares.{ways, ways_from, ways_to, ways_between}
use Rattle.fare_drill.specs.Miles.{pair, pairs, pairs_from, extra_miles}
use Rattle.fare_drill.specs.Drill.{base_records, extra_records, extra_city_count}
use Rattle.fare_drill.proofs.PairSections.{extra_city_count-is}

-- pieces of at most so many elements each
pieces_few : {A : Type 0} (f : ℕ → List A) (most : ℕ) (a n : ℕ) → ((i : ℕ) → length (f i) ≤ most) → length (flat_map f (range_with_len a n)) ≤ most * n
pieces_few f most a zero few = omega arith
pieces_few f most a (suc n) few =
    let rest = pieces_few f most (a + 1) n few in
    omega (arith, few a, rest, length-append (f a) (flat_map f (range_with_len (a + 1) n)))

-- the ways from a city to another are eight or none
ways_to_few : (i j : ℕ) → length (ways_to i j) ≤ 8
ways_to_few i j = by_test (i == j)
  where
    by_test : (same : Bool) → length (if same then [] else ways_between i j) ≤ 8
    by_test true = omega arith
    by_test false = omega arith

-- the ways, and so the fares
ways_few : (count : ℕ) → count ≤ 16 → length (ways count) ≤ 2_048
ways_few count few =
    let each : (i : ℕ) → length (ways_from count i) ≤ 128 = λ i. omega (arith, pieces_few (ways_to i) 8 0 count (ways_to_few i)) in
    let every : length (ways count) ≤ 128 * count = pieces_few (ways_from count) 128 0 count each in
    omega (arith, every)

-- the pairs
pairs_few : (count : ℕ) → count ≤ 16 → length (pairs count) ≤ 256
pairs_few count few =
    let each : (i : ℕ) → length (pairs_from count i) ≤ 16 = λ i. omega (arith, length-map-range_with_len (pair i) (i + 1) (count - (i + 1))) in
    omega (arith, pieces_few (pairs_from count) 16 0 count each)

-- the records of a drill before the extra ones
pub base_few : (seed count : ℕ) → count ≤ 16 → length (base_records seed count) ≤ 2_600
unfolding base_records
base_few seed count few =
    simp (length-append, length-map, length-range_with_len, length-enumerate_from) (omega (arith, few, ways_few count few, pairs_few count few))

-- the extra records
pub extra_few : (extra : ℕ) → extra ≤ 200_000 → length (extra_records extra) ≤ 200_676
unfolding extra_records
extra_few extra few = by_test (extra == 0)
  where
    by_test : (none : Bool) → length (if none then [] else (map extra_record (range_with_len 0 extra_city_count) ++ map extra_miles (enumerate_from 0 (take extra (pairs extra_city_count))))) ≤ 200_676
    by_test true = omega arith
    by_test false =
        simp (length-append, length-map, length-range_with_len, length-enumerate_from, length-take) (omega (arith, few, extra_city_count-is))
