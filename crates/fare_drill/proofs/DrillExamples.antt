-- Drills, computed.
use Rattle.std.proofs.Common.{◌≡◌, ℕ, [], ◌∷◌, take, drop, map, length, codes, refl}
use Rattle.std.specs.List.{range_with_len}
use Rattle.fare_codes.specs.declared.indicator.Indicator.TheVariants.{EH}
use Rattle.fare_records.specs.declared.record.Record.{Record}
use Rattle.fare_records.specs.declared.record.Record.TheVariants as filed
use Rattle.fare_drill.specs.Draws.{draw, state}
use Rattle.fare_drill.specs.Cities.{city, extra_city}
use Rattle.fare_drill.specs.Fares.{fares}
use Rattle.fare_drill.specs.Miles.{pair, pairs, permitted, ticketed, extra_miles}
use Rattle.fare_drill.specs.Drill.{base_records, drill_point}

-- the first draws of the seed 1
first_draws : map (draw 1) (range_with_len 0 4) ≡ 16_838 ∷ 5_758 ∷ 10_113 ∷ 17_515 ∷ []
unfolding draw state
first_draws = refl

-- a fare's amount, and 0 for another record
amount_of : Record → ℕ
amount_of (filed.Fare r) = r.amount
amount_of _ = 0

-- the one way fares of the seed 1 from the first of two cities, and from the second
outward : map amount_of (take 4 (fares 1 2)) ≡ 23_838 ∷ 24_758 ∷ 23_113 ∷ 24_515 ∷ []
unfolding draw state amount_of
outward = refl

homeward : map amount_of (take 4 (drop 8 (fares 1 2))) ≡ 23_212 ∷ 23_086 ∷ 23_749 ∷ 23_767 ∷ []
unfolding draw state amount_of
homeward = refl

-- two cities have 23 records, and three have 60
two_cities : length (base_records 1 2) ≡ 23
unfolding base_records draw state
two_cities = refl

three_cities : length (base_records 1 3) ≡ 60
unfolding base_records draw state
three_cities = refl

-- the last of 16 cities, and some of the extra ones
last_city : city 15 ≡ codes "CAP"
last_city = refl

extra_cities : map extra_city (0 ∷ 25 ∷ 26 ∷ 675 ∷ []) ≡ codes "DAA" ∷ codes "DAZ" ∷ codes "DBA" ∷ codes "DZZ" ∷ []
extra_cities = refl

-- the pairs of three
three_pairs : pairs 3 ≡ pair 0 1 ∷ pair 0 2 ∷ pair 1 2 ∷ []
three_pairs = refl

-- miles between the first and the third city
third : permitted (pair 0 2) ≡ filed.Mpm (record { from = codes "CAA"; to = codes "CAC"; ind = EH; miles = 240 })
third = refl

third_flown : ticketed (pair 0 2) ≡ filed.Tpm (record { from = codes "CAA"; to = codes "CAC"; miles = 200 })
third_flown = refl

-- the miles of extra cities begin anew behind 9,999
most_miles : extra_miles (9_998, pair 0 1) ≡ filed.Tpm (record { from = codes "DAA"; to = codes "DAB"; miles = 9_999 })
most_miles = refl

least_miles : extra_miles (9_999, pair 0 1) ≡ filed.Tpm (record { from = codes "DAA"; to = codes "DAB"; miles = 1 })
least_miles = refl

-- one sector ends at the second city, and more end where they began
one_sector : map (drill_point 1) (0 ∷ 1 ∷ []) ≡ codes "CAA" ∷ codes "CAB" ∷ []
one_sector = refl

three_sectors : map (drill_point 3) (0 ∷ 1 ∷ 2 ∷ 3 ∷ []) ≡ codes "CAA" ∷ codes "CAB" ∷ codes "CAC" ∷ codes "CAA" ∷ []
three_sectors = refl
