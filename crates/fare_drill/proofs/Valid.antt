-- The records of a drill have no fault, whatever its seed.
use Rattle.std.proofs.Common.{◌≡◌, ℕ, ◌+◌, ◌*◌, ◌^◌, ◌<◌, ◌≤◌, Bool, true, false, List, [], ◌∷◌, ◌++◌, length, map, take, Option, None, Ok, is_none, codes, ◌==◌, if◌then◌else◌, refl, ap, arith}
use Rattle.std.specs.List.{range_with_len, enumerate_from}
use Rattle.std.proofs.lemmas.List.{length-append}
use Rattle.fare_codes.specs.declared.area.Area.TheVariants.{Two}
use Rattle.fare_records.specs.declared.record.Record.{Record}
use Rattle.fare_tariff.specs.Lookup.{first_some, city_in, currency_in, rule_in}
use Rattle.fare_tariff.specs.Check.{check_edition, first_fault, is_unknown_city, unless}
use Rattle.fare_drill.specs.Cities.{city, city_count, extra_city, city_record, extra_record, country_of}
use Rattle.fare_drill.specs.Fares.{fares}
use Rattle.fare_drill.specs.Miles.{pairs, permitted, ticketed, extra_miles}
use Rattle.fare_drill.specs.Drill.{currencies, rule_record, base_records, extra_records, extra_city_count, drill_records, drill_tariff}
use Rattle.fare_drill.proofs.RisingLists.{Rising, Rising-append}
use Rattle.fare_drill.proofs.Ranks.{rank}
use Rattle.fare_drill.proofs.NoFault.{IsFit, no_fault}
use Rattle.fare_drill.proofs.Known.{IsFiled, known_front, known_back, known_row, city_itself}
use Rattle.fare_drill.proofs.Sections.{currencies_rise, cities_rise, rule_rises, fares_rise}
use Rattle.fare_drill.proofs.PairSections.{permitted_rise, ticketed_rise, extra_city_count-is, extra_cities_rise, extra_miles_rise}
use Rattle.fare_drill.proofs.Sizes.{base_few, extra_few}

-- the records of a drill of so many cities
whole : ℕ → ℕ → ℕ → List Record
whole seed count extra = base_records seed count ++ extra_records extra

-- the records behind those of the cities
abbrev behind_cities : ℕ → ℕ → List Record
behind_cities seed count =
    rule_record ∷ (fares seed count ++ (map permitted (pairs count) ++ map ticketed (pairs count)))

-- what the records before the extra ones answer all answer
of_base : {A : Type 0} (answer : Record → Option A) (seed count extra : ℕ) → is_none (first_some answer (base_records seed count)) ≡ false → is_none (first_some answer (whole seed count extra)) ≡ false
unfolding whole
of_base answer seed count extra h = known_front answer (base_records seed count) (extra_records extra) h

-- what a drill files
all_filed : (seed count extra : ℕ) → IsFiled (whole seed count extra) count
unfolding base_records
all_filed seed count extra = record {
  city_known = λ i below. of_base (city_in (city i)) seed count extra
      (known_back (city_in (city i)) currencies (map city_record (range_with_len 0 count) ++ behind_cities seed count)
      (known_front (city_in (city i)) (map city_record (range_with_len 0 count)) (behind_cities seed count)
      (known_row (city_in (city i)) city_record 0 count i (omega arith) (omega arith) (city_itself (city i) (country_of i) Two))));
  first_country = of_base (currency_in (codes "XA")) seed count extra refl;
  second_country = of_base (currency_in (codes "XB")) seed count extra refl;
  rule_known = of_base (rule_in (codes "A")) seed count extra
      (known_back (rule_in (codes "A")) currencies (map city_record (range_with_len 0 count) ++ behind_cities seed count)
      (known_back (rule_in (codes "A")) (map city_record (range_with_len 0 count)) (behind_cities seed count) refl));
}

-- an extra city is filed where there are extra records
extra_filed : (seed count extra i : ℕ) → (extra == 0) ≡ false → i < extra_city_count → is_unknown_city (whole seed count extra) (extra_city i) ≡ false
unfolding whole extra_records
extra_filed seed count extra i some below =
    known_back (city_in (extra_city i)) (base_records seed count) (extra_records extra)
    (rw some (known_front (city_in (extra_city i)) (map extra_record (range_with_len 0 extra_city_count)) (map extra_miles (enumerate_from 0 (take extra (pairs extra_city_count))))
    (known_row (city_in (extra_city i)) extra_record 0 extra_city_count i (omega arith) (omega arith) (city_itself (extra_city i) (codes "XA") Two))))

-- the extra records rise
extra_rises : (seed count extra : ℕ) → Rising rank (IsFit (whole seed count extra)) (2 ^ 56 * 68) (extra_records extra) (2 ^ 56 * 69)
unfolding Rising extra_records
extra_rises seed count extra = by_test (extra == 0) refl
  where
    by_test : (none : Bool) → (extra == 0) ≡ none → Rising rank (IsFit (whole seed count extra)) (2 ^ 56 * 68) (if none then [] else (map extra_record (range_with_len 0 extra_city_count) ++ map extra_miles (enumerate_from 0 (take extra (pairs extra_city_count))))) (2 ^ 56 * 69)
    by_test true e = omega arith
    by_test false e =
        let few : extra_city_count ≤ 676 = omega (arith, extra_city_count-is) in
        Rising-append rank (IsFit (whole seed count extra)) (2 ^ 56 * 68) (map extra_record (range_with_len 0 extra_city_count)) (2 ^ 56 * 68 + 2 * 2 ^ 52) (map extra_miles (enumerate_from 0 (take extra (pairs extra_city_count)))) (2 ^ 56 * 69)
        (extra_cities_rise (whole seed count extra) extra_city_count few (all_filed seed count extra).first_country)
        (extra_miles_rise (whole seed count extra) extra_city_count extra few (λ i below. extra_filed seed count extra i e below))

-- the records before the extra ones rise
base_rises : (seed count extra : ℕ) → count ≤ 26 → Rising rank (IsFit (whole seed count extra)) 0 (base_records seed count) (2 ^ 56 * 68)
unfolding base_records
base_rises seed count extra few =
    let Fit = IsFit (whole seed count extra) in
    let filed = all_filed seed count extra in
    let cities : List Record = map city_record (range_with_len 0 count) in
    let miles : List Record = map permitted (pairs count) ++ map ticketed (pairs count) in
    let f : ℕ = 2 ^ 56 * 67 + 3 * 2 ^ 52 in
    let e : ℕ = 2 ^ 56 * 68 in
    Rising-append rank Fit 0 currencies (2 ^ 56 * 67) (cities ++ behind_cities seed count) e (currencies_rise (whole seed count extra))
    (Rising-append rank Fit (2 ^ 56 * 67) cities (2 ^ 56 * 67 + 2 * 2 ^ 52) (behind_cities seed count) e (cities_rise (whole seed count extra) count few filed)
    (Rising-append rank Fit (2 ^ 56 * 67 + 2 * 2 ^ 52) (rule_record ∷ []) f (fares seed count ++ miles) e (rule_rises (whole seed count extra))
    (Rising-append rank Fit f (fares seed count) (2 ^ 56 * 67 + 4 * 2 ^ 52) miles e (fares_rise (whole seed count extra) seed count few filed)
    (Rising-append rank Fit (2 ^ 56 * 67 + 4 * 2 ^ 52) (map permitted (pairs count)) (2 ^ 56 * 67 + 5 * 2 ^ 52) (map ticketed (pairs count)) e (permitted_rise (whole seed count extra) count few filed)
    (ticketed_rise (whole seed count extra) count few filed)))))

-- all the records have no fault
whole_has_none : (seed count extra : ℕ) → count ≤ 16 → extra ≤ 200_000 → first_fault (whole seed count extra) ≡ None
unfolding whole
whole_has_none seed count extra few few_extra =
    no_fault (whole seed count extra) (2 ^ 56 * 69) rises size
  where
    rises : Rising rank (IsFit (whole seed count extra)) 0 (whole seed count extra) (2 ^ 56 * 69)
    rises =
        Rising-append rank (IsFit (whole seed count extra)) 0 (base_records seed count) (2 ^ 56 * 68) (extra_records extra) (2 ^ 56 * 69) (base_rises seed count extra (omega arith)) (extra_rises seed count extra)

    size : length (whole seed count extra) ≤ 400_000
    size = omega (arith, length-append (base_records seed count) (extra_records extra), base_few seed count few, extra_few extra few_extra)

-- the check answers the edition of a drill
pub drill_is_edition : (seed sectors extra : ℕ) → sectors ≤ 16 → extra ≤ 200_000 → check_edition 1 (codes "2025-01-01") (drill_records seed sectors extra) ≡ Ok (drill_tariff seed sectors extra)
unfolding drill_records whole
drill_is_edition seed sectors extra few few_extra =
    ap (λ found. unless found (drill_tariff seed sectors extra)) (whole_has_none seed (city_count sectors) extra (omega arith) few_extra)
