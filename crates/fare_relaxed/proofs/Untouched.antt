-- What looks at no rule is the same in a relaxed edition: countries, indicators, miles, directions, references and bases.
use Rattle.std.proofs.Common.{◌≡◌, ℕ, ◌+◌, ◌-◌, Bool, true, false, cond, not, List, [], ◌∷◌, refl, ap}
use Rattle.std.proofs.Math.Path.{fun_ext}
use Rattle.std.specs.Prelude.{Option, Some, None, option_map, option_and_then, filter_map, flat_map, find, sum_by}
use Rattle.std.specs.List.{list_any, list_all}
use Rattle.fare_codes.specs.declared.city.City.{City}
use Rattle.fare_codes.specs.declared.country.Country.{Country}
use Rattle.fare_codes.specs.declared.day.Day.{Day}
use Rattle.fare_codes.specs.declared.indicator.Indicator.{Indicator}
use Rattle.fare_codes.specs.declared.nuc.Nuc.{Nuc}
use Rattle.fare_trip.specs.Itinerary.{Itinerary, point}
use Rattle.fare_records.specs.declared.fare_key.FareKey.{FareKey}
use Rattle.fare_records.specs.Record.{FareRecord}
use Rattle.fare_tariff.specs.Tariff.{Tariff}
use Rattle.fare_tariff.specs.Lookup.{city_record, fare_at}
use Rattle.fare_rules.specs.declared.miles.Mileage.{Mileage}
use Rattle.fare_rules.specs.declared.part.Part.{Part}
use Rattle.fare_rules.specs.Numbers.{numbers, greatest_of}
use Rattle.fare_rules.specs.Span.{sectors, stopovers, interior_cities}
use Rattle.fare_rules.specs.Indicator.{country, indicator, indicator_of, indicator_by, crosses_atlantic, crosses_pacific, is_within_one}
use Rattle.fare_rules.specs.Mileage.{mileage, sum_of_miles, has_no_tpm, miles_of_sector}
use Rattle.fare_rules.specs.Reference.{reference, amount_on}
use Rattle.fare_rules.specs.Base.{Compared, base, compared_pairs, compared_pair, compared_from, greatest_amount}
use Rattle.fare_rules.specs.Backhaul.{backhaul, greatest_reference, reference_to, minimum_above}
use Rattle.fare_rules.specs.ComponentAmount.{span_surcharge}
use Rattle.fare_rules.specs.Construction.{fare_of, part_at}
use Rattle.fare_rules.specs.Shape.{is_hr, is_ow, holds_ow, is_jaw, is_open_jaw, lie_together}
use Rattle.fare_rules.specs.Direction.{goes_back, is_back_in}
use Rattle.fare_rules.specs.Circle.{circle_reference, reference_from_origin, greatest_turning, turning_points, twice, unit_circle_minimum}
use Rattle.fare_relaxed.specs.declared.term.Term.{Term}
use Rattle.fare_relaxed.specs.Relax.{relax}
use Rattle.fare_relaxed.proofs.LookUps.{city_record_same, fare_at_same, fare_number_same, mpm_found_same, tpm_found_same, allowance_found_same}

module _ (term : Term) (tariff : Tariff) where
  pub fare_at_function : fare_at (relax term tariff) ≡ fare_at tariff
  fare_at_function = fun_ext (fare_at_same term tariff)

  pub lie_together_same : (a b : City) → lie_together (relax term tariff) a b ≡ lie_together tariff a b
  lie_together_same a b = simp (city_record_same term tariff)

  atlantic_function : (trip : Itinerary) → crosses_atlantic (relax term tariff) trip ≡ crosses_atlantic tariff trip
  atlantic_function trip = fun_ext (λ number. simp (city_record_same term tariff))

  pacific_function : (trip : Itinerary) → crosses_pacific (relax term tariff) trip ≡ crosses_pacific tariff trip
  pacific_function trip = fun_ext (λ number. simp (city_record_same term tariff))

  within_one_function : (trip : Itinerary) → is_within_one (relax term tariff) trip ≡ is_within_one tariff trip
  within_one_function trip = fun_ext (λ number. simp (city_record_same term tariff))

  pub indicator_of_same : (trip : Itinerary) (numbers : List ℕ)
      → indicator_of (relax term tariff) trip numbers ≡ indicator_of tariff trip numbers
  unfolding indicator_of
  indicator_of_same trip numbers = rw (atlantic_function trip, pacific_function trip, within_one_function trip)

  no_tpm_function : (trip : Itinerary) → has_no_tpm (relax term tariff) trip ≡ has_no_tpm tariff trip
  no_tpm_function trip = fun_ext (λ number. simp (tpm_found_same term tariff))

  miles_function : (trip : Itinerary) → miles_of_sector (relax term tariff) trip ≡ miles_of_sector tariff trip
  miles_function trip = fun_ext (λ number. simp (tpm_found_same term tariff))

  sum_of_miles_same : (trip : Itinerary) (a b : ℕ) → sum_of_miles (relax term tariff) trip a b ≡ sum_of_miles tariff trip a b
  unfolding sum_of_miles
  sum_of_miles_same trip a b = ap (λ f. sum_by f (sectors a b)) (miles_function trip)

  pub mileage_same : (trip : Itinerary) (a b : ℕ) (ind : Indicator)
      → mileage (relax term tariff) trip a b ind ≡ mileage tariff trip a b ind
  unfolding mileage
  mileage_same trip a b ind =
      rw (no_tpm_function trip, mpm_found_same term tariff (point trip a) (point trip b) ind, sum_of_miles_same trip a b, allowance_found_same term tariff (point trip a) (point trip b) ind (interior_cities trip a b))

  pub span_surcharge_same : (trip : Itinerary) (a b : ℕ)
      → span_surcharge (relax term tariff) trip a b ≡ span_surcharge tariff trip a b
  unfolding span_surcharge
  span_surcharge_same trip a b =
      rw (indicator_of_same trip (sectors a b), mileage_same trip a b (indicator tariff trip a b))

  ow_function : (parts : List Part) → is_ow (relax term tariff) parts ≡ is_ow tariff parts
  ow_function parts = fun_ext (λ k. simp (fare_at_same term tariff))

  pub holds_ow_same : (parts : List Part) (mine : List ℕ)
      → holds_ow (relax term tariff) parts mine ≡ holds_ow tariff parts mine
  holds_ow_same parts mine = ap (λ f. list_any f mine) (ow_function parts)

  pub is_hr_same : (parts : List Part) (mine : List ℕ) → is_hr (relax term tariff) parts mine ≡ is_hr tariff parts mine
  unfolding is_hr
  is_hr_same parts mine = ap not (holds_ow_same parts mine)

  jaw_same : (trip : Itinerary) (parts : List Part) (mine : List ℕ)
      → is_jaw (relax term tariff) trip parts mine ≡ is_jaw tariff trip parts mine
  jaw_same trip parts [] = refl
  jaw_same trip parts (k ∷ []) = refl
  jaw_same trip parts (k ∷ next ∷ []) = simp (city_record_same term tariff)
  jaw_same trip parts (k ∷ next ∷ third ∷ rest) = refl

  pub is_open_jaw_same : (trip : Itinerary) (parts : List Part) (mine : List ℕ)
      → is_open_jaw (relax term tariff) trip parts mine ≡ is_open_jaw tariff trip parts mine
  unfolding is_open_jaw
  is_open_jaw_same trip parts mine = jaw_same trip parts mine

  pub is_back_in_same : (trip : Itinerary) (parts : List Part) (mine : List ℕ) (k : ℕ)
      → is_back_in (relax term tariff) trip parts mine k ≡ is_back_in tariff trip parts mine k
  unfolding is_back_in
  is_back_in_same trip parts mine k = simp (is_hr_same, city_record_same term tariff)

  pub reference_same : (from to : City) (ind : Indicator) (fare : FareRecord) (on : Day)
      → reference (relax term tariff) from to ind fare on ≡ reference tariff from to ind fare on
  unfolding reference
  reference_same from to ind fare on = simp (fare_at_function, fare_number_same term tariff)

  pair_function : (trip : Itinerary) (a b : ℕ) (fare : FareRecord) (back : Bool) (i : ℕ)
      → compared_pair (relax term tariff) trip a b fare back i ≡ compared_pair tariff trip a b fare back i
  pair_function trip a b fare back i = fun_ext (λ j. simp (reference_same, indicator_of_same))

  from_function : (trip : Itinerary) (a b : ℕ) (fare : FareRecord) (back : Bool)
      → compared_from (relax term tariff) trip a b fare back ≡ compared_from tariff trip a b fare back
  from_function trip a b fare back =
      fun_ext (λ i. ap (λ f. filter_map f (numbers (i + 1) (b + 1))) (pair_function trip a b fare back i))

  pub base_same : (trip : Itinerary) (a b : ℕ) (fare : FareRecord) (back : Bool)
      → base (relax term tariff) trip a b fare back ≡ base tariff trip a b fare back
  unfolding base compared_pairs
  base_same trip a b fare back =
      ap (λ f. greatest_amount fare.amount (flat_map f (numbers a b))) (from_function trip a b fare back)

  to_function : (trip : Itinerary) (a : ℕ) (fare : FareRecord)
      → reference_to (relax term tariff) trip a fare ≡ reference_to tariff trip a fare
  to_function trip a fare = fun_ext (λ j. simp (reference_same, indicator_of_same))

  pub backhaul_same : (trip : Itinerary) (a b : ℕ) (fare : FareRecord)
      → backhaul (relax term tariff) trip a b fare ≡ backhaul tariff trip a b fare
  unfolding backhaul greatest_reference
  backhaul_same trip a b fare =
      ap (λ f. option_and_then (minimum_above fare.amount) (greatest_of f (stopovers trip a b))) (to_function trip a fare)

  origin_function : (trip : Itinerary) (parts : List Part) (mine : List ℕ) (k i : ℕ)
      → reference_from_origin (relax term tariff) trip parts mine k i ≡ reference_from_origin tariff trip parts mine k i
  origin_function trip parts mine k i = fun_ext (λ fare. simp (reference_same, indicator_of_same))

  circle_function : (trip : Itinerary) (parts : List Part) (mine : List ℕ) (k : ℕ)
      → circle_reference (relax term tariff) trip parts mine k ≡ circle_reference tariff trip parts mine k
  unfolding circle_reference
  circle_function trip parts mine k =
      fun_ext (λ i. rw (origin_function trip parts mine k i, fare_at_same term tariff (part_at parts k).fare))

  turning_function : (trip : Itinerary) (parts : List Part) (mine : List ℕ)
      → greatest_turning (relax term tariff) trip parts mine ≡ greatest_turning tariff trip parts mine
  turning_function trip parts mine =
      fun_ext (λ k. ap (λ f. greatest_of f (turning_points trip parts mine k)) (circle_function trip parts mine k))

  pub unit_circle_minimum_same : (trip : Itinerary) (parts : List Part) (mine : List ℕ)
      → unit_circle_minimum (relax term tariff) trip parts mine ≡ unit_circle_minimum tariff trip parts mine
  unfolding unit_circle_minimum
  unit_circle_minimum_same trip parts mine =
      ap (λ f. option_map twice (greatest_of f mine)) (turning_function trip parts mine)
