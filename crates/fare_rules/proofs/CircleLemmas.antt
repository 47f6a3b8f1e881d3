-- The circle minimum over all parts of a unit that closes is that of the unit.
use Rattle.std.proofs.Common.{◌≡◌, ℕ, true, eqb, List, [], ◌∷◌, ◌++◌, refl, ap, sym, subst, inl, inr}
use Rattle.std.specs.Prelude.{Option, Some, None, option_map, option_and_then}
use Rattle.std.proofs.lemmas.Bool.{cases_Bool, and_parts, eqb-true}
use Rattle.std.proofs.lemmas.Slice.Eq.{bytes_eq-Decides}
use Rattle.fare_codes.specs.declared.city.City.{City}
use Rattle.fare_trip.specs.Itinerary.{Itinerary}
use Rattle.fare_records.specs.Record.{FareRecord}
use Rattle.fare_tariff.specs.Tariff.{Tariff}
use Rattle.fare_rules.specs.declared.part.Part.{Part}
use Rattle.fare_codes.specs.Amounts.{greater}
use Rattle.fare_rules.specs.Numbers.{greatest_of}
use Rattle.fare_rules.specs.Span.{first_day}
use Rattle.fare_rules.specs.Indicator.{indicator_of}
use Rattle.fare_rules.specs.Reference.{reference}
use Rattle.fare_rules.specs.Construction.{start_of, end_of, end_city, fare_of, origin, last_of}
use Rattle.fare_rules.specs.Shape.{closes, comes_home}
use Rattle.fare_rules.specs.Circle.{own_sectors, circle_reference, reference_from_origin, part_stopovers, greatest_turning, greatest_in_part, unit_circle_minimum, circle_minimum, twice}
use Rattle.fare_rules.specs.Valid.{HasNoFareToItself}
use Rattle.fare_rules.proofs.ReferenceLemmas.{no_reference}

-- where two measures agree, so do their greatest amounts
pub greatest_same : (f g : ℕ → Option ℕ) → ((k : ℕ) → f k ≡ g k) → (xs : List ℕ) → greatest_of f xs ≡ greatest_of g xs
greatest_same f g h [] = refl
greatest_same f g h (x ∷ xs) = rw (h x, greatest_same f g h xs)

-- a last member that gives nothing changes nothing
greatest_without : (f : ℕ → Option ℕ) (xs : List ℕ) (x : ℕ) → f x ≡ None
    → greatest_of f (xs ++ x ∷ []) ≡ greatest_of f xs
greatest_without f [] x e = rw e
greatest_without f (y ∷ ys) x e = ap (greater (f y)) (greatest_without f ys x e)

module _ (tariff : Tariff) (trip : Itinerary) (parts : List Part) (own : List ℕ) (differ : HasNoFareToItself tariff) (home : comes_home trip parts own ≡ true) where
  reference_home : (k : ℕ) → k ≡ last_of own → (found : Option FareRecord)
      → option_and_then (reference_from_origin tariff trip parts own k (end_of parts k)) found ≡ None
  reference_home k e None = refl
  reference_home k e (Some fare) =
      let at : end_city trip parts k ≡ origin trip parts own = subst (λ j. end_city trip parts j ≡ origin trip parts own) (sym e) ((bytes_eq-Decides _ _).0 home) in
      subst (λ (c : City). reference tariff (origin trip parts own) c (indicator_of tariff trip (own_sectors trip parts own (end_of parts k))) fare (first_day trip (start_of trip parts k)) ≡ None) (sym at) (no_reference tariff (origin trip parts own) (indicator_of tariff trip (own_sectors trip parts own (end_of parts k))) fare (first_day trip (start_of trip parts k)) differ)

  nothing_home : (k : ℕ) → k ≡ last_of own → circle_reference tariff trip parts own k (end_of parts k) ≡ None
  unfolding circle_reference
  nothing_home k e = reference_home k e (fare_of tariff parts k)

  same_in_part : (k : ℕ) → greatest_turning tariff trip parts own k ≡ greatest_in_part tariff trip parts own k
  same_in_part k =
      elim (cases_Bool (eqb k (last_of own))) [
        | inl t ↦ rw t (sym (greatest_without (circle_reference tariff trip parts own k) (part_stopovers trip parts k) (end_of parts k) (nothing_home k (eqb-true k (last_of own) t))))
        | inr f ↦ rw f
      ]

  same_minimum : unit_circle_minimum tariff trip parts own ≡ circle_minimum tariff trip parts own
  unfolding unit_circle_minimum circle_minimum
  same_minimum = ap (option_map twice) (greatest_same (greatest_turning tariff trip parts own) (greatest_in_part tariff trip parts own) same_in_part own)

-- a unit that closes comes home
pub home_of_closes : (trip : Itinerary) (parts : List Part) (own : List ℕ) → closes trip parts own ≡ true
    → comes_home trip parts own ≡ true
unfolding closes
home_of_closes trip parts own e =
    let a = and_parts _ _ e in
    let b = and_parts _ _ a.1 in
    (and_parts _ _ b.0).1

-- the circle minimum of a unit that closes is that over all its parts
pub minimum_of_closed : (tariff : Tariff) (trip : Itinerary) (parts : List Part) (own : List ℕ)
    → HasNoFareToItself tariff → closes trip parts own ≡ true
    → unit_circle_minimum tariff trip parts own ≡ circle_minimum tariff trip parts own
minimum_of_closed tariff trip parts own differ e =
    same_minimum tariff trip parts own differ (home_of_closes trip parts own e)
