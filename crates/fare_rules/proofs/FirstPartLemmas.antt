-- The first part of a lawful construction is priced out, and so it is one of the first-part choices.
use Rattle.std.proofs.Common.{◌≡◌, ℕ, zero, suc, ◌+◌, ◌-◌, ◌<◌, ◌≤◌, Bool, true, false, ◌&&◌, not, eqb, List, [], ◌∷◌, length, refl, ap, ◌∙◌, inl, inr, arith}
use Rattle.std.specs.Prelude.{Option, Some, None, bytes_eq, filter, flat_map, Contains, max}
use Rattle.std.specs.List.{range_with_len}
use Rattle.std.proofs.lemmas.Bool.{cases_Bool, and_right, eq-eqb, ne_eqb, eqb-false}
use Rattle.std.proofs.lemmas.Slice.Eq.{bytes_eq-Decides}
use Rattle.fare_codes.specs.declared.country.Country.{Country}
use Rattle.fare_trip.specs.Itinerary.{Itinerary, count}
use Rattle.fare_tariff.specs.Tariff.{Tariff}
use Rattle.fare_rules.specs.declared.part.Part.{Part}
use Rattle.fare_rules.specs.Numbers.{numbers_down}
use Rattle.fare_rules.specs.Indicator.{country}
use Rattle.fare_rules.specs.Construction.{places, start_of, end_city, start_city, own, is_own, greatest_unit, misnumbered, is_misnumbered, last_of}
use Rattle.fare_rules.specs.Shape.{is_hr, is_open_jaw, is_unclosed, unclosed, is_same_country}
use Rattle.fare_rules.specs.Direction.{is_back_in, heads_home}
use Rattle.fare_rules.specs.UnitPrice.{part_amount}
use Rattle.fare_rules.specs.Completion.{first_part_choices, choice, choices_to, may_begin, record_numbers}
use Rattle.fare_rules.proofs.NumberLemmas.{find_none}
use Rattle.fare_rules.proofs.CoverLemmas.{cover, both_false}
use Rattle.fare_rules.proofs.LawfulLemmas.{IsKept}
use Rattle.fare_rules.proofs.AmountLemmas.{amount_of_part, fare_is_filed}
use Rattle.fare_rules.proofs.ReferenceLemmas.{number_of_record}
use Rattle.fare_rules.proofs.MemberLemmas.{Member, contains, member_map, member_filter, member_flat_map, member_numbers, member_down}

-- each member of a list is at least a number
abbrev AllFrom : ℕ → List ℕ → Type 0
AllFrom m [] = Unit
AllFrom m (x ∷ xs) = (m ≤ x) × AllFrom m xs

all_from_less : (m k : ℕ) (xs : List ℕ) → m ≤ k → AllFrom k xs → AllFrom m xs
all_from_less m k [] h a = tt
all_from_less m k (x ∷ xs) h a = (omega arith, all_from_less m k xs h a.1)

kept_from : (p : ℕ → Bool) (first n : ℕ) → AllFrom first (filter p (range_with_len first n))
kept_from p first zero = tt
kept_from p first (suc n) =
    let rest = all_from_less first (first + 1) (filter p (range_with_len (first + 1) n)) (omega arith) (kept_from p (first + 1) n) in
    elim (cases_Bool (p first)) [ inl t ↦ rw t (omega arith, rest) | inr f ↦ rw f rest ]

last_from : (m x : ℕ) (xs : List ℕ) → AllFrom m (x ∷ xs) → m ≤ last_of (x ∷ xs)
last_from m x [] a = a.0
last_from m x (y ∷ ys) a = last_from m y ys a.1

-- a country that is another city's and the same city's at once cannot be left out
home_is_home : (a o : Option Country) → (is_same_country a o && not (is_same_country o o)) ≡ false
home_is_home None o = refl
home_is_home (Some a) None = refl
home_is_home (Some a) (Some o) = rw ((bytes_eq-Decides o o).1 refl) (and_right (bytes_eq a o) false refl)

-- the places of the unit of the first part begin with it
pub own_of_first : (part : Part) (rest : List Part)
    → own (part ∷ rest) part.unit ≡ 1 ∷ filter (is_own (part ∷ rest) part.unit) (range_with_len 2 (length rest))
unfolding own
own_of_first part rest =
    let n : suc (length rest) + 1 - 1 ≡ suc (length rest) = omega arith in
    rw (n, eq-eqb part.unit part.unit refl)

-- the last of several places differs from the first
last_differs : (tail : List ℕ) → AllFrom 2 tail → (tail ≡ [] → ⊥) → eqb 1 (last_of (1 ∷ tail)) ≡ false
last_differs [] a h = absurd (h refl)
last_differs (x ∷ xs) a h =
    let l : 2 ≤ last_of (x ∷ xs) = last_from 2 x xs a in
    ne_eqb 1 (last_of (x ∷ xs)) (λ e. omega arith)

true_false : true ≡ false → ⊥
true_false e = cc

module _ (tariff : Tariff) (trip : Itinerary) (part : Part) (rest : List Part) (kept : IsKept tariff trip (part ∷ rest)) where
  -- the number of the first part's unit is one of the units
  pub unit_above : 1 ≤ part.unit
  unfolding misnumbered
  unit_above =
      let fails = find_none (is_misnumbered (part ∷ rest)) 1 (length (part ∷ rest) + 1) kept.numbering 1 (omega arith) (omega arith) in
      let zero_not : part.unit ≡ 0 → ⊥ = eqb-false part.unit 0 (both_false _ _ fails).0 in
      omega arith

  unit_within : part.unit < greatest_unit (part ∷ rest) (places (part ∷ rest)) + 1
  unit_within =
      let n : suc (length rest) + 1 - 1 ≡ suc (length rest) = omega arith in
      let e : greatest_unit (part ∷ rest) (places (part ∷ rest)) ≡ max part.unit (greatest_unit (part ∷ rest) (range_with_len 2 (length rest))) = rw n in
      omega arith

  -- a unit of half round trips has more than its first part
  pub not_alone : is_hr tariff (part ∷ rest) (own (part ∷ rest) part.unit) ≡ true
      → own (part ∷ rest) part.unit ≡ 1 ∷ [] → ⊥
  unfolding unclosed is_open_jaw
  not_alone h e =
      let closed = find_none (is_unclosed tariff trip (part ∷ rest)) 1 (greatest_unit (part ∷ rest) (places (part ∷ rest)) + 1) kept.close part.unit unit_above unit_within in
      let here : is_hr tariff (part ∷ rest) (1 ∷ []) ≡ true = rw e at h in
      true_false (rw (e, here) at closed)

  first_is_not_last : is_hr tariff (part ∷ rest) (own (part ∷ rest) part.unit) ≡ true
      → eqb 1 (last_of (own (part ∷ rest) part.unit)) ≡ false
  first_is_not_last h =
      let tail : List ℕ = filter (is_own (part ∷ rest) part.unit) (range_with_len 2 (length rest)) in
      let e : own (part ∷ rest) part.unit ≡ 1 ∷ tail = own_of_first part rest in
      rw e (last_differs tail (kept_from (is_own (part ∷ rest) part.unit) 2 (length rest)) (λ none. not_alone h (e ∙ ap (λ xs. 1 ∷ xs) none)))

  first_heads_out : heads_home tariff trip (part ∷ rest) (own (part ∷ rest) part.unit) 1 ≡ false
  first_heads_out = rw (own_of_first part rest) (home_is_home (country tariff (end_city trip (part ∷ rest) 1)) (country tariff (start_city trip (part ∷ rest) 1)))

  first_is_out : is_back_in tariff trip (part ∷ rest) (own (part ∷ rest) part.unit) 1 ≡ false
  unfolding is_back_in
  first_is_out =
      elim (cases_Bool (is_hr tariff (part ∷ rest) (own (part ∷ rest) part.unit))) [
        | inl h ↦ rw (h, first_is_not_last h) first_heads_out
        | inr n ↦ rw n
      ]

  first_may_begin : may_begin tariff trip part.end part.fare ≡ true
  unfolding part_amount
  first_may_begin =
      let amount = amount_of_part tariff trip (part ∷ rest) kept 1 (omega arith) (omega arith) in
      rw first_is_out at amount

-- a part that may begin is one of the choices
begins_by_choice : (tariff : Tariff) (trip : Itinerary) (end number : ℕ) → 1 ≤ end → end ≤ count trip → 2 ≤ number
    → number < length tariff.records + 2 → may_begin tariff trip end number ≡ true
    → Contains (first_part_choices tariff trip) (end, number)
unfolding first_part_choices
begins_by_choice tariff trip end number above within low high begins =
    let filed : Member number (record_numbers tariff) = member_numbers 2 (length tariff.records + 2) number low high in
    let kept : Member number (filter (may_begin tariff trip end) (record_numbers tariff)) = member_filter (may_begin tariff trip end) number (record_numbers tariff) begins filed in
    let chosen : Member (choice end number) (choices_to tariff trip end) = member_map (choice end) number (filter (may_begin tariff trip end) (record_numbers tariff)) kept in
    let ends : Member end (numbers_down (count trip)) = member_down (count trip) end above within in
    contains (end, number) (flat_map (choices_to tariff trip) (numbers_down (count trip))) (member_flat_map (choices_to tariff trip) end (choice end number) (numbers_down (count trip)) ends chosen)

-- a construction of a trip has a first part, which is one of the choices
pub first_is_choice : (tariff : Tariff) (trip : Itinerary) (parts : List Part) → 0 < count trip
    → IsKept tariff trip parts → (first : Part) × (rest : List Part) × (parts ≡ first ∷ rest)
    × Contains (first_part_choices tariff trip) (first.end, first.fare)
first_is_choice tariff trip [] some kept =
    let last : 0 ≡ count trip = (cover trip [] kept.cover).last in
    absurd (omega arith)
first_is_choice tariff trip (part ∷ rest) some kept =
    let covers = cover trip (part ∷ rest) kept.cover in
    let above : start_of trip (part ∷ rest) 1 < part.end = covers.above 1 (omega arith) (omega arith) in
    let within : part.end ≤ count trip = covers.within 1 (omega arith) (omega arith) in
    let filed = fare_is_filed tariff trip (part ∷ rest) kept 1 (omega arith) (omega arith) in
    let number = number_of_record tariff part.fare filed.0 filed.1 in
    (part, rest, refl, begins_by_choice tariff trip part.end part.fare (omega arith) within number.0 number.1 (first_may_begin tariff trip part rest kept))
