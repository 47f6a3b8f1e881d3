-- Which part may be the last of a unit that goes on behind the first parts of a lawful construction, and that what is
-- known of its cost is under what is behind.
use Rattle.std.proofs.Common.{◌≡◌, ℕ, zero, suc, ◌+◌, ◌-◌, ◌<◌, ◌≤◌, Bool, true, false, ◌||◌, not, List, [], ◌∷◌, ◌++◌, length, set, refl, ap, sym, subst, ◌∙◌, inl, inr, arith}
use Rattle.std.specs.Prelude.{Option, None}
use Rattle.std.specs.List.{list_any, range_with_len}
use Rattle.std.proofs.Math.ListN.{length-append}
use Rattle.std.proofs.lemmas.Bool.{cases_eq}
use Rattle.std.proofs.lemmas.List.{get_or_past, get_or-set_same, get_or-set_other}
use Rattle.std.proofs.lemmas.Option.{none-some}
use Rattle.fare_codes.specs.Day.{day_number}
use Rattle.fare_trip.specs.Itinerary.{Itinerary}
use Rattle.fare_tariff.specs.Tariff.{Tariff}
use Rattle.fare_tariff.specs.Lookup.{fare_at}
use Rattle.fare_rules.specs.declared.part.Part.{Part}
use Rattle.fare_rules.specs.Construction.{end_of, fare_of, first_of, greatest_unit, last_of, own, part_at, places, start_of, unit_of}
use Rattle.fare_rules.specs.Numbers.{numbers}
use Rattle.fare_rules.specs.Span.{first_day}
use Rattle.fare_rules.specs.Shape.{is_ow}
use Rattle.fare_rules.specs.UnitRules.{allows_stay_of, clashed, clashes, forbids_stay, has_misfit, is_clash, is_misfit, stay}
use Rattle.fare_rules.specs.Best.{IsLawful}
use Rattle.fare_rules.proofs.LawfulLemmas.{kept}
use Rattle.fare_rules.proofs.MemberLemmas.{Member, member_numbers}
use Rattle.fare_rules.proofs.NumberLemmas.{find_none}
use Rattle.fare_lawful.specs.Barred.{is_uncombined}
use Rattle.fare_units.proofs.NextLemmas.{front_start, front_unit, next_part}
use Rattle.fare_bounds.specs.Covers.{rest_at}
use Rattle.fare_legs.specs.Costs.{IsUpTo}
use Rattle.fare_floors.specs.LastParts.{may_be_last, stay_until}
use Rattle.fare_floors.specs.Stack.{goes_on}
use Rattle.fare_floors.specs.Stays.{forbids_any}
use Rattle.fare_floors.proofs.GoesOnLemmas.{going_on, not_so}
use Rattle.fare_floors.proofs.PairLemmas.{allows, fits, last_half, not_true, own_place}
use Rattle.fare_floors.proofs.SameLemmas.{fare_same}
use Rattle.fare_floors.proofs.ShutLemmas.{any_at, both_true}
use Rattle.fare_floors.proofs.StackFloorLemmas.{first_is, firsts, has_first_in}
use Rattle.fare_floors.proofs.UnitLemmas.{own_has, unit_in}

true_false : true ≡ false → ⊥
true_false e = cc

-- a number of a row that is put in place of one that is under no more keeps what is under the numbers
pub row_kept : (row : List (Option ℕ)) (p : ℕ) (item : Option ℕ) → p < length row → ((most : ℕ) → IsUpTo most (rest_at row p) → IsUpTo most item) → (i most : ℕ) → IsUpTo most (rest_at row i) → IsUpTo most (rest_at (set row p item) i)
row_kept row p item within kept i most up =
    let P : Option ℕ → Type 0 = λ number. IsUpTo most number in
    elim (cases_eq i p) [
      | inl same ↦
          let Q : ℕ → Type 0 = λ j. IsUpTo most (rest_at (set row p item) j) in
          let R : ℕ → Type 0 = λ j. IsUpTo most (rest_at row j) in
          subst Q (sym same) (subst P (sym (get_or-set_same row p item None within)) (kept most (subst R same up)))
      | inr other ↦ subst P (sym (get_or-set_other row p i item None other)) up
    ]

-- no number stands past the end of a row
pub none_past : (row : List (Option ℕ)) (i most : ℕ) → length row ≤ i → IsUpTo most (rest_at row i) → ⊥
none_past row i most past up = none-some up.0 (sym (get_or_past row i None past) ∙ up.1)

-- a test that fails at each number of a range, or for each member of a list, fails for all
none_in_range : (test : ℕ → Bool) (first n : ℕ) → ((k : ℕ) → first ≤ k → k < first + n → test k ≡ false) → list_any test (range_with_len first n) ≡ false
none_in_range test first zero fails = refl
none_in_range test first (suc n) fails = rw (fails first (omega arith) (omega arith)) (none_in_range test (first + 1) n (λ k low high. fails k (omega arith) (omega arith)))

none_of : (test : ℕ → Bool) (xs : List ℕ) → ((k : ℕ) → Member k xs → test k ≡ false) → list_any test xs ≡ false
none_of test [] fails = refl
none_of test (x ∷ xs) fails = rw (fails x (inl refl)) (none_of test xs (λ k m. fails k (inr m)))

module _ (tariff : Tariff) (trip : Itinerary) (front rest : List Part) (price : ℕ) (lawful : IsLawful tariff trip (front ++ rest) price) (unit : ℕ) (from_one : 1 ≤ unit) (in_front : unit ≤ greatest_unit front (places front)) (goes : goes_on (front ++ rest) (length front) unit ≡ true) where
  abbrev last : ℕ
  last = last_of (own (front ++ rest) unit)

  abbrev part : Part
  part = part_at (front ++ rest) (last_of (own (front ++ rest) unit))

  abbrev longer : List Part
  longer = front ++ part_at (front ++ rest) (last_of (own (front ++ rest) unit)) ∷ []

  long : length longer ≡ length front + 1
  long = length-append front (part ∷ [])

  within : last ≤ length (front ++ rest)
  within = (going_on tariff trip (front ++ rest) price lawful (length front) unit goes).within

  past : length front < last
  past = (going_on tariff trip (front ++ rest) price lawful (length front) unit goes).behind

  mine : unit_of (front ++ rest) last ≡ unit
  mine = (going_on tariff trip (front ++ rest) price lawful (length front) unit goes).last_own

  high : unit ≤ greatest_unit (front ++ rest) (places (front ++ rest))
  high =
      let after : length front < last = past in
      let P : ℕ → Type 0 = λ u. u ≤ greatest_unit (front ++ rest) (places (front ++ rest)) in
      subst P mine (unit_in tariff trip (front ++ rest) price lawful last (omega arith) within)

  last_in : Member last (own (front ++ rest) unit)
  last_in =
      let after : length front < last = past in
      let P : ℕ → Type 0 = λ u. Member last (own (front ++ rest) u) in
      subst P mine (own_has tariff trip (front ++ rest) price lawful last (omega arith) within)

  -- behind the first parts the part is as in the whole
  fare_last : fare_of tariff longer (length front + 1) ≡ fare_of tariff (front ++ rest) last
  fare_last = ap (λ (p : Part). fare_at tariff p.fare) (next_part front part [])

  unit_last : unit_of longer (length front + 1) ≡ unit_of (front ++ rest) last
  unit_last = ap (λ (p : Part). p.unit) (next_part front part [])

  fare_first : (j : ℕ) → 1 ≤ j → j ≤ length front → fare_of tariff longer j ≡ fare_of tariff (front ++ rest) j
  fare_first j one most = fare_same tariff trip front (part ∷ []) j one most ∙ sym (fare_same tariff trip front rest j one most)

  unit_first : (j : ℕ) → 1 ≤ j → j ≤ length front → unit_of longer j ≡ unit_of (front ++ rest) j
  unit_first j one most = front_unit front (part ∷ []) j one most ∙ sym (front_unit front rest j one most)

  -- so it combines with each of them
  misfit_is : (j : ℕ) → 1 ≤ j → j ≤ length front → is_misfit tariff longer (length front + 1) j ≡ is_misfit tariff (front ++ rest) last j
  misfit_is j one most = rw (unit_last, unit_first j one most, fare_first j one most, fare_last) refl

  clash_is : (j : ℕ) → 1 ≤ j → j ≤ length front → is_clash tariff longer (length front + 1) j ≡ is_clash tariff (front ++ rest) last j
  clash_is j one most = rw (unit_last, unit_first j one most, fare_first j one most, fare_last) refl

  two : first_of (own (front ++ rest) unit) < last_of (own (front ++ rest) unit)
  two =
      let begun : first_of (own (front ++ rest) unit) ≤ length front = (going_on tariff trip (front ++ rest) price lawful (length front) unit goes).begun in
      let after : length front < last = past in
      omega arith

  agrees : clashes tariff (front ++ rest) last ≡ false
  unfolding clashed
  agrees =
      let after : length front < last = past in
      let most : last ≤ length (front ++ rest) = within in
      find_none (clashes tariff (front ++ rest)) 1 (length (front ++ rest) + 1) (kept tariff trip (front ++ rest) price lawful).ends last (omega arith) (omega arith)

  longer_fits : has_misfit tariff longer (length front + 1) ≡ false
  longer_fits =
      let after : length front < last = past in
      none_in_range (is_misfit tariff longer (length front + 1)) 1 (length front + 1 - 1)
      (λ j one less. misfit_is j one (omega arith) ∙ not_so (is_misfit tariff (front ++ rest) last j) (λ t. true_false (sym (any_at (is_misfit tariff (front ++ rest) last) j (numbers 1 last) (member_numbers 1 last j one (omega arith)) t) ∙ fits tariff trip (front ++ rest) price lawful unit from_one high two)))

  longer_agrees : clashes tariff longer (length front + 1) ≡ false
  longer_agrees =
      let after : length front < last = past in
      none_in_range (is_clash tariff longer (length front + 1)) 1 (length front + 1 - 1)
      (λ j one less. clash_is j one (omega arith) ∙ not_so (is_clash tariff (front ++ rest) last j) (λ t. true_false (sym (any_at (is_clash tariff (front ++ rest) last) j (numbers 1 last) (member_numbers 1 last j one (omega arith)) t) ∙ agrees)))

  combined : is_uncombined tariff longer ≡ false
  unfolding is_uncombined
  combined =
      let P : ℕ → Type 0 = λ n. (has_misfit tariff longer n || clashes tariff longer n) ≡ false in
      let here : (has_misfit tariff longer (length front + 1) || clashes tariff longer (length front + 1)) ≡ false = rw (longer_fits, longer_agrees) refl in
      subst P (sym long) here

  pub not_ow : is_ow tariff (front ++ rest) last ≡ false
  not_ow = last_half tariff trip (front ++ rest) price lawful unit from_one high two

  -- and each rule of it allows the stay
  abbrev days : ℕ
  days = stay trip (front ++ rest) (own (front ++ rest) unit)

  allowed : (k : ℕ) → Member k (own (front ++ rest) unit) → forbids_stay tariff (front ++ rest) days k ≡ false
  allowed = allows tariff trip (front ++ rest) price lawful unit from_one high two

  longer_allows : (k : ℕ) → Member k (own longer unit) → forbids_stay tariff longer days k ≡ false
  longer_allows k m =
      let place = own_place longer unit k m in
      let n : length longer ≡ length front + 1 = long in
      let one : 1 ≤ k = place.0 in
      let most : k ≤ length longer = place.1 in
      elim (cases_eq k (length front + 1)) [
        | inl e ↦
            let P : ℕ → Type 0 = λ j. forbids_stay tariff longer days j ≡ false in
            subst P (sym e) (ap (λ fare. not (allows_stay_of tariff days fare)) fare_last ∙ allowed last last_in)
        | inr other ↦
            let within_front : k ≤ length front = omega arith in
            let of_unit : unit_of (front ++ rest) k ≡ unit = sym (unit_first k one within_front) ∙ place.2 in
            let all_parts : length (front ++ rest) ≡ length front + length rest = length-append front rest in
            let Q : ℕ → Type 0 = λ u. Member k (own (front ++ rest) u) in
            ap (λ fare. not (allows_stay_of tariff days fare)) (fare_first k one within_front)
            ∙ allowed k (subst Q of_unit (own_has tariff trip (front ++ rest) price lawful k one (omega arith)))
      ]

  -- the stay is told by the first parts and by where the last part begins
  days_same : stay_until trip front unit (start_of trip (front ++ rest) last) ≡ days
  unfolding stay
  days_same =
      let first = has_first_in tariff trip front rest price lawful unit from_one in_front (own front unit) refl in
      let place = firsts tariff trip front rest price lawful unit from_one in_front first.0 first.1 first.2 first.0 (inl refl) in
      let begins : start_of trip front (first_of (own front unit)) ≡ start_of trip (front ++ rest) (first_of (own (front ++ rest) unit)) =
      ap (λ ys. start_of trip front (first_of ys)) first.2
      ∙ sym (front_start trip front rest first.0 place.0 place.1)
      ∙ ap (start_of trip (front ++ rest)) (sym (first_is tariff trip front rest price lawful unit from_one in_front first.0 first.1 first.2)) in
      ap (λ a. day_number (first_day trip (start_of trip (front ++ rest) last)) - day_number (first_day trip a)) begins

  -- so the part may be the last of its unit
  last_fits : may_be_last tariff trip front (start_of trip (front ++ rest) last) part ≡ true
  last_fits =
      let none : list_any (forbids_stay tariff longer days) (own longer unit) ≡ false = none_of (forbids_stay tariff longer days) (own longer unit) longer_allows in
      let P : ℕ → Type 0 = λ d. list_any (forbids_stay tariff longer d) (own longer unit) ≡ false in
      let Q : ℕ → Type 0 = λ u. forbids_any tariff longer u (stay_until trip front u (start_of trip (front ++ rest) last)) ≡ false in
      let here : forbids_any tariff longer unit (stay_until trip front unit (start_of trip (front ++ rest) last)) ≡ false = subst P (sym days_same) none in
      both_true (not (is_uncombined tariff longer)) (not (forbids_any tariff longer part.unit (stay_until trip front part.unit (start_of trip (front ++ rest) last))))
      (not_true (is_uncombined tariff longer) combined) (not_true (forbids_any tariff longer part.unit (stay_until trip front part.unit (start_of trip (front ++ rest) last))) (subst Q (sym mine) here))

  pub fits_by_unit : may_be_last tariff trip front (start_of trip (front ++ rest) last) (record { end = end_of (front ++ rest) last; unit = unit; fare = (part_at (front ++ rest) last).fare }) ≡ true
  fits_by_unit =
      let P : ℕ → Type 0 = λ u. may_be_last tariff trip front (start_of trip (front ++ rest) last) (record { end = end_of (front ++ rest) last; unit = u; fare = (part_at (front ++ rest) last).fare }) ≡ true in
      subst P mine last_fits
