-- What is behind the part that comes next after some first parts of a lawful construction, by what that part is.
use Rattle.std.proofs.Common.{◌≡◌, ℕ, suc, ◌+◌, ◌-◌, ◌<◌, ◌≤◌, Bool, true, false, List, [], ◌∷◌, ◌++◌, length, set, refl, ap, sym, subst, ◌∙◌, inl, inr, arith}
use Rattle.std.specs.Prelude.{IfSome, Option, Some, None, Contains, option_map, is_some, slice_index_or, sum_by, if◌then◌else◌}
use Rattle.std.specs.List.{range_with_len}
use Rattle.std.proofs.Math.ListN.{length-append}
use Rattle.std.proofs.lemmas.Bool.{cases_Bool, cases_eq, eq-eqb, eqb-true}
use Rattle.std.proofs.lemmas.List.{append_assoc, get_or-set_same, get_or-set_other}
use Rattle.std.proofs.lemmas.List.Sums.{sum_by-cons}
use Rattle.std.proofs.lemmas.Option.{same_Some}
use Rattle.fare_trip.specs.Itinerary.{count}
use Rattle.fare_rules.specs.declared.part.Part.{Part}
use Rattle.fare_rules.specs.Construction.{start_of, end_of, part_at, places, own, is_own, unit_of, first_of, last_of, greatest_unit}
use Rattle.fare_rules.specs.Shape.{is_ow}
use Rattle.fare_rules.specs.Best.{IsLawful}
use Rattle.fare_rules.specs.Completion.{IsCompletion}
use Rattle.fare_rules.proofs.MemberLemmas.{Member}
use Rattle.fare_component.specs.declared.table.entry.Entry.{Entry}
use Rattle.fare_component.specs.Table.{Pricing, IsEntry, entries_of, entry_of}
use Rattle.fare_component.proofs.LawLemmas.{entry_is_of_fare}
use Rattle.fare_units.specs.Onward.{is_shut_unit}
use Rattle.fare_units.specs.Walk.{next_start}
use Rattle.fare_units.proofs.NextLemmas.{next_numbered, next_part, front_start, front_unit, start_by}
use Rattle.fare_bounds.specs.Covers.{least_cost, rest_at}
use Rattle.fare_homing.specs.declared.homing.Homing.{Homing}
use Rattle.fare_floors.specs.declared.ahead.Ahead.{Ahead}
use Rattle.fare_floors.specs.Ahead.{AreAhead, AreBehindHalf, IsBehindNext, IsHalfRow, must_go_from}
use Rattle.fare_floors.specs.Costs.{AreUnitFloors, or_nothing, part_least, true_cost, units_floor}
use Rattle.fare_floors.specs.Floors.{IsFloorAnswer}
use Rattle.fare_floors.specs.Joining.{is_stuck}
use Rattle.fare_legs.specs.Ceiling.{IsWithin}
use Rattle.fare_legs.specs.Costs.{IsUpTo, is_same_city}
use Rattle.fare_homing.specs.Homing.{closing_by, homing_at, may_end_at}
use Rattle.fare_homing.specs.Rows.{begun_from, cell, closing_from, jaw_from, AreHomingsOf}
use Rattle.fare_floors.specs.Stack.{AreOver, IsOver, IsOverOpen, has_more, may_come_to}
use Rattle.fare_floors.specs.Barring.{left_of}
use Rattle.fare_floors.proofs.BarringLemmas.{left_is_behind}
use Rattle.fare_floors.proofs.OverLemmas.{all_over, alone_behind, apart, behind_front, behind_next, comes_home_later, ComesHome, fewer, first_by, last_behind, last_by, last_may, more_now, none_new, one_now, rises, within}
use Rattle.fare_legs.proofs.ReachLemmas.{up_more}
use Rattle.fare_floors.proofs.ShutLemmas.{own_behind}
use Rattle.fare_floors.proofs.StackFloorLemmas.{first_is, firsts, has_first_in, not_stuck, not_shut, spent_up, within_is_floor}
use Rattle.fare_floors.proofs.StackLemmas.{begins_at, home_at, over_down}
use Rattle.fare_floors.proofs.StandLemmas.{point_behind}
use Rattle.fare_floors.proofs.SumLemmas.{kept_member, unit_up_to}
use Rattle.fare_floors.proofs.TrueCostLemmas.{alone_cost, no_single, true_least}
use Rattle.fare_floors.proofs.UnitLemmas.{member_kept, own_has, range_has}

true_false : true ≡ false → ⊥
true_false e = cc

none_some : (n : ℕ) → None ≡ Some n → ⊥
none_some n e = cc

below : (a b : ℕ) → a ≤ b → (a ≡ b → ⊥) → a < b
below a b h n = omega arith

above : (a b : ℕ) → b ≤ a → (a ≡ b → ⊥) → b < a
above a b h n = omega arith

first_in : (x : ℕ) (xs : List ℕ) → Member x xs → Member (first_of xs) xs
first_in x [] m = absurd m
first_in x (y ∷ ys) m = inl refl

none_in : (x : ℕ) (xs : List ℕ) → xs ≡ [] → Member x xs → ⊥
none_in x [] e m = m
none_in x (y ∷ ys) e m = let n : suc (length ys) ≡ 0 = ap length e in absurd (omega arith)

module _ (table : Pricing) (homing : Homing) (are : AreHomingsOf table.edition table.trip homing) (front : List Part) (part : Part) (rest : List Part) (price : ℕ) (lawful : IsLawful table.edition table.trip (front ++ part ∷ rest) price) (cheap : IsWithin homing.ceiling price) where
  abbrev whole : List Part
  whole = front ++ part ∷ rest

  abbrev next : ℕ
  next = length front + 1

  high : length front + 1 ≤ length (front ++ part ∷ rest)
  high = let n : length (front ++ part ∷ rest) ≡ length front + suc (length rest) = length-append front (part ∷ rest) in omega arith

  end_is : end_of (front ++ part ∷ rest) (length front + 1) ≡ part.end
  end_is = ap (λ (p : Part). p.end) (next_part front part rest)

  unit_is : unit_of (front ++ part ∷ rest) (length front + 1) ≡ part.unit
  unit_is = ap (λ (p : Part). p.unit) (next_part front part rest)

  abbrev Stands : ℕ → ℕ → ℕ → ℕ → Type 0
  Stands k u i cost = IsOver table.edition table.trip (begun_from homing) (closing_from homing) (jaw_from homing) (rest_at (left_of table.edition homing front)) (front ++ part ∷ rest) k u i cost

  mine : Member (length front + 1) (own (front ++ part ∷ rest) (unit_of (front ++ part ∷ rest) (length front + 1)))
  mine = own_has table.edition table.trip (front ++ part ∷ rest) price lawful (length front + 1) (omega arith) high

  -- the part is behind the first ones in its unit
  some_behind : (unit : ℕ) → part.unit ≡ unit → own_behind table.edition table.trip front (part ∷ rest) unit ≡ [] → ⊥
  some_behind unit same none =
      none_in (length front + 1) (own_behind table.edition table.trip front (part ∷ rest) unit) none
      (member_kept (is_own (front ++ part ∷ rest) unit) (range_with_len (length front + 1) (length (part ∷ rest))) (length front + 1) (range_has (length front + 1) (length (part ∷ rest)) (length front + 1) (omega arith) (omega arith))
      (eq-eqb (unit_of (front ++ part ∷ rest) (length front + 1)) unit (unit_is ∙ same)))

  module _ (cost : ℕ) (over : Stands (length front + 1) (greatest_unit (front ++ part ∷ rest) (places (front ++ part ∷ rest))) (end_of (front ++ part ∷ rest) (length front + 1)) cost) where
    from_low : end_of front (length front) ≤ end_of (front ++ part ∷ rest) (length front + 1)
    from_low =
        let rise : point_behind (front ++ part ∷ rest) (length front) < end_of (front ++ part ∷ rest) (length front + 1) = rises table.edition table.trip (front ++ part ∷ rest) price lawful homing.unit_ceiling are.unit_ceiling.alike (are.unit_ceiling.units (front ++ part ∷ rest) price lawful cheap) (begun_from homing) (closing_from homing) (jaw_from homing) (cell homing.whole) (rest_at (left_of table.edition homing front)) (left_is_behind table homing are front (part ∷ rest) price lawful) (length front) high cost over in
        let same : point_behind (front ++ part ∷ rest) (length front) ≡ end_of front (length front) = behind_front front (part ∷ rest) in
        omega arith

    to_end : end_of (front ++ part ∷ rest) (length front + 1) ≤ count table.trip
    to_end = within table.edition table.trip (front ++ part ∷ rest) price lawful homing.unit_ceiling are.unit_ceiling.alike (are.unit_ceiling.units (front ++ part ∷ rest) price lawful cheap) (begun_from homing) (closing_from homing) (jaw_from homing) (cell homing.whole) (rest_at (left_of table.edition homing front)) (left_is_behind table homing are front (part ∷ rest) price lawful) (length front) high cost over

    -- the row of the part's unit is no more than what is over the units that go on behind it
    module _ (way : is_ow table.edition (front ++ part ∷ rest) (length front + 1) ≡ false) (under row : List (Option ℕ)) (known : AreOver table homing front (unit_of (front ++ part ∷ rest) (length front + 1) - 1) under) (start : ℕ) (begins : begins_at table.trip (front ++ part ∷ rest) (unit_of (front ++ part ∷ rest) (length front + 1)) ≡ start) (begun : Bool)
        (row_is : IsHalfRow table homing (end_of front (length front)) start begun under row) (earlier : begun ≡ true → first_of (own (front ++ part ∷ rest) (unit_of (front ++ part ∷ rest) (length front + 1))) < length front + 1)
        (now : begun ≡ false → first_of (own (front ++ part ∷ rest) (unit_of (front ++ part ∷ rest) (length front + 1))) ≡ length front + 1) where
      here : IsOverOpen table.trip homing (end_of (front ++ part ∷ rest) (length front + 1) + 1) begun (end_of (front ++ part ∷ rest) (length front + 1)) start (must_go_from table.edition table.trip start begun (end_of (front ++ part ∷ rest) (length front + 1))) (end_of (front ++ part ∷ rest) (length front + 1)) row_is.0
          (rest_at under (end_of (front ++ part ∷ rest) (length front + 1))) (rest_at row (end_of (front ++ part ∷ rest) (length front + 1)))
      here = row_is.2 (end_of (front ++ part ∷ rest) (length front + 1)) from_low to_end

      as_last : last_of (own (front ++ part ∷ rest) (unit_of (front ++ part ∷ rest) (length front + 1))) ≡ length front + 1 → IsUpTo cost (rest_at row (end_of (front ++ part ∷ rest) (length front + 1)))
      as_last last =
          let up : IsUpTo cost (rest_at under (end_of (front ++ part ∷ rest) (length front + 1))) =
          known (part ∷ rest) price (end_of (front ++ part ∷ rest) (length front + 1)) cost lawful cheap from_low to_end
          (last_behind table.edition table.trip (front ++ part ∷ rest) price lawful homing.unit_ceiling are.unit_ceiling.alike (are.unit_ceiling.units (front ++ part ∷ rest) price lawful cheap) (begun_from homing) (closing_from homing) (jaw_from homing) (cell homing.whole) (rest_at (left_of table.edition homing front)) (left_is_behind table homing are front (part ∷ rest) price lawful) (length front) high cost over way last) in
          let P : ℕ → Type 0 = λ a. may_end_at table.edition table.trip a (end_of (front ++ part ∷ rest) (length front + 1)) ≡ true in
          let may : may_end_at table.edition table.trip start (end_of (front ++ part ∷ rest) (length front + 1)) ≡ true = subst P begins (last_may table.edition table.trip (front ++ part ∷ rest) price lawful homing.unit_ceiling are.unit_ceiling.alike (are.unit_ceiling.units (front ++ part ∷ rest) price lawful cheap) (begun_from homing) (closing_from homing) (jaw_from homing) (cell homing.whole) (rest_at (left_of table.edition homing front)) (left_is_behind table homing are front (part ∷ rest) price lawful) (length front) high cost over way last) in
          elim (cases_Bool begun) [
            | inl t ↦
                let free : must_go_from table.edition table.trip start begun (end_of (front ++ part ∷ rest) (length front + 1)) ≡ false = rw (t, may) refl in
                here.whole free cost up
            | inr f ↦
                let first : first_of (own (front ++ part ∷ rest) (unit_of (front ++ part ∷ rest) (length front + 1))) ≡ length front + 1 = now f in
                let two : first_of (own (front ++ part ∷ rest) (unit_of (front ++ part ∷ rest) (length front + 1))) < last_of (own (front ++ part ∷ rest) (unit_of (front ++ part ∷ rest) (length front + 1))) = apart table.edition table.trip (front ++ part ∷ rest) price lawful homing.unit_ceiling are.unit_ceiling.alike (are.unit_ceiling.units (front ++ part ∷ rest) price lawful cheap) (begun_from homing) (closing_from homing) (jaw_from homing) (cell homing.whole) (rest_at (left_of table.edition homing front)) (left_is_behind table homing are front (part ∷ rest) price lawful) (length front) high cost over way in
                absurd (omega arith)
          ]

      may_home : ComesHome table.edition table.trip (front ++ part ∷ rest) price lawful homing.unit_ceiling are.unit_ceiling.alike (are.unit_ceiling.units (front ++ part ∷ rest) price lawful cheap) (begun_from homing) (closing_from homing) (jaw_from homing) (cell homing.whole) (rest_at (left_of table.edition homing front)) (left_is_behind table homing are front (part ∷ rest) price lawful) (length front) high cost over way
          → may_come_to table.edition table.trip start begun (home_at (front ++ part ∷ rest) (unit_of (front ++ part ∷ rest) (length front + 1))) ≡ true
      may_home h =
          let P : ℕ → Type 0 = λ a. is_same_city table.trip a (home_at (front ++ part ∷ rest) (unit_of (front ++ part ∷ rest) (length front + 1))) ≡ true in
          let Q : ℕ → Type 0 = λ a. may_end_at table.edition table.trip a (home_at (front ++ part ∷ rest) (unit_of (front ++ part ∷ rest) (length front + 1))) ≡ true in
          elim (cases_Bool begun) [
            | inl t ↦ rw t (subst P begins (h.city (earlier t)))
            | inr f ↦ rw f (subst Q begins h.may)
          ]

      -- with the part its unit has more than one where it had one before
      more_is : has_more (front ++ part ∷ rest) (length front + 1) (unit_of (front ++ part ∷ rest) (length front + 1)) ≡ begun
      more_is =
          elim (cases_Bool begun) [
            | inl t ↦ more_now table.edition table.trip (front ++ part ∷ rest) price lawful homing.unit_ceiling are.unit_ceiling.alike (are.unit_ceiling.units (front ++ part ∷ rest) price lawful cheap) (begun_from homing) (closing_from homing) (jaw_from homing) (cell homing.whole) (rest_at (left_of table.edition homing front)) (left_is_behind table homing are front (part ∷ rest) price lawful) (length front) high cost over way (earlier t) ∙ sym t
            | inr f ↦ one_now table.edition table.trip (front ++ part ∷ rest) price lawful homing.unit_ceiling are.unit_ceiling.alike (are.unit_ceiling.units (front ++ part ∷ rest) price lawful cheap) (begun_from homing) (closing_from homing) (jaw_from homing) (cell homing.whole) (rest_at (left_of table.edition homing front)) (left_is_behind table homing are front (part ∷ rest) price lawful) (length front) high cost over way (now f) ∙ sym f
          ]

      as_open : length front + 1 < last_of (own (front ++ part ∷ rest) (unit_of (front ++ part ∷ rest) (length front + 1))) → IsUpTo cost (rest_at row (end_of (front ++ part ∷ rest) (length front + 1)))
      as_open less =
          let h = comes_home_later table.edition table.trip (front ++ part ∷ rest) price lawful homing.unit_ceiling are.unit_ceiling.alike (are.unit_ceiling.units (front ++ part ∷ rest) price lawful cheap) (begun_from homing) (closing_from homing) (jaw_from homing) (cell homing.whole) (rest_at (left_of table.edition homing front)) (left_is_behind table homing are front (part ∷ rest) price lawful) (length front) high cost over way less in
          let home : ℕ = home_at (front ++ part ∷ rest) (unit_of (front ++ part ∷ rest) (length front + 1)) in
          let from : end_of front (length front) ≤ end_of (front ++ part ∷ rest) (length front + 1) = from_low in
          let later : end_of (front ++ part ∷ rest) (length front + 1) < home_at (front ++ part ∷ rest) (unit_of (front ++ part ∷ rest) (length front + 1)) = h.later in
          let B : Bool → Type 0 = λ more. IsUpTo h.until (homing_at table.trip (closing_by more (begun_from homing) (closing_from homing) (end_of (front ++ part ∷ rest) (length front + 1))) (jaw_from homing (end_of (front ++ part ∷ rest) (length front + 1))) (begins_at table.trip (front ++ part ∷ rest) (unit_of (front ++ part ∷ rest) (length front + 1))) (end_of (front ++ part ∷ rest) (length front + 1)) (home_at (front ++ part ∷ rest) (unit_of (front ++ part ∷ rest) (length front + 1)))) in
          let P : ℕ → Type 0 = λ a. IsUpTo h.until (homing_at table.trip (closing_by begun (begun_from homing) (closing_from homing) (end_of (front ++ part ∷ rest) (length front + 1))) (jaw_from homing (end_of (front ++ part ∷ rest) (length front + 1))) a (end_of (front ++ part ∷ rest) (length front + 1)) (home_at (front ++ part ∷ rest) (unit_of (front ++ part ∷ rest) (length front + 1)))) in
          let until = subst P begins (subst B more_is h.homing) in
          let then_up = known (part ∷ rest) price (home_at (front ++ part ∷ rest) (unit_of (front ++ part ∷ rest) (length front + 1))) h.left_over lawful cheap (omega arith) h.home_within h.stands in
          let there : rest_at row_is.0 (home_at (front ++ part ∷ rest) (unit_of (front ++ part ∷ rest) (length front + 1))) ≡ rest_at under (home_at (front ++ part ∷ rest) (unit_of (front ++ part ∷ rest) (length front + 1))) =
          row_is.1 (home_at (front ++ part ∷ rest) (unit_of (front ++ part ∷ rest) (length front + 1))) (omega arith) h.home_within (may_home h) in
          let least = here.home (home_at (front ++ part ∷ rest) (unit_of (front ++ part ∷ rest) (length front + 1))) (omega arith) h.home_within until.0 then_up.0 until.1 (there ∙ then_up.1) in
          let a : until.0 ≤ h.until = until.2 in
          let b : then_up.0 ≤ h.left_over = then_up.2 in
          let sum : h.until + h.left_over ≤ cost = h.sum in
          up_more (until.0 + then_up.0) cost (rest_at row (end_of (front ++ part ∷ rest) (length front + 1))) (omega arith) least

      row_is_under : IsUpTo cost (rest_at row (end_of (front ++ part ∷ rest) (length front + 1)))
      row_is_under =
          let most : length front + 1 ≤ last_of (own (front ++ part ∷ rest) (unit_of (front ++ part ∷ rest) (length front + 1))) = last_by table.edition table.trip (front ++ part ∷ rest) price lawful homing.unit_ceiling are.unit_ceiling.alike (are.unit_ceiling.units (front ++ part ∷ rest) price lawful cheap) (begun_from homing) (closing_from homing) (jaw_from homing) (cell homing.whole) (rest_at (left_of table.edition homing front)) (left_is_behind table homing are front (part ∷ rest) price lawful) (length front) high cost over in
          elim (cases_eq (last_of (own (front ++ part ∷ rest) (unit_of (front ++ part ∷ rest) (length front + 1)))) (length front + 1)) [
            | inl last ↦ as_last last
            | inr other ↦ as_open (above (last_of (own (front ++ part ∷ rest) (unit_of (front ++ part ∷ rest) (length front + 1)))) (length front + 1) most other)
          ]

module _ (table : Pricing) (homing : Homing) (are : AreHomingsOf table.edition table.trip homing) (front : List Part) where
  -- a unit of the first parts that may go on
  pub begun_row : (unit : ℕ) → 1 ≤ unit → unit ≤ greatest_unit front (places front) → (under row : List (Option ℕ)) → AreOver table homing front (unit - 1) under → (start : ℕ) → start ≡ start_of table.trip front (first_of (own front unit))
      → IsHalfRow table homing (end_of front (length front)) start true under row → AreBehindHalf table homing front unit row
  begun_row unit low most under row known start starts row_is part rest price cost lawful cheap same way over =
      let e : unit ≡ unit_of (front ++ part ∷ rest) (length front + 1) = sym (unit_is table homing are front part rest price lawful cheap ∙ same) in
      let found = has_first_in table.edition table.trip front (part ∷ rest) price lawful unit low most (own front unit) refl in
      let first : first_of (own (front ++ part ∷ rest) unit) ≡ found.0 = first_is table.edition table.trip front (part ∷ rest) price lawful unit low most found.0 found.1 found.2 in
      let place = firsts table.edition table.trip front (part ∷ rest) price lawful unit low most found.0 found.1 found.2 found.0 (inl refl) in
      let last : found.0 ≤ length front = place.1 in
      let begins : begins_at table.trip (front ++ part ∷ rest) unit ≡ start =
      ap (start_of table.trip (front ++ part ∷ rest)) first ∙ front_start table.trip front (part ∷ rest) found.0 place.0 place.1 ∙ ap (λ ys. start_of table.trip front (first_of ys)) (sym found.2) ∙ sym starts in
      let P : ℕ → Type 0 = λ u. AreOver table homing front (u - 1) under in
      let Q : ℕ → Type 0 = λ u. begins_at table.trip (front ++ part ∷ rest) u ≡ start in
      let R : ℕ → Type 0 = λ u. first_of (own (front ++ part ∷ rest) u) < length front + 1 in
      let before : first_of (own (front ++ part ∷ rest) unit) < length front + 1 = omega arith in
      let S : ℕ → Type 0 = λ i. IsUpTo cost (rest_at row i) in
      subst S (end_is table homing are front part rest price lawful cheap)
      (row_is_under table homing are front part rest price lawful cheap cost over way under row (subst P e known) start (subst Q e begins) true row_is (λ t. subst R e before) (λ f. absurd (true_false f)))

  -- a unit that begins with the part
  pub new_row : (unit : ℕ) → unit ≡ greatest_unit front (places front) + 1 → (under row : List (Option ℕ)) → AreOver table homing front (greatest_unit front (places front)) under → (start : ℕ) → start ≡ next_start table.trip front
      → IsHalfRow table homing (end_of front (length front)) start false under row → AreBehindHalf table homing front unit row
  unfolding own
  new_row unit new under row known start starts row_is part rest price cost lawful cheap same way over =
      let e : unit_of (front ++ part ∷ rest) (length front + 1) ≡ unit = unit_is table homing are front part rest price lawful cheap ∙ same in
      let below_it : greatest_unit front (places front) ≡ unit_of (front ++ part ∷ rest) (length front + 1) - 1 = omega arith in
      let P : ℕ → Type 0 = λ u. AreOver table homing front u under in
      let first = first_now part rest price cost lawful cheap over e new in
      let begins : begins_at table.trip (front ++ part ∷ rest) (unit_of (front ++ part ∷ rest) (length front + 1)) ≡ start = ap (start_of table.trip (front ++ part ∷ rest)) first ∙ start_by table.trip front part rest ∙ sym starts in
      let S : ℕ → Type 0 = λ i. IsUpTo cost (rest_at row i) in
      subst S (end_is table homing are front part rest price lawful cheap)
      (row_is_under table homing are front part rest price lawful cheap cost over way under row (subst P below_it known) start begins false row_is (λ t. absurd (true_false (sym t))) (λ f. first))
    where
      first_now : (part : Part) (rest : List Part) (price cost : ℕ) (lawful : IsLawful table.edition table.trip (front ++ part ∷ rest) price) (cheap : IsWithin homing.ceiling price)
          → IsOver table.edition table.trip (begun_from homing) (closing_from homing) (jaw_from homing) (rest_at (left_of table.edition homing front)) (front ++ part ∷ rest) (length front + 1) (greatest_unit (front ++ part ∷ rest) (places (front ++ part ∷ rest))) (end_of (front ++ part ∷ rest) (length front + 1)) cost
          → unit_of (front ++ part ∷ rest) (length front + 1) ≡ unit → unit ≡ greatest_unit front (places front) + 1 → first_of (own (front ++ part ∷ rest) (unit_of (front ++ part ∷ rest) (length front + 1))) ≡ length front + 1
      first_now part rest price cost lawful cheap over e new =
          let most : first_of (own (front ++ part ∷ rest) (unit_of (front ++ part ∷ rest) (length front + 1))) ≤ length front + 1 = first_by table.edition table.trip (front ++ part ∷ rest) price lawful homing.unit_ceiling are.unit_ceiling.alike (are.unit_ceiling.units (front ++ part ∷ rest) price lawful cheap) (begun_from homing) (closing_from homing) (jaw_from homing) (cell homing.whole) (rest_at (left_of table.edition homing front)) (left_is_behind table homing are front (part ∷ rest) price lawful) (length front) (high table homing are front part rest price lawful cheap) cost over in
          elim (cases_eq (first_of (own (front ++ part ∷ rest) (unit_of (front ++ part ∷ rest) (length front + 1)))) (length front + 1)) [
            | inl same ↦ same
            | inr other ↦ absurd (not_before (below (first_of (own (front ++ part ∷ rest) (unit_of (front ++ part ∷ rest) (length front + 1)))) (length front + 1) most other))
          ]
        where
          not_before : first_of (own (front ++ part ∷ rest) (unit_of (front ++ part ∷ rest) (length front + 1))) < length front + 1 → ⊥
          not_before less =
              let m = first_in (length front + 1) (own (front ++ part ∷ rest) (unit_of (front ++ part ∷ rest) (length front + 1))) (mine table homing are front part rest price lawful cheap) in
              let h = kept_member (is_own (front ++ part ∷ rest) (unit_of (front ++ part ∷ rest) (length front + 1))) 1 (length (front ++ part ∷ rest) + 1 - 1) (first_of (own (front ++ part ∷ rest) (unit_of (front ++ part ∷ rest) (length front + 1)))) m in
              let one : 1 ≤ first_of (own (front ++ part ∷ rest) (unit_of (front ++ part ∷ rest) (length front + 1))) = h.0 in
              let its : unit_of (front ++ part ∷ rest) (first_of (own (front ++ part ∷ rest) (unit_of (front ++ part ∷ rest) (length front + 1)))) ≡ unit_of (front ++ part ∷ rest) (length front + 1) = eqb-true _ _ h.2 in
              let same : unit_of (front ++ part ∷ rest) (first_of (own (front ++ part ∷ rest) (unit_of (front ++ part ∷ rest) (length front + 1)))) ≡ unit_of front (first_of (own (front ++ part ∷ rest) (unit_of (front ++ part ∷ rest) (length front + 1)))) = front_unit front (part ∷ rest) (first_of (own (front ++ part ∷ rest) (unit_of (front ++ part ∷ rest) (length front + 1)))) one (omega arith) in
              let up : unit_of front (first_of (own (front ++ part ∷ rest) (unit_of (front ++ part ∷ rest) (length front + 1)))) ≤ greatest_unit front (range_with_len 1 (length front + 1 - 1)) = unit_up_to front 1 (length front + 1 - 1) (first_of (own (front ++ part ∷ rest) (unit_of (front ++ part ∷ rest) (length front + 1)))) one (omega arith) in
              omega arith

  -- a unit to which no part can come any more
  module _ (unit : ℕ) (low : 1 ≤ unit) (most : unit ≤ greatest_unit front (places front)) (row : List (Option ℕ)) where
    by_behind : (part : Part) (rest : List Part) (price : ℕ) (lawful : IsLawful table.edition table.trip (front ++ part ∷ rest) price) (cheap : IsWithin homing.ceiling price) → part.unit ≡ unit
        → (x : ℕ) × (xs : List ℕ) × (own front unit ≡ x ∷ xs) × (k : ℕ) × (more : List ℕ) × (own_behind table.edition table.trip front (part ∷ rest) unit ≡ k ∷ more)
    by_behind part rest price lawful cheap same = by_list (own_behind table.edition table.trip front (part ∷ rest) unit) refl
      where
        by_list : (ys : List ℕ) → own_behind table.edition table.trip front (part ∷ rest) unit ≡ ys → (x : ℕ) × (xs : List ℕ) × (own front unit ≡ x ∷ xs) × (k : ℕ) × (more : List ℕ) × (own_behind table.edition table.trip front (part ∷ rest) unit ≡ k ∷ more)
        by_list [] none = absurd (some_behind table homing are front part rest price lawful cheap unit same none)
        by_list (k ∷ more) some =
            let found = has_first_in table.edition table.trip front (part ∷ rest) price lawful unit low most (own front unit) refl in
            (found.0, found.1, found.2, k, more, some)

    pub shut_row : is_shut_unit table.edition table.trip front unit ≡ true → AreBehindHalf table homing front unit row
    shut_row shut part rest price cost lawful cheap same way over =
        let b = by_behind part rest price lawful cheap same in
        absurd (not_shut table.edition table.trip front (part ∷ rest) price lawful unit low most b.0 b.1 b.2 b.3 b.4 b.5 shut)

    pub stuck_row : is_stuck table.trip front unit ≡ true → AreBehindHalf table homing front unit row
    stuck_row stuck part rest price cost lawful cheap same way over =
        let b = by_behind part rest price lawful cheap same in
        absurd (not_stuck table.edition table.trip front (part ∷ rest) price lawful unit low most b.0 b.1 b.2 b.3 b.4 b.5 stuck)

  -- so what is known of the rows is known of what is ahead
  module _ (ahead : Ahead) (floors : AreUnitFloors table.edition table.trip front ahead.floors) (spent : ahead.spent ≤ units_floor table.edition table.trip front) (ceiling : ahead.ceiling ≡ homing.ceiling) where
    by_cost : (part : Part) (rest : List Part) (price : ℕ) (lawful : IsLawful table.edition table.trip (front ++ part ∷ rest) price) (cheap : IsWithin homing.ceiling price) (behind : Option ℕ)
        → IsUpTo (sum_by (true_cost table.edition table.trip (front ++ part ∷ rest)) (range_with_len (length front + 1 + 1) (length rest))) behind → IsBehindNext table front part rest price ahead.spent behind
    by_cost part rest price lawful cheap behind up =
        let paid : units_floor table.edition table.trip front + sum_by (true_cost table.edition table.trip (front ++ part ∷ rest)) (range_with_len (length front + 1) (length (part ∷ rest))) ≤ price = spent_up table.edition table.trip front (part ∷ rest) price lawful in
        let split : sum_by (true_cost table.edition table.trip (front ++ part ∷ rest)) (range_with_len (length front + 1) (length (part ∷ rest))) ≡ true_cost table.edition table.trip (front ++ part ∷ rest) (length front + 1) + sum_by (true_cost table.edition table.trip (front ++ part ∷ rest)) (range_with_len (length front + 1 + 1) (length rest)) =
        sum_by-cons (true_cost table.edition table.trip (front ++ part ∷ rest)) (length front + 1) (range_with_len (length front + 1 + 1) (length rest)) in
        let least : part_least table.edition table.trip (front ++ part ∷ rest) (length front + 1) ≤ true_cost table.edition table.trip (front ++ part ∷ rest) (length front + 1) = true_least table.edition table.trip (front ++ part ∷ rest) price lawful (length front + 1) (omega arith) (high table homing are front part rest price lawful cheap) in
        let low : up.0 ≤ sum_by (true_cost table.edition table.trip (front ++ part ∷ rest)) (range_with_len (length front + 1 + 1) (length rest)) = up.2 in
        (ahead.spent + part_least table.edition table.trip (front ++ part ∷ rest) (length front + 1) + up.0, ap (option_map (λ more. ahead.spent + part_least table.edition table.trip (front ++ part ∷ rest) (length front + 1) + more)) up.1, omega arith)

    next_over : (part : Part) (rest : List Part) (price : ℕ) → IsLawful table.edition table.trip (front ++ part ∷ rest) price → IsWithin homing.ceiling price
        → IsOver table.edition table.trip (begun_from homing) (closing_from homing) (jaw_from homing) (rest_at (left_of table.edition homing front)) (front ++ part ∷ rest) (length front + 1) (greatest_unit (front ++ part ∷ rest) (places (front ++ part ∷ rest))) (end_of (front ++ part ∷ rest) (length front + 1))
        (sum_by (true_cost table.edition table.trip (front ++ part ∷ rest)) (range_with_len (length front + 1 + 1) (length rest)))
    next_over part rest price lawful cheap =
        let n : length (front ++ part ∷ rest) ≡ length front + suc (length rest) = length-append front (part ∷ rest) in
        let P : ℕ → Type 0 = λ j. IsOver table.edition table.trip (begun_from homing) (closing_from homing) (jaw_from homing) (rest_at (left_of table.edition homing front)) (front ++ part ∷ rest) (length front + 1) (greatest_unit (front ++ part ∷ rest) (places (front ++ part ∷ rest))) j (sum_by (true_cost table.edition table.trip (front ++ part ∷ rest)) (range_with_len (length front + 1 + 1) (length rest))) in
        subst P (behind_next (front ++ part ∷ rest) (length front)) (all_over table.edition table.trip (front ++ part ∷ rest) price lawful homing.unit_ceiling are.unit_ceiling.alike (are.unit_ceiling.units (front ++ part ∷ rest) price lawful cheap) (begun_from homing) (closing_from homing) (jaw_from homing) (cell homing.whole) (rest_at (left_of table.edition homing front)) (left_is_behind table homing are front (part ∷ rest) price lawful) (length rest) (length front + 1) (omega arith) (omega arith))

    alone_by : AreOver table homing front (greatest_unit front (places front)) ahead.alone → (part : Part) (rest : List Part) (price : ℕ) → IsLawful table.edition table.trip (front ++ part ∷ rest) price → IsWithin homing.ceiling price → is_ow table.edition (front ++ part ∷ rest) (length front + 1) ≡ true
        → IsBehindNext table front part rest price ahead.spent (rest_at ahead.alone part.end)
    alone_by known part rest price lawful cheap way =
        let over = next_over part rest price lawful cheap in
        let cost : ℕ = sum_by (true_cost table.edition table.trip (front ++ part ∷ rest)) (range_with_len (length front + 1 + 1) (length rest)) in
        let up_to_end = high table homing are front part rest price lawful cheap in
        let o = alone_behind table.edition table.trip (front ++ part ∷ rest) price lawful homing.unit_ceiling are.unit_ceiling.alike (are.unit_ceiling.units (front ++ part ∷ rest) price lawful cheap) (begun_from homing) (closing_from homing) (jaw_from homing) (cell homing.whole) (rest_at (left_of table.edition homing front)) (left_is_behind table homing are front (part ∷ rest) price lawful) (length front) up_to_end (sum_by (true_cost table.edition table.trip (front ++ part ∷ rest)) (range_with_len (length front + 1 + 1) (length rest))) over way in
        let down = over_down table.edition table.trip (begun_from homing) (closing_from homing) (jaw_from homing) (rest_at (left_of table.edition homing front)) (front ++ part ∷ rest) (length front) (greatest_unit front (places front)) (greatest_unit (front ++ part ∷ rest) (places (front ++ part ∷ rest))) (end_of (front ++ part ∷ rest) (length front + 1))
        (sum_by (true_cost table.edition table.trip (front ++ part ∷ rest)) (range_with_len (length front + 1 + 1) (length rest))) (fewer table.edition table.trip front (part ∷ rest) price lawful) (λ v low most. none_new table.edition table.trip front (part ∷ rest) price lawful v low) o in
        let S : ℕ → Type 0 = λ i. IsUpTo (sum_by (true_cost table.edition table.trip (front ++ part ∷ rest)) (range_with_len (length front + 1 + 1) (length rest))) (rest_at ahead.alone i) in
        by_cost part rest price lawful cheap (rest_at ahead.alone part.end)
        (subst S (end_is table homing are front part rest price lawful cheap)
        (known (part ∷ rest) price (end_of (front ++ part ∷ rest) (length front + 1)) (sum_by (true_cost table.edition table.trip (front ++ part ∷ rest)) (range_with_len (length front + 1 + 1) (length rest))) lawful cheap
        (from_low table homing are front part rest price lawful cheap (sum_by (true_cost table.edition table.trip (front ++ part ∷ rest)) (range_with_len (length front + 1 + 1) (length rest))) over)
        (to_end table homing are front part rest price lawful cheap (sum_by (true_cost table.edition table.trip (front ++ part ∷ rest)) (range_with_len (length front + 1 + 1) (length rest))) over) down))

    pub ahead_is : AreOver table homing front (greatest_unit front (places front)) ahead.alone
        → ((unit : ℕ) → 1 ≤ unit → unit ≤ greatest_unit front (places front) + 1 → AreBehindHalf table homing front unit (slice_index_or ahead.half unit [])) → AreAhead table front ahead
    ahead_is known rows = record {
      floors = floors;
      alone = λ part rest price lawful within way. alone_by known part rest price lawful (subst (λ c. IsWithin c price) ceiling within) way;
      half = λ part rest price lawful within way.
          let cheap : IsWithin homing.ceiling price = subst (λ c. IsWithin c price) ceiling within in
          let numbered = next_numbered table.edition table.trip front part rest price lawful in
          by_cost part rest price lawful cheap (cell ahead.half part.unit part.end)
          (rows part.unit numbered.0 numbered.1 part rest price (sum_by (true_cost table.edition table.trip (front ++ part ∷ rest)) (range_with_len (length front + 1 + 1) (length rest))) lawful cheap refl way (next_over part rest price lawful cheap));
    }

-- a part with an entry: what is ahead of it is a floor
module _ (table : Pricing) (front : List Part) (ahead : Ahead) (known : AreAhead table front ahead) (part : Part) (entry : Entry) (there : Contains (entries_of table.edition table.trip (next_start table.trip front) part.end) entry) (same : entry.fare ≡ part.fare) where
  abbrev pub behind : Option ℕ
  behind = if is_some entry.single then rest_at ahead.alone part.end else cell ahead.half part.unit part.end

  is : IsEntry table.edition table.trip (next_start table.trip front) part.end entry
  is = entry_is_of_fare table.edition table.trip (next_start table.trip front) part.end entry there

  whole_is : entry ≡ entry_of table.edition table.trip (next_start table.trip front) part.end part.fare
  whole_is = is.whole ∙ ap (entry_of table.edition table.trip (next_start table.trip front) part.end) same

  module _ (rest : List Part) (price : ℕ) (lawful : IsLawful table.edition table.trip (front ++ part ∷ rest) price) (cheap : IsWithin ahead.ceiling price) where
    high_next : length front + 1 ≤ length (front ++ part ∷ rest)
    high_next = let n : length (front ++ part ∷ rest) ≡ length front + suc (length rest) = length-append front (part ∷ rest) in omega arith

    here_is : entry_of table.edition table.trip (start_of table.trip (front ++ part ∷ rest) (length front + 1)) (end_of (front ++ part ∷ rest) (length front + 1)) (part_at (front ++ part ∷ rest) (length front + 1)).fare ≡ entry
    here_is =
        ap (λ (p : Part). entry_of table.edition table.trip (start_of table.trip (front ++ part ∷ rest) (length front + 1)) p.end p.fare) (next_part front part rest)
        ∙ ap (λ a. entry_of table.edition table.trip a part.end part.fare) (start_by table.trip front part rest) ∙ sym whole_is

    costs : part_least table.edition table.trip (front ++ part ∷ rest) (length front + 1) ≡ or_nothing (least_cost entry)
    costs = ap (λ (e : Entry). or_nothing (least_cost e)) here_is

    behind_next_by : IsBehindNext table front part rest price ahead.spent behind
    behind_next_by =
        elim (cases_Bool (is_ow table.edition (front ++ part ∷ rest) (length front + 1))) [
          | inl way ↦
              let single : entry.single ≡ Some (true_cost table.edition table.trip (front ++ part ∷ rest) (length front + 1)) = ap (λ (e : Entry). e.single) (sym here_is) ∙ alone_cost table.edition table.trip (front ++ part ∷ rest) price lawful (length front + 1) (omega arith) high_next way in
              rw single (known.alone part rest price lawful cheap way)
          | inr way ↦
              let single : entry.single ≡ None = ap (λ (e : Entry). e.single) (sym here_is) ∙ no_single table.edition table.trip (front ++ part ∷ rest) price lawful (length front + 1) (omega arith) high_next way in
              rw single (known.half part rest price lawful cheap way)
        ]

    up_to_price : (found : Option ℕ) → ((more : ℕ) → behind ≡ Some more → IsUpTo (ahead.spent + or_nothing (least_cost entry) + more) found) → IsUpTo price found
    up_to_price found sum = by_behind behind refl behind_next_by
      where
        by_behind : (b : Option ℕ) → behind ≡ b → IsUpTo price (option_map (λ more. ahead.spent + part_least table.edition table.trip (front ++ part ∷ rest) (length front + 1) + more) b) → IsUpTo price found
        by_behind None e up = absurd (none_some up.0 up.1)
        by_behind (Some more) e up =
            let low : up.0 ≤ price = up.2 in
            let is_sum : ahead.spent + part_least table.edition table.trip (front ++ part ∷ rest) (length front + 1) + more ≡ up.0 = same_Some (ahead.spent + part_least table.edition table.trip (front ++ part ∷ rest) (length front + 1) + more) up.0 up.1 in
            let cost : part_least table.edition table.trip (front ++ part ∷ rest) (length front + 1) ≡ or_nothing (least_cost entry) = costs in
            up_more (ahead.spent + or_nothing (least_cost entry) + more) price found (omega arith) (sum more e)

  pub floor_of_entry : (found : Option ℕ) → ((more : ℕ) → behind ≡ Some more → IsUpTo (ahead.spent + or_nothing (least_cost entry) + more) found) → IfSome ahead.ceiling (λ known. IsUpTo (known.price + 1) found)
      → IsFloorAnswer table.edition table.trip (front ++ part ∷ []) found
  floor_of_entry found sum above = within_is_floor table ahead.ceiling (front ++ part ∷ []) found under above
    where
      under : (parts : List Part) (price : ℕ) → IsCompletion table.edition table.trip (front ++ part ∷ []) parts price → IsWithin ahead.ceiling price → IsUpTo price found
      under parts price c cheap =
          let P : List Part → Type 0 = λ xs. IsLawful table.edition table.trip xs price in
          up_to_price c.begins.0 price (subst P (append_assoc front (part ∷ []) c.begins.0) (subst P c.begins.1 c.lawful)) cheap found sum

-- a row is put behind those before it
pub rows_more : (P : ℕ → List (Option ℕ) → Type 0) (rows : List (List (Option ℕ))) (past : ℕ) (row : List (Option ℕ)) → past < length rows → ((unit : ℕ) → unit < past → P unit (slice_index_or rows unit [])) → P past row
    → (unit : ℕ) → unit < past + 1 → P unit (slice_index_or (set rows past row) unit [])
rows_more P rows past row within known here unit high =
    elim (cases_eq unit past) [
      | inl same ↦
          let Q : ℕ → Type 0 = λ u. P u (slice_index_or (set rows past row) u []) in
          let R : List (Option ℕ) → Type 0 = λ r. P past r in
          subst Q (sym same) (subst R (sym (get_or-set_same rows past row [] within)) here)
      | inr other ↦
          let R : List (Option ℕ) → Type 0 = λ r. P unit r in
          subst R (sym (get_or-set_other rows past unit row [] other)) (known unit (omega arith))
    ]

-- the same from the first unit on
pub rows_put : (P : ℕ → List (Option ℕ) → Type 0) (rows : List (List (Option ℕ))) (past : ℕ) (row : List (Option ℕ)) → past < length rows → ((unit : ℕ) → 1 ≤ unit → unit < past → P unit (slice_index_or rows unit [])) → P past row
    → (unit : ℕ) → 1 ≤ unit → unit < past + 1 → P unit (slice_index_or (set rows past row) unit [])
rows_put P rows past row within known here unit low high =
    rows_more (λ u r. 1 ≤ u → P u r) rows past row within (λ u less one. known u one less) (λ one. here) unit high low
