-- Where the units of a lawful construction stand at a part, and where the next part of each begins.
use Rattle.std.proofs.Common.{◌≡◌, ℕ, zero, suc, ◌+◌, ◌-◌, ◌<◌, ◌≤◌, ◌⊎◌, Bool, true, false, ◌&&◌, ◌||◌, not, List, [], ◌∷◌, ◌++◌, length, refl, ap, sym, subst, ◌∙◌, inl, inr, arith}
use Rattle.std.specs.Prelude.{filter, bytes_eq, nat_lt}
use Rattle.std.proofs.Math.ListN.{length-append}
use Rattle.std.specs.List.{range_with_len}
use Rattle.std.proofs.lemmas.Bool.{cases_Bool, cases_eq, cases_lt, or_cases, and_parts, eq-eqb, lt-ltb, ne_eqb}
use Rattle.std.proofs.lemmas.List.{append-nil}
use Rattle.std.proofs.lemmas.List.Elements.{filter-append}
use Rattle.fare_trip.specs.Itinerary.{Itinerary}
use Rattle.fare_tariff.specs.Tariff.{Tariff}
use Rattle.fare_rules.specs.declared.part.Part.{Part}
use Rattle.fare_rules.specs.Construction.{own, is_own, first_of, last_of, start_of, end_of, start_city, end_city, unit_of}
use Rattle.fare_rules.specs.Numbers.{numbers}
use Rattle.fare_rules.specs.Shape.{is_ow, holds_ow, is_jaw, is_chained, lie_together}
use Rattle.fare_rules.specs.Best.{IsLawful}
use Rattle.fare_rules.proofs.CoverLemmas.{same_end}
use Rattle.fare_rules.proofs.MemberLemmas.{Member}
use Rattle.fare_rules.proofs.NumberLemmas.{numbers_more}
use Rattle.fare_units.proofs.NextLemmas.{front_unit}
use Rattle.fare_legs.specs.Costs.{is_same_city}
use Rattle.fare_homing.specs.Homing.{may_go_on}
use Rattle.fare_floors.specs.Stack.{goes_on, has_more, own_from, own_to, stand_of}
use Rattle.fare_floors.proofs.CostLemmas.{unit_from_one}
use Rattle.fare_floors.proofs.GoesOnLemmas.{going_on, last_member}
use Rattle.fare_floors.proofs.JoiningLemmas.{joint, other_way}
use Rattle.fare_floors.proofs.OnwardLemmas.{closed_whole, either_left, either_right, ends_rise, last_append, must_close_from}
use Rattle.fare_floors.proofs.ShutLemmas.{filter_like, long_is_chained}
use Rattle.fare_floors.proofs.StackLemmas.{begins_at}
use Rattle.fare_floors.proofs.StackRowLemmas.{own_done, own_here, own_over}
use Rattle.fare_floors.proofs.SumLemmas.{kept_member, range_in_two}
use Rattle.fare_floors.proofs.UnitLemmas.{all, holds_none, member_kept, range_has, unit_in}

true_false : true ≡ false → ⊥
true_false e = cc

some_in : (xs : List ℕ) (k : ℕ) → Member k xs → 1 ≤ length xs
some_in [] k m = absurd m
some_in (x ∷ xs) k m = omega arith

-- the point behind a part; where there is none yet, the trip's first
abbrev pub point_behind : List Part → ℕ → ℕ
point_behind parts zero = 0
point_behind parts (suc k) = end_of parts (suc k)

module _ (parts : List Part) where
  -- the places of a unit up to the next one
  to_next : (k unit : ℕ) → own_to parts (k + 1) unit ≡ own_to parts k unit ++ filter (is_own parts unit) ((k + 1) ∷ [])
  to_next k unit = ap (filter (is_own parts unit)) (numbers_more 1 (k + 1) (omega arith)) ∙ filter-append (is_own parts unit) (numbers 1 (k + 1)) ((k + 1) ∷ [])

  -- a part of another unit does not move a unit
  pub stand_over : (k unit : ℕ) → (unit_of parts (k + 1) ≡ unit → ⊥) → stand_of parts (k + 1) unit ≡ stand_of parts k unit
  stand_over k unit other =
      let none : is_own parts unit (k + 1) ≡ false = ne_eqb (unit_of parts (k + 1)) unit other in
      let past : filter (is_own parts unit) ((k + 1) ∷ []) ≡ [] = rw none refl in
      ap (λ xs. end_of parts (last_of xs)) (to_next k unit ∙ ap (λ xs. own_to parts k unit ++ xs) past ∙ append-nil (own_to parts k unit))

  -- and brings it no part
  pub more_over : (k unit : ℕ) → (unit_of parts (k + 1) ≡ unit → ⊥) → has_more parts (k + 1) unit ≡ has_more parts k unit
  more_over k unit other =
      let none : is_own parts unit (k + 1) ≡ false = ne_eqb (unit_of parts (k + 1)) unit other in
      let past : filter (is_own parts unit) ((k + 1) ∷ []) ≡ [] = rw none refl in
      ap (λ xs. nat_lt 1 (length xs)) (to_next k unit ∙ ap (λ xs. own_to parts k unit ++ xs) past ∙ append-nil (own_to parts k unit))

  -- nor does it change what the unit has behind
  pub from_over : (k unit : ℕ) → (unit_of parts (k + 1) ≡ unit → ⊥) → own_from parts (k + 1) unit ≡ own_from parts k unit
  from_over k unit other =
      elim (cases_lt (k + 1) (length parts + 1)) [
        | inl less ↦ sym (own_over parts unit (k + 1) (length parts + 1) less other)
        | inr past ↦ own_done parts unit (k + 1 + 1) (length parts + 1) (omega arith) ∙ sym (own_done parts unit (k + 1) (length parts + 1) past)
      ]

  -- one of its own stands before those behind it
  pub from_here : (k : ℕ) → k + 1 ≤ length parts → own_from parts k (unit_of parts (k + 1)) ≡ (k + 1) ∷ own_from parts (k + 1) (unit_of parts (k + 1))
  from_here k high = own_here parts (unit_of parts (k + 1)) (k + 1) (length parts + 1) (omega arith) refl

  -- the places of a part's own unit up to it
  own_next : (k : ℕ) → own_to parts (k + 1) (unit_of parts (k + 1)) ≡ own_to parts k (unit_of parts (k + 1)) ++ (k + 1) ∷ []
  own_next k =
      let mine : is_own parts (unit_of parts (k + 1)) (k + 1) ≡ true = eq-eqb (unit_of parts (k + 1)) (unit_of parts (k + 1)) refl in
      let here : filter (is_own parts (unit_of parts (k + 1))) ((k + 1) ∷ []) ≡ (k + 1) ∷ [] = rw mine refl in
      to_next k (unit_of parts (k + 1)) ∙ ap (λ xs. own_to parts k (unit_of parts (k + 1)) ++ xs) here

  -- with a part behind another its unit has more than one, and with its first part it has not
  pub more_here : (k : ℕ) → 1 ≤ length (own_to parts k (unit_of parts (k + 1))) → has_more parts (k + 1) (unit_of parts (k + 1)) ≡ true
  more_here k some =
      let n : length (own_to parts (k + 1) (unit_of parts (k + 1))) ≡ length (own_to parts k (unit_of parts (k + 1))) + 1 = ap length (own_next k) ∙ length-append (own_to parts k (unit_of parts (k + 1))) ((k + 1) ∷ []) in
      lt-ltb 1 (length (own_to parts (k + 1) (unit_of parts (k + 1)))) (omega arith)

  pub one_here : (k : ℕ) → own_to parts k (unit_of parts (k + 1)) ≡ [] → has_more parts (k + 1) (unit_of parts (k + 1)) ≡ false
  one_here k none = ap (λ xs. nat_lt 1 (length xs)) (own_next k ∙ ap (λ xs. xs ++ (k + 1) ∷ []) none)

  -- one of its own brings it to where that ends
  pub stand_here : (k : ℕ) → stand_of parts (k + 1) (unit_of parts (k + 1)) ≡ end_of parts (k + 1)
  stand_here k =
      let mine : is_own parts (unit_of parts (k + 1)) (k + 1) ≡ true = eq-eqb (unit_of parts (k + 1)) (unit_of parts (k + 1)) refl in
      let here : filter (is_own parts (unit_of parts (k + 1))) ((k + 1) ∷ []) ≡ (k + 1) ∷ [] = rw mine refl in
      ap (end_of parts) (ap last_of (to_next k (unit_of parts (k + 1)) ∙ ap (λ xs. own_to parts k (unit_of parts (k + 1)) ++ xs) here) ∙ last_append (own_to parts k (unit_of parts (k + 1))) (k + 1) [])

  -- the places of a part's unit are those before it, the part's, and those behind it
  pub own_about : (k : ℕ) → k + 1 ≤ length parts
      → own parts (unit_of parts (k + 1)) ≡ own_to parts k (unit_of parts (k + 1)) ++ (k + 1) ∷ filter (is_own parts (unit_of parts (k + 1))) (numbers (k + 1 + 1) (length parts + 1))
  unfolding own
  own_about k high =
      let unit : ℕ = unit_of parts (k + 1) in
      let n : length parts + 1 - 1 ≡ (k + 1 - 1) + (length parts + 1 - (k + 1)) = omega arith in
      let m : 1 + (k + 1 - 1) ≡ k + 1 = omega arith in
      let two : numbers 1 (length parts + 1) ≡ numbers 1 (k + 1) ++ numbers (k + 1) (length parts + 1) =
      ap (range_with_len 1) n ∙ range_in_two 1 (k + 1 - 1) (length parts + 1 - (k + 1)) ∙ ap (λ a. numbers 1 (k + 1) ++ range_with_len a (length parts + 1 - (k + 1))) m in
      ap (filter (is_own parts unit)) two ∙ filter-append (is_own parts unit) (numbers 1 (k + 1)) (numbers (k + 1) (length parts + 1))
      ∙ ap (λ xs. own_to parts k unit ++ xs) (own_here parts unit (k + 1) (length parts + 1) (omega arith) refl)

-- up to the end of some first parts a unit has those that it has of them
pub more_front : (front rest : List Part) (unit : ℕ) → has_more (front ++ rest) (length front) unit ≡ nat_lt 1 (length (own front unit))
unfolding own
more_front front rest unit =
    ap (λ xs. nat_lt 1 (length xs)) (filter_like (is_own (front ++ rest) unit) (is_own front unit) 1 (length front + 1 - 1) (λ k low high. rw (front_unit front rest k low (omega arith)) refl))

-- behind some first parts a unit of these stands where its last one among them ended
pub stand_front : (front rest : List Part) (unit x : ℕ) (xs : List ℕ) → own front unit ≡ x ∷ xs → stand_of (front ++ rest) (length front) unit ≡ end_of front (last_of (own front unit))
unfolding own
stand_front front rest unit x xs e =
    let same : own_to (front ++ rest) (length front) unit ≡ own_to front (length front) unit = filter_like (is_own (front ++ rest) unit) (is_own front unit) 1 (length front + 1 - 1) (λ k low high. rw (front_unit front rest k low (omega arith)) refl) in
    let P : List ℕ → Type 0 = λ ys. Member (last_of ys) ys in
    let h = kept_member (is_own front unit) 1 (length front + 1 - 1) (last_of (own_to front (length front) unit)) (subst P (sym e) (last_member (x ∷ xs) (omega arith))) in
    let past : last_of (own_to front (length front) unit) < 1 + (length front + 1 - 1) = h.1 in
    ap (λ ys. end_of (front ++ rest) (last_of ys)) same ∙ same_end front rest (last_of (own_to front (length front) unit)) h.0 (omega arith)

-- of an open jaw the second part begins where the first ends; or it comes home, from a gap in one country
jaw_gap : (n l e m o p : Bool) → ((n && l && e) || (m && o && p)) ≡ true → (p ≡ true) ⊎ ((l ≡ true) × (e ≡ true))
jaw_gap n l e m o p h =
    elim (or_cases (n && l && e) (m && o && p) h) [
      | inl g ↦ let both = and_parts (n && l) e g in inr ((and_parts n l both.0).1, both.1)
      | inr g ↦ inl (and_parts (m && o) p g).1
    ]

module _ (tariff : Tariff) (trip : Itinerary) (parts : List Part) where
  -- a part of a unit begins where the one before it ended; or the unit comes home with it, from a gap in one country
  abbrev Joins : List ℕ → ℕ → List ℕ → Type 0
  Joins xs j more =
      (bytes_eq (start_city trip parts j) (end_city trip parts (last_of xs)) ≡ true)
      ⊎ ((lie_together tariff (end_city trip parts (last_of xs)) (start_city trip parts j) ≡ true) × (is_same_city trip (start_of trip parts (first_of (xs ++ j ∷ more))) (end_of parts j) ≡ true))

  joins_chained : (xs : List ℕ) (j : ℕ) (more : List ℕ) → 1 ≤ length xs → is_chained trip parts (xs ++ j ∷ more) ≡ true → bytes_eq (start_city trip parts j) (end_city trip parts (last_of xs)) ≡ true
  joins_chained [] j more some h = absurd (omega arith)
  joins_chained (x ∷ xs) j more some h = joint trip parts x xs j more h

  joins_jaw : (xs : List ℕ) (j : ℕ) (more : List ℕ) → 1 ≤ length xs → is_jaw tariff trip parts (xs ++ j ∷ more) ≡ true → Joins xs j more
  joins_jaw [] j more some h = absurd (omega arith)
  joins_jaw (x ∷ []) j [] some h =
      elim (jaw_gap (not (bytes_eq (end_city trip parts x) (start_city trip parts j))) (lie_together tariff (end_city trip parts x) (start_city trip parts j)) (bytes_eq (end_city trip parts j) (start_city trip parts x))
      (not (bytes_eq (end_city trip parts j) (start_city trip parts x))) (lie_together tariff (end_city trip parts j) (start_city trip parts x)) (bytes_eq (end_city trip parts x) (start_city trip parts j)) h) [
        | inl there ↦ inl (other_way (end_city trip parts x) (start_city trip parts j) there)
        | inr gap ↦ inr gap
      ]
  joins_jaw (x ∷ []) j (y ∷ more) some h = absurd (true_false (sym h))
  joins_jaw (x ∷ y ∷ []) j more some h = absurd (true_false (sym h))
  joins_jaw (x ∷ y ∷ z ∷ xs) j more some h = absurd (true_false (sym h))

module _ (tariff : Tariff) (trip : Itinerary) (parts : List Part) (price : ℕ) (lawful : IsLawful tariff trip parts price) where
  -- an earlier part ends no later
  pub ends_before : (j k : ℕ) → 1 ≤ j → j ≤ k → k ≤ length parts → end_of parts j ≤ point_behind parts k
  ends_before j zero low le within = absurd (omega arith)
  ends_before j (suc k) low le within =
      elim (cases_eq j (suc k)) [
        | inl same ↦ let P : ℕ → Type 0 = λ i. end_of parts i ≤ point_behind parts (suc k) in subst P (sym same) (omega arith)
        | inr other ↦ let rise : end_of parts j < end_of parts (suc k) = ends_rise trip parts (all tariff trip parts price lawful) j (suc k) low (omega arith) within in omega arith
      ]

  -- a unit that goes on has a place up to there
  pub some_to : (k unit j : ℕ) → 1 ≤ j → j ≤ k → unit_of parts j ≡ unit → 1 ≤ length (own_to parts k unit)
  some_to k unit j low le mine =
      some_in (own_to parts k unit) j (member_kept (is_own parts unit) (range_with_len 1 (k + 1 - 1)) j (range_has 1 (k + 1 - 1) j low (omega arith)) (eq-eqb (unit_of parts j) unit mine))

  -- so it stands no later than at the point behind it
  pub stand_low : (k unit : ℕ) → goes_on parts k unit ≡ true → stand_of parts k unit ≤ point_behind parts k
  stand_low k unit t =
      let g = going_on tariff trip parts price lawful k unit t in
      let past : k < last_of (own parts unit) = g.behind in
      let within : last_of (own parts unit) ≤ length parts = g.within in
      let h = kept_member (is_own parts unit) 1 (k + 1 - 1) (last_of (own_to parts k unit)) (last_member (own_to parts k unit) (some_to k unit (first_of (own parts unit)) g.from_one g.begun g.first_own)) in
      let high : last_of (own_to parts k unit) < 1 + (k + 1 - 1) = h.1 in
      ends_before (last_of (own_to parts k unit)) k h.0 (omega arith) (omega arith)

  -- a half round trip that is not the first of its unit
  module _ (k : ℕ) (high : k + 1 ≤ length parts) (way : is_ow tariff parts (k + 1) ≡ false) (j : ℕ) (low : 1 ≤ j) (before : j ≤ k) (mine : unit_of parts j ≡ unit_of parts (k + 1)) where
    abbrev behind : List ℕ
    behind = filter (is_own parts (unit_of parts (k + 1))) (numbers (k + 1 + 1) (length parts + 1))

    some : 1 ≤ length (own_to parts k (unit_of parts (k + 1)))
    some = some_to k (unit_of parts (k + 1)) j low before mine

    joined : Joins tariff trip parts (own_to parts k (unit_of parts (k + 1))) (k + 1) behind
    joined =
        let about : own parts (unit_of parts (k + 1)) ≡ own_to parts k (unit_of parts (k + 1)) ++ (k + 1) ∷ behind = own_about parts k high in
        let P : List ℕ → Type 0 = λ xs. is_jaw tariff trip parts xs ≡ true in
        let Q : List ℕ → Type 0 = λ xs. is_chained trip parts xs ≡ true in
        elim (cases_Bool (is_jaw tariff trip parts (own parts (unit_of parts (k + 1))))) [
          | inl t ↦ joins_jaw tariff trip parts (own_to parts k (unit_of parts (k + 1))) (k + 1) behind some (subst P about t)
          | inr f ↦
              let none : holds_ow tariff parts (own parts (unit_of parts (k + 1))) ≡ false = holds_none tariff trip parts price lawful (k + 1) (omega arith) high way in
              let close = closed_whole tariff trip [] parts price lawful (unit_of parts (k + 1)) (unit_from_one tariff trip parts price lawful (k + 1) (omega arith) high) (unit_in tariff trip parts price lawful (k + 1) (omega arith) high)
              (own parts (unit_of parts (k + 1))) refl (must_close_from tariff trip parts (own parts (unit_of parts (k + 1))) none f) in
              inl (joins_chained tariff trip parts (own_to parts k (unit_of parts (k + 1))) (k + 1) behind some (subst Q about close.0))
        ]

    -- begins in the city where the unit stands, or behind a gap in one country
    pub begins_near : may_go_on tariff trip (stand_of parts k (unit_of parts (k + 1))) (start_of trip parts (k + 1)) ≡ true
    begins_near =
        let stands : ℕ = last_of (own_to parts k (unit_of parts (k + 1))) in
        let same : Bool = bytes_eq (end_city trip parts stands) (start_city trip parts (k + 1)) in
        let near : Bool = lie_together tariff (end_city trip parts stands) (start_city trip parts (k + 1)) in
        elim joined [
          | inl there ↦ either_left same near (other_way (start_city trip parts (k + 1)) (end_city trip parts stands) there)
          | inr gap ↦ either_right same near gap.0
        ]

    -- in that city where the unit does not come home with it
    pub begins_there : is_same_city trip (begins_at trip parts (unit_of parts (k + 1))) (end_of parts (k + 1)) ≡ false → is_same_city trip (stand_of parts k (unit_of parts (k + 1))) (start_of trip parts (k + 1)) ≡ true
    begins_there apart =
        let P : List ℕ → Type 0 = λ xs. is_same_city trip (start_of trip parts (first_of xs)) (end_of parts (k + 1)) ≡ true in
        elim joined [
          | inl there ↦ there
          | inr gap ↦ absurd (true_false (sym (subst P (sym (own_about parts k high)) gap.1) ∙ apart))
        ]

    -- and where the unit has three parts or more
    pub begins_between : 3 ≤ length (own parts (unit_of parts (k + 1))) → is_same_city trip (stand_of parts k (unit_of parts (k + 1))) (start_of trip parts (k + 1)) ≡ true
    begins_between long =
        let P : List ℕ → Type 0 = λ xs. is_chained trip parts xs ≡ true in
        joins_chained tariff trip parts (own_to parts k (unit_of parts (k + 1))) (k + 1) behind some
        (subst P (own_about parts k high) (long_is_chained tariff trip parts price (unit_of parts (k + 1)) lawful (unit_from_one tariff trip parts price lawful (k + 1) (omega arith) high) (unit_in tariff trip parts price lawful (k + 1) (omega arith) high) long))
