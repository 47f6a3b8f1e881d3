-- What is behind the first parts of a lawful construction, over one unit more of these.
use Rattle.std.proofs.Common.{◌≡◌, ℕ, suc, ◌+◌, ◌-◌, ◌<◌, ◌≤◌, Bool, true, false, ◌&&◌, cond, leb, not, List, [], ◌∷◌, ◌++◌, length, refl, ap, sym, subst, ◌∙◌, inl, inr, arith}
use Rattle.std.specs.Prelude.{IfSome, Option, Some, None, bytes_eq, nat_lt, nat_le, option_map, sum_by}
use Rattle.std.specs.List.{range_with_len}
use Rattle.std.proofs.Math.ListN.{length-append}
use Rattle.std.proofs.lemmas.Bool.{cases_Bool, or_cases, not-true, lt-ltb, le-leb, ltb-true, leb-true, eqb-true, cases_lt}
use Rattle.std.proofs.lemmas.List.{append-nil}
use Rattle.std.proofs.lemmas.Option.{same_Some}
use Rattle.fare_trip.specs.Itinerary.{Itinerary, count}
use Rattle.fare_tariff.specs.Tariff.{Tariff}
use Rattle.fare_rules.specs.declared.part.Part.{Part}
use Rattle.fare_rules.specs.Construction.{places, own, is_own, first_of, last_of, greatest_unit, start_of, end_of, start_city, end_city, unit_of}
use Rattle.fare_rules.specs.Shape.{lie_together}
use Rattle.fare_rules.specs.Best.{IsLawful}
use Rattle.fare_rules.specs.Completion.{IsCompletion}
use Rattle.fare_rules.specs.UnitPrice.{unit_price}
use Rattle.fare_rules.proofs.CoverLemmas.{same_end}
use Rattle.fare_rules.proofs.LawfulLemmas.{kept}
use Rattle.fare_rules.proofs.MemberLemmas.{Member}
use Rattle.fare_component.specs.Table.{Pricing}
use Rattle.fare_units.specs.Onward.{is_shut_unit}
use Rattle.fare_units.proofs.NextLemmas.{front_start, front_unit, greatest_same}
use Rattle.fare_bounds.specs.Covers.{rest_at}
use Rattle.fare_homing.specs.declared.homing.Homing.{Homing}
use Rattle.fare_floors.specs.declared.stacking.Open.{Open}
use Rattle.fare_floors.specs.Costs.{part_least, true_cost, units_floor}
use Rattle.fare_legs.specs.Floor.{capped_sum}
use Rattle.fare_legs.specs.declared.ceiling.Ceiling.{Ceiling}
use Rattle.fare_legs.specs.Ceiling.{IsWithin}
use Rattle.fare_legs.specs.Costs.{IsUpTo}
use Rattle.fare_homing.specs.Homing.{closing_by, homing_at}
use Rattle.fare_floors.specs.Ending.{needs_more}
use Rattle.fare_floors.specs.Floors.{IsFloorAnswer}
use Rattle.fare_floors.specs.Joining.{is_blocked, is_stuck, may_join}
use Rattle.fare_floors.proofs.JoiningLemmas.{joined}
use Rattle.fare_homing.specs.Rows.{begun_from, cell, closing_from, jaw_from, AreHomingsOf}
use Rattle.fare_floors.specs.Stack.{goes_on, stand_of, AreOver, may_come_to, IsUnderSum, IsOverOpen, AreOverOpen, IsOpenUnit}
use Rattle.fare_floors.proofs.CostLemmas.{unit_from_one, member_place}
use Rattle.fare_floors.proofs.CrossingLemmas.{not_crossed, begun_by, began_before}
use Rattle.fare_floors.proofs.UnitLemmas.{all, unit_in, own_has}
use Rattle.fare_floors.proofs.FloorLemmas.{front_least}
use Rattle.fare_floors.proofs.OnwardLemmas.{EndsNear, ends_near, ends_rise, goes_behind, last_append, either_left, either_right}
use Rattle.fare_floors.specs.Barring.{left_of}
use Rattle.fare_floors.proofs.BarringLemmas.{left_is_behind}
use Rattle.fare_floors.proofs.OverLemmas.{behind_is_over}
use Rattle.fare_legs.proofs.ReachLemmas.{up_more}
use Rattle.fare_floors.proofs.SameLemmas.{AreFirst}
use Rattle.fare_floors.proofs.ShutLemmas.{own_behind, own_in_two, own_are_first, shut_alone, both_true, floor_by}
use Rattle.fare_floors.proofs.StandLemmas.{more_front, stand_front}
use Rattle.fare_floors.proofs.SumLemmas.{kept_member, sum_up, sum_up_members}
use Rattle.fare_floors.proofs.TrueCostLemmas.{true_least, true_up}

true_false : true ≡ false → ⊥
true_false e = cc

none_some : (n : ℕ) → None ≡ Some n → ⊥
none_some n e = cc

last_one : (k : ℕ) (more : List ℕ) → Member (last_of (k ∷ more)) (k ∷ more)
last_one k [] = inl refl
last_one k (y ∷ ys) = inr (last_one y ys)

not_below : (a b : ℕ) → b ≤ a → nat_lt a b ≡ false
not_below a b h = elim (cases_Bool (nat_lt a b)) [ inl t ↦ (let less : a < b = ltb-true a b t in absurd (omega arith)) | inr f ↦ f ]

own_unit : (parts : List Part) (unit j : ℕ) → Member j (own parts unit) → unit_of parts j ≡ unit
unfolding own
own_unit parts unit j m = eqb-true (unit_of parts j) unit (kept_member (is_own parts unit) 1 (length parts + 1 - 1) j m).2

and_false : (a b : Bool) → b ≡ false → (a && b) ≡ false
and_false true b e = e
and_false false b e = refl

module _ (tariff : Tariff) (trip : Itinerary) (front rest : List Part) (price : ℕ) (lawful : IsLawful tariff trip (front ++ rest) price) where
  -- one of the first parts is of the unit
  begun : (unit : ℕ) → 1 ≤ unit → unit ≤ greatest_unit front (places front) → (a : ℕ) × (1 ≤ a) × (a ≤ length front) × (unit_of (front ++ rest) a ≡ unit)
  begun unit low high =
      let n : length (front ++ rest) ≡ length front + length rest = length-append front rest in
      let same : greatest_unit (front ++ rest) (range_with_len 1 (length front + 1 - 1)) ≡ greatest_unit front (range_with_len 1 (length front + 1 - 1)) = greatest_same (front ++ rest) front 1 (length front + 1 - 1) (λ k first past. front_unit front rest k first (omega arith)) in
      let found = begun_by (front ++ rest) (kept tariff trip (front ++ rest) price lawful).numbering (length front + 1 - 1) unit (omega arith) low (omega arith) in
      let most : found.0 ≤ length front + 1 - 1 = found.2 in
      (found.0, found.1, omega arith, found.3)

  pub in_all : (unit : ℕ) → 1 ≤ unit → unit ≤ greatest_unit front (places front) → unit ≤ greatest_unit (front ++ rest) (places (front ++ rest))
  in_all unit low high =
      let n : length (front ++ rest) ≡ length front + length rest = length-append front rest in
      let a = begun unit low high in
      let within : a.0 ≤ length front = a.2 in
      let P : ℕ → Type 0 = λ u. u ≤ greatest_unit (front ++ rest) (places (front ++ rest)) in
      subst P a.3 (unit_in tariff trip (front ++ rest) price lawful a.0 a.1 (omega arith))

  behind_place : (unit j : ℕ) → Member j (own_behind tariff trip front rest unit) → (length front < j) × (j ≤ length (front ++ rest)) × (unit_of (front ++ rest) j ≡ unit)
  behind_place unit j m =
      let n : length (front ++ rest) ≡ length front + length rest = length-append front rest in
      let h = kept_member (is_own (front ++ rest) unit) (length front + 1) (length rest) j m in
      let first : length front + 1 ≤ j = h.0 in
      let past : j < length front + 1 + length rest = h.1 in
      (omega arith, omega arith, eqb-true (unit_of (front ++ rest) j) unit h.2)

  module _ (unit : ℕ) (low : 1 ≤ unit) (high : unit ≤ greatest_unit front (places front)) where
    pub has_first_in : (ys : List ℕ) → own front unit ≡ ys → (x : ℕ) × (xs : List ℕ) × (own front unit ≡ x ∷ xs)
    has_first_in [] e =
        let n : length (front ++ rest) ≡ length front + length rest = length-append front rest in
        let a = begun unit low high in
        let within : a.0 ≤ length front = a.2 in
        let P : ℕ → Type 0 = λ u. Member a.0 (own (front ++ rest) u) in
        let here : Member a.0 (own (front ++ rest) unit) = subst P a.3 (own_has tariff trip (front ++ rest) price lawful a.0 a.1 (omega arith)) in
        let two : own (front ++ rest) unit ≡ own_behind tariff trip front rest unit = own_in_two tariff trip front rest unit ∙ ap (λ xs. xs ++ own_behind tariff trip front rest unit) e in
        let Q : List ℕ → Type 0 = λ xs. Member a.0 xs in
        let place = behind_place unit a.0 (subst Q two here) in
        let past : length front < a.0 = place.0 in
        absurd (omega arith)
    has_first_in (x ∷ xs) e = (x, xs, e)

    module _ (x : ℕ) (xs : List ℕ) (e : own front unit ≡ x ∷ xs) where
      pub firsts : AreFirst tariff trip front rest (x ∷ xs)
      firsts = let P : List ℕ → Type 0 = λ ys. AreFirst tariff trip front rest ys in subst P e (own_are_first tariff trip front rest unit)

      in_two : own (front ++ rest) unit ≡ (x ∷ xs) ++ own_behind tariff trip front rest unit
      in_two = let Q : List ℕ → Type 0 = λ ys. own (front ++ rest) unit ≡ ys ++ own_behind tariff trip front rest unit in subst Q e (own_in_two tariff trip front rest unit)

      pub first_is : first_of (own (front ++ rest) unit) ≡ x
      first_is = ap first_of in_two

      -- where no part is behind, the unit doesn't go on
      pub stays : own_behind tariff trip front rest unit ≡ [] → goes_on (front ++ rest) (length front) unit ≡ false
      stays none =
          let whole : own (front ++ rest) unit ≡ x ∷ xs = in_two ∙ ap (λ ys. (x ∷ xs) ++ ys) none ∙ append-nil (x ∷ xs) in
          let last : last_of (own (front ++ rest) unit) ≡ last_of (x ∷ xs) = ap last_of whole in
          let place = firsts (last_of (x ∷ xs)) (last_one x xs) in
          let within : last_of (x ∷ xs) ≤ length front = place.1 in
          and_false (nat_le (first_of (own (front ++ rest) unit)) (length front)) (nat_lt (length front) (last_of (own (front ++ rest) unit))) (not_below (length front) (last_of (own (front ++ rest) unit)) (omega arith))

      module _ (k : ℕ) (more : List ℕ) (some : own_behind tariff trip front rest unit ≡ k ∷ more) where
        whole_is : own (front ++ rest) unit ≡ (x ∷ xs) ++ k ∷ more
        whole_is = in_two ∙ ap (λ ys. (x ∷ xs) ++ ys) some

        pub last_is : last_of (own (front ++ rest) unit) ≡ last_of (k ∷ more)
        last_is = ap last_of whole_is ∙ last_append (x ∷ xs) k more

        last_place : (length front < last_of (k ∷ more)) × (last_of (k ∷ more) ≤ length (front ++ rest)) × (unit_of (front ++ rest) (last_of (k ∷ more)) ≡ unit)
        last_place = let P : List ℕ → Type 0 = λ ys. Member (last_of (k ∷ more)) ys in behind_place unit (last_of (k ∷ more)) (subst P (sym some) (last_one k more))

        -- else it does
        pub goes : goes_on (front ++ rest) (length front) unit ≡ true
        goes =
            let first : first_of (own (front ++ rest) unit) ≡ x = first_is in
            let last : last_of (own (front ++ rest) unit) ≡ last_of (k ∷ more) = last_is in
            let place = firsts x (inl refl) in
            let within : x ≤ length front = place.1 in
            let past : length front < last_of (k ∷ more) = last_place.0 in
            both_true (nat_le (first_of (own (front ++ rest) unit)) (length front)) (nat_lt (length front) (last_of (own (front ++ rest) unit))) (le-leb (first_of (own (front ++ rest) unit)) (length front) (omega arith))
            (lt-ltb (length front) (last_of (own (front ++ rest) unit)) (omega arith))

        -- it isn't shut
        pub not_shut : is_shut_unit tariff trip front unit ≡ true → ⊥
        not_shut shut =
            let none : own_behind tariff trip front rest unit ≡ [] = shut_alone tariff trip front rest price lawful unit low (in_all unit low high) (own front unit) (own_behind tariff trip front rest unit) (own_are_first tariff trip front rest unit) (own_in_two tariff trip front rest unit) shut in
            let empty : k ∷ more ≡ [] = sym some ∙ none in
            let n : suc (length more) ≡ 0 = ap length empty in
            absurd (omega arith)

        -- nor does it cross the unit of the last of the first parts
        not_blocked : is_blocked front unit ≡ true → ⊥
        not_blocked blocked =
            let less : unit_of front (length front) < unit = ltb-true (unit_of front (length front)) unit blocked in
            let n : length (front ++ rest) ≡ length front + length rest = length-append front rest in
            let place = firsts x (inl refl) in
            let one : 1 ≤ x = place.0 in
            let within : x ≤ length front = place.1 in
            let P : List ℕ → Type 0 = λ ys. Member x ys in
            let mine : unit_of front x ≡ unit = own_unit front unit x (subst P (sym e) (inl refl)) in
            let same : unit_of (front ++ rest) x ≡ unit_of front x = front_unit front rest x one within in
            let end : unit_of (front ++ rest) (length front) ≡ unit_of front (length front) = front_unit front rest (length front) (omega arith) (omega arith) in
            let some_unit : 1 ≤ unit_of (front ++ rest) (length front) = unit_from_one tariff trip (front ++ rest) price lawful (length front) (omega arith) (omega arith) in
            let other : x ≡ length front → ⊥ = λ s. let same_unit : unit_of front x ≡ unit_of front (length front) = ap (unit_of front) s in omega arith in
            let found = began_before (front ++ rest) (kept tariff trip (front ++ rest) price lawful).numbering x (unit_of (front ++ rest) (length front)) one (omega arith) some_unit (omega arith) in
            let crossing : unit_of (front ++ rest) (length front) ≡ unit_of (front ++ rest) x = not_crossed (front ++ rest) (kept tariff trip (front ++ rest) price lawful).crossing found.0 x (length front) (last_of (k ∷ more)) found.1 found.2 (omega arith) last_place.0 last_place.1 (sym found.3) (last_place.2 ∙ sym (same ∙ mine)) in
            omega arith

        -- and a part may join it
        pub not_stuck : is_stuck trip front unit ≡ true → ⊥
        not_stuck stuck =
            let P : List ℕ → Type 0 = λ ys. Member k ys in
            let place = behind_place unit k (subst P (sym some) (inl refl)) in
            let Q : List ℕ → Type 0 = λ ys. may_join trip front ys ≡ true in
            let may : may_join trip front (own front unit) ≡ true = subst Q (sym e) (joined tariff trip front rest price lawful unit low (in_all unit low high) x xs k more firsts whole_is place.0 place.1) in
            elim (or_cases (is_blocked front unit) (not (may_join trip front (own front unit))) stuck) [
              | inl blocked ↦ not_blocked blocked
              | inr none ↦ true_false (sym may ∙ not-true (may_join trip front (own front unit)) none)
            ]

        -- and comes home where it may
        pub home_may : may_come_to tariff trip (start_of trip front x) (nat_lt 1 (length (x ∷ xs))) (end_of (front ++ rest) (last_of (k ∷ more))) ≡ true
        home_may = may_by (nat_lt 1 (length (x ∷ xs))) refl (ends_near tariff trip front rest price lawful unit low (in_all unit low high) x xs k more firsts whole_is)
          where
            may_by : (closes : Bool) → nat_lt 1 (length (x ∷ xs)) ≡ closes → EndsNear tariff trip front rest price lawful unit low (in_all unit low high) x xs (last_of (k ∷ more))
                → may_come_to tariff trip (start_of trip front x) closes (end_of (front ++ rest) (last_of (k ∷ more))) ≡ true
            may_by true c (inl city) = city
            may_by true c (inr country) =
                let two : 1 < length (x ∷ xs) = ltb-true 1 (length (x ∷ xs)) c in
                let one : length (x ∷ xs) < 2 = country.0 in
                absurd (omega arith)
            may_by false c (inl city) = either_left (bytes_eq (end_city trip (front ++ rest) (last_of (k ∷ more))) (start_city trip front x)) (lie_together tariff (end_city trip (front ++ rest) (last_of (k ∷ more))) (start_city trip front x)) city
            may_by false c (inr country) = either_right (bytes_eq (end_city trip (front ++ rest) (last_of (k ∷ more))) (start_city trip front x)) (lie_together tariff (end_city trip (front ++ rest) (last_of (k ∷ more))) (start_city trip front x)) country.1

        pub home_within : (end_of front (length front) ≤ end_of (front ++ rest) (last_of (k ∷ more))) × (end_of (front ++ rest) (last_of (k ∷ more)) ≤ count trip)
        home_within =
            let n : length (front ++ rest) ≡ length front + length rest = length-append front rest in
            let place = firsts x (inl refl) in
            let one : 1 ≤ x = place.0 in
            let within : x ≤ length front = place.1 in
            let past : length front < last_of (k ∷ more) = last_place.0 in
            let rise : end_of (front ++ rest) (length front) < end_of (front ++ rest) (last_of (k ∷ more)) = ends_rise trip (front ++ rest) (all tariff trip (front ++ rest) price lawful) (length front) (last_of (k ∷ more)) (omega arith) last_place.0 last_place.1 in
            let same : end_of (front ++ rest) (length front) ≡ end_of front (length front) = same_end front rest (length front) (omega arith) (omega arith) in
            (omega arith, (all tariff trip (front ++ rest) price lawful).within (last_of (k ∷ more)) (omega arith) last_place.1)

module _ (table : Pricing) (homing : Homing) (front : List Part) (u : ℕ) (high : suc u ≤ greatest_unit front (places front)) (behind : List (Option ℕ)) (known : AreOver table homing front u behind) where
  -- no part comes to the unit behind the first parts
  abbrev NeverGoes : Type 0
  NeverGoes = (rest : List Part) (price : ℕ) (lawful : IsLawful table.edition table.trip (front ++ rest) price) (x : ℕ) (xs : List ℕ) → own front (suc u) ≡ x ∷ xs → (k : ℕ) (more : List ℕ) → own_behind table.edition table.trip front rest (suc u) ≡ k ∷ more → ⊥

  stays_by : NeverGoes → AreOver table homing front (suc u) behind
  stays_by never rest price i cost lawful cheap low most over = by_behind (own_behind table.edition table.trip front rest (suc u)) refl
    where
      unit_has : (x : ℕ) × (xs : List ℕ) × (own front (suc u) ≡ x ∷ xs)
      unit_has = has_first_in table.edition table.trip front rest price lawful (suc u) (omega arith) high (own front (suc u)) refl

      by_behind : (ys : List ℕ) → own_behind table.edition table.trip front rest (suc u) ≡ ys → IsUpTo cost (rest_at behind i)
      by_behind [] none = known rest price i cost lawful cheap low most (over.1 (stays table.edition table.trip front rest price lawful (suc u) (omega arith) high unit_has.0 unit_has.1 unit_has.2 none))
      by_behind (k ∷ more) some = absurd (never rest price lawful unit_has.0 unit_has.1 unit_has.2 k more some)

  over_shut : is_shut_unit table.edition table.trip front (suc u) ≡ true → AreOver table homing front (suc u) behind
  over_shut shut = stays_by (λ rest price lawful x xs e k more some. not_shut table.edition table.trip front rest price lawful (suc u) (omega arith) high x xs e k more some shut)

  over_stuck : is_stuck table.trip front (suc u) ≡ true → AreOver table homing front (suc u) behind
  over_stuck stuck = stays_by (λ rest price lawful x xs e k more some. not_stuck table.edition table.trip front rest price lawful (suc u) (omega arith) high x xs e k more some stuck)

  -- some part comes to the unit, which must have more
  pub goes_by : (rest : List Part) (price : ℕ) (lawful : IsLawful table.edition table.trip (front ++ rest) price) (x : ℕ) (xs : List ℕ) → own front (suc u) ≡ x ∷ xs → needs_more table.edition table.trip front (own front (suc u)) ≡ true
      → (k : ℕ) × (more : List ℕ) × (own_behind table.edition table.trip front rest (suc u) ≡ k ∷ more)
  goes_by rest price lawful x xs e must =
      let P : List ℕ → Type 0 = λ ys. needs_more table.edition table.trip front ys ≡ true in
      goes_behind table.edition table.trip front rest price lawful (suc u) (omega arith) (in_all table.edition table.trip front rest price lawful (suc u) (omega arith) high) x xs (own_behind table.edition table.trip front rest (suc u))
      (firsts table.edition table.trip front rest price lawful (suc u) (omega arith) high x xs e) (in_two table.edition table.trip front rest price lawful (suc u) (omega arith) high x xs e) (subst P e must)

  over_none : (row : List (Option ℕ)) → is_stuck table.trip front (suc u) ≡ true → needs_more table.edition table.trip front (own front (suc u)) ≡ true → AreOver table homing front (suc u) row
  over_none row stuck must rest price i cost lawful cheap low most over =
      let unit_has = has_first_in table.edition table.trip front rest price lawful (suc u) (omega arith) high (own front (suc u)) refl in
      let goes_on_by = goes_by rest price lawful unit_has.0 unit_has.1 unit_has.2 must in
      absurd (not_stuck table.edition table.trip front rest price lawful (suc u) (omega arith) high unit_has.0 unit_has.1 unit_has.2 goes_on_by.0 goes_on_by.1 goes_on_by.2 stuck)

  module _ (opened : Open) (is : IsOpenUnit table front (suc u) opened) (row : List (Option ℕ)) (over_row : AreOverOpen table homing (end_of front (length front)) opened behind row) where
    homes : List (Option ℕ)
    homes = over_row.0

    over_open : AreOver table homing front (suc u) row
    over_open rest price i cost lawful cheap low most over = by_behind (own_behind table.edition table.trip front rest (suc u)) refl
      where
        unit_has : (x : ℕ) × (xs : List ℕ) × (own front (suc u) ≡ x ∷ xs)
        unit_has = has_first_in table.edition table.trip front rest price lawful (suc u) (omega arith) high (own front (suc u)) refl

        x : ℕ
        x = unit_has.0

        xs : List ℕ
        xs = unit_has.1

        e : own front (suc u) ≡ x ∷ xs
        e = unit_has.2

        here : IsOverOpen table.trip homing (end_of front (length front)) opened.closes opened.stands opened.start opened.must i over_row.0 (rest_at behind i) (rest_at row i)
        here = over_row.2 i low most

        begins : start_of table.trip (front ++ rest) (first_of (own (front ++ rest) (suc u))) ≡ opened.start
        begins =
            let place = firsts table.edition table.trip front rest price lawful (suc u) (omega arith) high x xs e x (inl refl) in
            ap (start_of table.trip (front ++ rest)) (first_is table.edition table.trip front rest price lawful (suc u) (omega arith) high x xs e)
            ∙ front_start table.trip front rest x place.0 place.1
            ∙ ap (λ ys. start_of table.trip front (first_of ys)) (sym e)
            ∙ sym is.start

        stands : stand_of (front ++ rest) (length front) (suc u) ≡ opened.stands
        stands = stand_front front rest (suc u) x xs e ∙ sym is.stands

        by_must : own_behind table.edition table.trip front rest (suc u) ≡ [] → opened.must ≡ true → ⊥
        by_must none must =
            let goes_on_by = goes_by rest price lawful x xs e (sym is.must ∙ must) in
            let empty : goes_on_by.0 ∷ goes_on_by.1 ≡ [] = sym goes_on_by.2 ∙ none in
            let n : suc (length goes_on_by.1) ≡ 0 = ap length empty in
            absurd (omega arith)

        by_behind : (ys : List ℕ) → own_behind table.edition table.trip front rest (suc u) ≡ ys → IsUpTo cost (rest_at row i)
        by_behind [] none =
            let up : IsUpTo cost (rest_at behind i) = known rest price i cost lawful cheap low most (over.1 (stays table.edition table.trip front rest price lawful (suc u) (omega arith) high x xs e none)) in
            elim (cases_Bool opened.must) [
              | inl t ↦ absurd (by_must none t)
              | inr f ↦ here.whole f cost up
            ]
        by_behind (k ∷ more) some =
            let home : ℕ = end_of (front ++ rest) (last_of (own (front ++ rest) (suc u))) in
            let last : last_of (own (front ++ rest) (suc u)) ≡ last_of (k ∷ more) = last_is table.edition table.trip front rest price lawful (suc u) (omega arith) high x xs e k more some in
            let within = home_within table.edition table.trip front rest price lawful (suc u) (omega arith) high x xs e k more some in
            let P : ℕ → Type 0 = λ j. (end_of front (length front) ≤ end_of (front ++ rest) j) × (end_of (front ++ rest) j ≤ count table.trip) in
            let within_home = subst P (sym last) within in
            let Q : ℕ → Type 0 = λ j. may_come_to table.edition table.trip (start_of table.trip front x) (nat_lt 1 (length (x ∷ xs))) (end_of (front ++ rest) j) ≡ true in
            let may = subst Q (sym last) (home_may table.edition table.trip front rest price lawful (suc u) (omega arith) high x xs e k more some) in
            let R : List ℕ → Type 0 = λ ys. may_come_to table.edition table.trip (start_of table.trip front (first_of ys)) (nat_lt 1 (length ys)) (end_of (front ++ rest) (last_of (own (front ++ rest) (suc u)))) ≡ true in
            let may_own = subst R (sym e) may in
            let S : ℕ → Type 0 = λ a. may_come_to table.edition table.trip a (nat_lt 1 (length (own front (suc u)))) (end_of (front ++ rest) (last_of (own (front ++ rest) (suc u)))) ≡ true in
            let T : Bool → Type 0 = λ b. may_come_to table.edition table.trip opened.start b (end_of (front ++ rest) (last_of (own (front ++ rest) (suc u)))) ≡ true in
            let may_here = subst T (sym is.closes) (subst S (sym is.start) may_own) in
            let c = over.0 (goes table.edition table.trip front rest price lawful (suc u) (omega arith) high x xs e k more some) in
            let sum : c.0 + c.1 ≤ cost = c.2 in
            let Closing : Bool → ℕ → ℕ → ℕ → Option ℕ = λ more s. closing_by more (begun_from homing) (closing_from homing) s in
            let W : Bool → Type 0 = λ more. IsUpTo c.0 (homing_at table.trip (Closing more (stand_of (front ++ rest) (length front) (suc u))) (jaw_from homing (stand_of (front ++ rest) (length front) (suc u))) (start_of table.trip (front ++ rest) (first_of (own (front ++ rest) (suc u)))) i (end_of (front ++ rest) (last_of (own (front ++ rest) (suc u))))) in
            let V : ℕ → Type 0 = λ s. IsUpTo c.0 (homing_at table.trip (Closing opened.closes s) (jaw_from homing s) (start_of table.trip (front ++ rest) (first_of (own (front ++ rest) (suc u)))) i (end_of (front ++ rest) (last_of (own (front ++ rest) (suc u))))) in
            let U : ℕ → Type 0 = λ a. IsUpTo c.0 (homing_at table.trip (Closing opened.closes opened.stands) (jaw_from homing opened.stands) a i (end_of (front ++ rest) (last_of (own (front ++ rest) (suc u))))) in
            let until = subst U begins (subst V stands (subst W (more_front front rest (suc u) ∙ sym is.closes) c.3)) in
            let then = known rest price (end_of (front ++ rest) (last_of (own (front ++ rest) (suc u)))) c.1 lawful cheap within_home.0 within_home.1 c.4 in
            let there : rest_at over_row.0 (end_of (front ++ rest) (last_of (own (front ++ rest) (suc u)))) ≡ rest_at behind (end_of (front ++ rest) (last_of (own (front ++ rest) (suc u)))) = over_row.1 (end_of (front ++ rest) (last_of (own (front ++ rest) (suc u)))) within_home.0 within_home.1 may_here in
            let least = here.home (end_of (front ++ rest) (last_of (own (front ++ rest) (suc u)))) within_home.0 within_home.1 until.0 then.0 until.1 (there ∙ then.1) in
            let a : until.0 ≤ c.0 = until.2 in
            let b : then.0 ≤ c.1 = then.2 in
            up_more (until.0 + then.0) cost (rest_at row i) (omega arith) least

-- the same by the number of the unit
module _ (table : Pricing) (homing : Homing) (front : List Part) (unit : ℕ) (low : 1 ≤ unit) (high : unit ≤ greatest_unit front (places front)) (behind : List (Option ℕ)) (known : AreOver table homing front (unit - 1) behind) where
  next_unit : suc (unit - 1) ≡ unit
  next_unit = omega arith

  pub over_shut_unit : is_shut_unit table.edition table.trip front unit ≡ true → AreOver table homing front unit behind
  over_shut_unit shut =
      let P : ℕ → Type 0 = λ v. AreOver table homing front v behind in
      let Q : ℕ → Type 0 = λ v. is_shut_unit table.edition table.trip front v ≡ true in
      subst P next_unit (over_shut table homing front (unit - 1) (omega arith) behind known (subst Q (sym next_unit) shut))

  pub over_stuck_unit : is_stuck table.trip front unit ≡ true → AreOver table homing front unit behind
  over_stuck_unit stuck =
      let P : ℕ → Type 0 = λ v. AreOver table homing front v behind in
      let Q : ℕ → Type 0 = λ v. is_stuck table.trip front v ≡ true in
      subst P next_unit (over_stuck table homing front (unit - 1) (omega arith) behind known (subst Q (sym next_unit) stuck))

  pub over_no_unit : (row : List (Option ℕ)) (opened : Open) → IsOpenUnit table front unit opened → is_stuck table.trip front unit ≡ true → opened.must ≡ true → AreOver table homing front unit row
  over_no_unit row opened is stuck must =
      let P : ℕ → Type 0 = λ v. AreOver table homing front v row in
      let Q : ℕ → Type 0 = λ v. is_stuck table.trip front v ≡ true in
      let R : ℕ → Type 0 = λ v. needs_more table.edition table.trip front (own front v) ≡ true in
      subst P next_unit (over_none table homing front (unit - 1) (omega arith) behind known row (subst Q (sym next_unit) stuck) (subst R (sym next_unit) (sym is.must ∙ must)))

  pub over_open_unit : (opened : Open) → IsOpenUnit table front unit opened → (row : List (Option ℕ)) → AreOverOpen table homing (end_of front (length front)) opened behind row → AreOver table homing front unit row
  over_open_unit opened is row over_row =
      let P : ℕ → Type 0 = λ v. AreOver table homing front v row in
      let Q : ℕ → Type 0 = λ v. IsOpenUnit table front v opened in
      subst P next_unit (over_open table homing front (unit - 1) (omega arith) behind known opened (subst Q (sym next_unit) is) row over_row)

-- what a part costs: one of the first parts at least, and one behind them truly
abbrev cost_of_part : Tariff → Itinerary → List Part → List Part → ℕ → ℕ
cost_of_part tariff trip front rest k = cond (leb k (length front)) (part_least tariff trip (front ++ rest) k) (true_cost tariff trip (front ++ rest) k)

module _ (tariff : Tariff) (trip : Itinerary) (front rest : List Part) (price : ℕ) (lawful : IsLawful tariff trip (front ++ rest) price) where
  no_more : (k : ℕ) → 1 ≤ k → k ≤ length (front ++ rest) → cost_of_part tariff trip front rest k ≤ true_cost tariff trip (front ++ rest) k
  no_more k low high =
      elim (cases_Bool (leb k (length front))) [
        | inl t ↦ rw t (true_least tariff trip (front ++ rest) price lawful k low high)
        | inr f ↦ rw f (omega arith)
      ]

  unit_no_more : (unit : ℕ) → 1 ≤ unit → unit ≤ greatest_unit (front ++ rest) (places (front ++ rest)) → sum_by (cost_of_part tariff trip front rest) (own (front ++ rest) unit) ≤ unit_price tariff trip (front ++ rest) unit
  unit_no_more unit low high =
      let up : sum_by (cost_of_part tariff trip front rest) (own (front ++ rest) unit) ≤ sum_by (true_cost tariff trip (front ++ rest)) (own (front ++ rest) unit) =
      sum_up_members (cost_of_part tariff trip front rest) (true_cost tariff trip (front ++ rest)) (own (front ++ rest) unit)
      (λ k m. let place = member_place tariff trip (front ++ rest) price lawful unit k m in no_more k place.0 place.1) in
      let most : sum_by (true_cost tariff trip (front ++ rest)) (own (front ++ rest) unit) ≤ unit_price tariff trip (front ++ rest) unit = true_up tariff trip (front ++ rest) price lawful unit low high in
      omega arith

  like_front : (k : ℕ) → 1 ≤ k → k ≤ length front → cost_of_part tariff trip front rest k ≡ part_least tariff trip front k
  like_front k low high = rw (le-leb k (length front) high) (front_least tariff trip front rest k low high)

  not_in_front : (k : ℕ) → length front < k → leb k (length front) ≡ false
  not_in_front k past = elim (cases_Bool (leb k (length front))) [ inl t ↦ (let within : k ≤ length front = leb-true k (length front) t in absurd (omega arith)) | inr f ↦ f ]

  like_behind : (k : ℕ) → length front + 1 ≤ k → true_cost tariff trip (front ++ rest) k ≤ cost_of_part tariff trip front rest k
  like_behind k past = rw (not_in_front k (omega arith)) (omega arith)

  -- what the units cost at least, with what the parts behind cost, is no more than the price
  pub spent_up : units_floor tariff trip front + sum_by (true_cost tariff trip (front ++ rest)) (range_with_len (length front + 1) (length rest)) ≤ price
  spent_up =
      let low : units_floor tariff trip front + sum_by (cost_of_part tariff trip front rest) (range_with_len (length front + 1) (length rest)) ≤ price =
      floor_by tariff trip front rest price (cost_of_part tariff trip front rest) lawful like_front unit_no_more in
      let up : sum_by (true_cost tariff trip (front ++ rest)) (range_with_len (length front + 1) (length rest)) ≤ sum_by (cost_of_part tariff trip front rest) (range_with_len (length front + 1) (length rest)) =
      sum_up (true_cost tariff trip (front ++ rest)) (cost_of_part tariff trip front rest) (length front + 1) (length rest) (λ k first past. like_behind k first) in
      omega arith

module _ (table : Pricing) (homing : Homing) (are : AreHomingsOf table.edition table.trip homing) (front : List Part) (within : end_of front (length front) ≤ count table.trip) (behind : List (Option ℕ))
    (over : AreOver table homing front (greatest_unit front (places front)) behind) (found : Option ℕ) (sum : IsUnderSum (Some (units_floor table.edition table.trip front)) (rest_at behind (end_of front (length front))) found) where
  -- what the units cost at least, with what is behind, is no more than the price of a completion
  pub found_up : (parts : List Part) (price : ℕ) → IsCompletion table.edition table.trip front parts price → IsWithin homing.ceiling price → IsUpTo price found
  found_up parts price c cheap =
      let P : List Part → Type 0 = λ xs. IsLawful table.edition table.trip xs price in
      let lawful : IsLawful table.edition table.trip (front ++ c.begins.0) price = subst P c.begins.1 c.lawful in
      let least = over c.begins.0 price (end_of front (length front)) (sum_by (true_cost table.edition table.trip (front ++ c.begins.0)) (range_with_len (length front + 1) (length c.begins.0))) lawful cheap (omega arith) within
      (behind_is_over table.edition table.trip homing.unit_ceiling are.unit_ceiling.alike (begun_from homing) (closing_from homing) (jaw_from homing) (cell homing.whole) (rest_at (left_of table.edition homing front)) front c.begins.0 (left_is_behind table homing are front c.begins.0 price lawful) price lawful (are.unit_ceiling.units (front ++ c.begins.0) price lawful cheap)) in
      let spent : units_floor table.edition table.trip front + sum_by (true_cost table.edition table.trip (front ++ c.begins.0)) (range_with_len (length front + 1) (length c.begins.0)) ≤ price = spent_up table.edition table.trip front c.begins.0 price lawful in
      let low : least.0 ≤ sum_by (true_cost table.edition table.trip (front ++ c.begins.0)) (range_with_len (length front + 1) (length c.begins.0)) = least.2 in
      up_more (units_floor table.edition table.trip front + least.0) price found (omega arith) (sum (units_floor table.edition table.trip front) least.0 refl least.1)

-- what is paid, with a number that is behind, is under the sum of that and of what costs no less
pub paid_under : (paid spent : ℕ) (behind found : Option ℕ) → paid ≤ spent → found ≡ option_map (capped_sum paid) behind → IsUnderSum (Some spent) behind found
paid_under paid spent behind found low is x y e f =
    let same : spent ≡ x = same_Some spent x e in
    (capped_sum paid y, is ∙ ap (option_map (capped_sum paid)) f, omega arith)

-- what is under the prices under a ceiling, and no more than the number above it, is a floor
pub within_is_floor : (table : Pricing) (ceiling : Option Ceiling) (front : List Part) (found : Option ℕ) → ((parts : List Part) (price : ℕ) → IsCompletion table.edition table.trip front parts price → IsWithin ceiling price → IsUpTo price found)
    → IfSome ceiling (λ known. IsUpTo (known.price + 1) found) → IsFloorAnswer table.edition table.trip front found
within_is_floor table ceiling front found under above = as_floor found (λ parts price c. up_to parts price c ceiling under above)
  where
    up_to : (parts : List Part) (price : ℕ) → IsCompletion table.edition table.trip front parts price → (known : Option Ceiling) → ((parts : List Part) (price : ℕ) → IsCompletion table.edition table.trip front parts price → IsWithin known price → IsUpTo price found)
        → IfSome known (λ one. IsUpTo (one.price + 1) found) → IsUpTo price found
    up_to parts price c None known past = known parts price c tt
    up_to parts price c (Some one) known past =
        elim (cases_lt one.price price) [
          | inl dear ↦ up_more (one.price + 1) price found (omega arith) past
          | inr cheap ↦ known parts price c (omega arith)
        ]

    as_floor : (floor : Option ℕ) → ((parts : List Part) (price : ℕ) → IsCompletion table.edition table.trip front parts price → IsUpTo price floor) → IsFloorAnswer table.edition table.trip front floor
    as_floor None known = λ parts price c. let up = known parts price c in none_some up.0 up.1
    as_floor (Some floor) known = λ parts price c.
        let up = known parts price c in
        let low : up.0 ≤ price = up.2 in
        let same : floor ≡ up.0 = same_Some floor up.0 up.1 in
        omega arith
