-- No part comes to a unit of the first parts that is shut, so it costs in a lawful construction what it costs there.
use Rattle.std.proofs.Common.{◌≡◌, ℕ, zero, suc, ◌+◌, ◌-◌, ◌<◌, ◌≤◌, Bool, true, false, ◌&&◌, ◌||◌, not, cond, ltb, leb, List, [], ◌∷◌, ◌++◌, length, refl, ap, sym, subst, ◌∙◌, inl, inr, arith}
use Rattle.std.specs.Prelude.{Some, None, filter, sum_by, bytes_eq, is_some, is_none, Option}
use Rattle.std.specs.List.{range_with_len, list_any}
use Rattle.std.proofs.Math.ListN.{length-append}
use Rattle.std.proofs.lemmas.Bool.{cases_Bool, or_cases, and_parts, lt-ltb, not-true, eqb-true}
use Rattle.std.proofs.lemmas.Option.{same_Some}
use Rattle.std.proofs.lemmas.List.{append-nil, append_assoc}
use Rattle.std.proofs.lemmas.List.Elements.{filter-append}
use Rattle.std.proofs.lemmas.Slice.Eq.{bytes_eq-Decides}
use Rattle.fare_codes.specs.declared.city.City.{City}
use Rattle.fare_trip.specs.Itinerary.{Itinerary}
use Rattle.fare_tariff.specs.Tariff.{Tariff}
use Rattle.fare_rules.specs.declared.part.Part.{Part}
use Rattle.fare_rules.specs.Construction.{places, own, is_own, origin, last_of, but_last, greatest_unit, start_city, end_city, unit_of}
use Rattle.fare_rules.specs.Shape.{is_ow, holds_ow, is_hr, is_mixed, mixed, follows, is_chained, ends_in, comes_home, comes_home_early, ends_at_home, closes, is_jaw, is_open_jaw, must_close, is_unchained, unchained, is_unclosed, unclosed}
use Rattle.fare_rules.specs.UnitPrice.{price, unit_price, unit_sheet, part_amount}
use Rattle.fare_bounds.specs.Covers.{total}
use Rattle.fare_rules.specs.Best.{IsLawful}
use Rattle.fare_rules.proofs.AmountLemmas.{amount_of_part}
use Rattle.fare_rules.proofs.LawfulLemmas.{kept}
use Rattle.fare_rules.proofs.MemberLemmas.{Member}
use Rattle.fare_rules.proofs.NumberLemmas.{find_none}
use Rattle.fare_lawful.specs.Shut.{is_shut, has_gap_before, has_no_amount, lacks_amount, is_priceless}
use Rattle.fare_units.specs.Walk.{is_fruitless}
use Rattle.fare_units.proofs.NextLemmas.{front_unit, next_part, next_numbered, next_fruitful}
use Rattle.fare_units.proofs.ShutLemmas.{shut_has_parts}
use Rattle.fare_floors.specs.Costs.{part_least, unit_least, unit_floor, units_floor}
use Rattle.fare_floors.specs.Floors.{HasNoOpenUnit, HasNoCompletion}
use Rattle.fare_floors.proofs.CostLemmas.{unit_costs_least}
use Rattle.fare_floors.proofs.FloorLemmas.{AreLeastInFront, behind_cost, front_least, unit_in_two, weights_are_below}
use Rattle.fare_floors.proofs.LegLemmas.{legs_of, legs_total}
use Rattle.fare_floors.proofs.SameLemmas.{AreFirst, amount_same, holds_same, chained_same, origin_same, ends_in_same, price_same}
use Rattle.fare_floors.proofs.SumLemmas.{range_in_two, kept_member, sum_up, unit_up_to}

true_false : true ≡ false → ⊥
true_false e = cc

any_front : (f : ℕ → Bool) (xs ys : List ℕ) → list_any f xs ≡ true → list_any f (xs ++ ys) ≡ true
any_front f [] ys e = absurd (true_false (sym e))
any_front f (x ∷ xs) ys e =
    elim (cases_Bool (f x)) [
      | inl t ↦ rw t refl
      | inr n ↦ let more : list_any f xs ≡ true = rw n at e in rw n (any_front f xs ys more)
    ]

any_some : (f : ℕ → Bool) (xs : List ℕ) → list_any f xs ≡ true → 1 ≤ length xs
any_some f [] e = absurd (true_false (sym e))
any_some f (x ∷ xs) e = omega arith

pub any_at : (f : ℕ → Bool) (k : ℕ) (xs : List ℕ) → Member k xs → f k ≡ true → list_any f xs ≡ true
any_at f k [] m t = absurd m
any_at f k (x ∷ xs) (inl e) t = let here : f x ≡ true = subst (λ j. f j ≡ true) e t in rw here refl
any_at f k (x ∷ xs) (inr m) t =
    elim (cases_Bool (f x)) [ inl y ↦ rw y refl | inr n ↦ rw n (any_at f k xs m t) ]

-- the last of some places is an earlier one where others come behind
last_is_earlier : (x : ℕ) (xs : List ℕ) (k : ℕ) (more : List ℕ) → Member (last_of (x ∷ xs)) (but_last ((x ∷ xs) ++ k ∷ more))
last_is_earlier x [] k more = inl refl
last_is_earlier x (y ∷ ys) k more = inr (last_is_earlier y ys k more)

pub filter_like : (p q : ℕ → Bool) (first n : ℕ) → ((k : ℕ) → first ≤ k → k < first + n → p k ≡ q k) → filter p (range_with_len first n) ≡ filter q (range_with_len first n)
filter_like p q first zero h = refl
filter_like p q first (suc n) h =
    rw (h first (omega arith) (omega arith), filter_like p q (first + 1) n (λ k low high. h k (omega arith) (omega arith))) refl

other_way : (a b : City) → bytes_eq a b ≡ false → bytes_eq b a ≡ false
other_way a b e =
    elim (cases_Bool (bytes_eq b a)) [
      | inl t ↦ absurd (true_false (sym ((bytes_eq-Decides a b).1 (sym ((bytes_eq-Decides b a).0 t))) ∙ e))
      | inr f ↦ f
    ]

pub both_true : (a b : Bool) → a ≡ true → b ≡ true → (a && b) ≡ true
both_true a b x y = rw (x, y) refl

pub not_alone : (holds many : Bool) → (holds && many) ≡ false → many ≡ true → holds ≡ false
not_alone true many e t = absurd (true_false (sym t ∙ e))
not_alone false many e t = refl

some_none : (x : ℕ) → Some x ≡ None → ⊥
some_none x e = cc

-- what closes comes home
closed_at_home : (trip : Itinerary) (parts : List Part) (xs : List ℕ) → closes trip parts xs ≡ true → comes_home trip parts xs ≡ true
unfolding closes
closed_at_home trip parts xs h =
    let both = and_parts (is_chained trip parts xs) (ends_at_home trip parts xs) h in
    let most = and_parts (leb 2 (length xs) && comes_home trip parts xs) (not (comes_home_early trip parts xs)) both.1 in
    (and_parts (leb 2 (length xs)) (comes_home trip parts xs) most.0).1

one_never_closes : (trip : Itinerary) (parts : List Part) (x : ℕ) → closes trip parts (x ∷ []) ≡ false
unfolding closes
one_never_closes trip parts x = refl

module _ (tariff : Tariff) (trip : Itinerary) (parts : List Part) where
  jaw_is_short : (xs : List ℕ) → 3 ≤ length xs → is_jaw tariff trip parts xs ≡ false
  jaw_is_short [] h = refl
  jaw_is_short (a ∷ []) h = refl
  jaw_is_short (a ∷ b ∷ []) h = absurd (omega arith)
  jaw_is_short (a ∷ b ∷ c ∷ more) h = refl

  -- in a lawful construction a unit of three parts or more closes and is chained
  must_close_long : (price unit : ℕ) → IsLawful tariff trip parts price → 1 ≤ unit → unit ≤ greatest_unit parts (places parts) → 3 ≤ length (own parts unit) → must_close tariff trip parts (own parts unit) ≡ true
  unfolding mixed is_hr is_open_jaw
  must_close_long price unit l low high long =
      let fails = find_none (is_mixed tariff parts) 1 (greatest_unit parts (places parts) + 1) (kept tariff trip parts price l).alone unit low (omega arith) in
      let none : holds_ow tariff parts (own parts unit) ≡ false = not_alone (holds_ow tariff parts (own parts unit)) (ltb 1 (length (own parts unit))) fails (lt-ltb 1 (length (own parts unit)) (omega arith)) in
      rw (none, jaw_is_short (own parts unit) long) refl

  pub long_is_chained : (price unit : ℕ) → IsLawful tariff trip parts price → 1 ≤ unit → unit ≤ greatest_unit parts (places parts) → 3 ≤ length (own parts unit) → is_chained trip parts (own parts unit) ≡ true
  unfolding unchained
  long_is_chained price unit l low high long =
      let fails = find_none (is_unchained tariff trip parts) 1 (greatest_unit parts (places parts) + 1) (kept tariff trip parts price l).chain unit low (omega arith) in
      let must = must_close_long price unit l low high long in
      not_false (is_chained trip parts (own parts unit)) (rw must at fails)
    where
      not_false : (b : Bool) → not b ≡ false → b ≡ true
      not_false true e = refl
      not_false false e = absurd (true_false e)

  pub long_ends_at_home : (price unit : ℕ) → IsLawful tariff trip parts price → 1 ≤ unit → unit ≤ greatest_unit parts (places parts) → 3 ≤ length (own parts unit) → comes_home_early trip parts (own parts unit) ≡ false
  unfolding unclosed
  long_ends_at_home price unit l low high long =
      let fails = find_none (is_unclosed tariff trip parts) 1 (greatest_unit parts (places parts) + 1) (kept tariff trip parts price l).close unit low (omega arith) in
      let must = must_close_long price unit l low high long in
      early (leb 2 (length (own parts unit)) && comes_home trip parts (own parts unit)) (comes_home_early trip parts (own parts unit)) (rw must at fails)
    where
      early : (a b : Bool) → not (a && not b) ≡ false → b ≡ false
      early true true e = absurd (true_false e)
      early true false e = refl
      early false b e = absurd (true_false e)

not_none : {A : Type 0} (o : Option A) → is_some o ≡ true → is_none o ≡ false
not_none None e = absurd (true_false (sym e))
not_none (Some x) e = refl

any_not : (f : ℕ → Bool) (xs : List ℕ) → ((k : ℕ) → Member k xs → f k ≡ false) → list_any f xs ≡ false
any_not f [] h = refl
any_not f (x ∷ xs) h = rw (h x (inl refl), any_not f xs (λ k m. h k (inr m))) refl

module _ (tariff : Tariff) (trip : Itinerary) (front rest : List Part) where
  -- the places of a unit among the first parts, and behind
  abbrev pub own_behind : ℕ → List ℕ
  own_behind unit = filter (is_own (front ++ rest) unit) (range_with_len (length front + 1) (length rest))

  pub own_in_two : (unit : ℕ) → own (front ++ rest) unit ≡ own front unit ++ own_behind unit
  unfolding own
  own_in_two unit =
      let n : length (front ++ rest) ≡ length front + length rest = length-append front rest in
      let m : length (front ++ rest) + 1 - 1 ≡ length front + length rest = omega arith in
      let f : length front + 1 - 1 ≡ length front = omega arith in
      let j : 1 + length front ≡ length front + 1 = omega arith in
      let split : range_with_len 1 (length front + length rest) ≡ range_with_len 1 (length front) ++ range_with_len (length front + 1) (length rest) = range_in_two 1 (length front) (length rest) ∙ ap (λ a. range_with_len 1 (length front) ++ range_with_len a (length rest)) j in
      let first : filter (is_own (front ++ rest) unit) (range_with_len 1 (length front)) ≡ filter (is_own front unit) (range_with_len 1 (length front)) =
      filter_like (is_own (front ++ rest) unit) (is_own front unit) 1 (length front) (λ k low high. same_own unit k low (omega arith)) in
      rw (m, f) (ap (filter (is_own (front ++ rest) unit)) split ∙ filter-append (is_own (front ++ rest) unit) (range_with_len 1 (length front)) (range_with_len (length front + 1) (length rest)) ∙ ap (λ xs. xs ++ own_behind unit) first)
    where
      same_own : (unit k : ℕ) → 1 ≤ k → k ≤ length front → is_own (front ++ rest) unit k ≡ is_own front unit k
      same_own unit k low high = rw (front_unit front rest k low high) refl

  pub own_are_first : (unit : ℕ) → AreFirst tariff trip front rest (own front unit)
  unfolding own
  own_are_first unit k m =
      let h = kept_member (is_own front unit) 1 (length front + 1 - 1) k m in
      let high : k < 1 + (length front + 1 - 1) = h.1 in
      (h.0, omega arith)

  module _ (price : ℕ) (lawful : IsLawful tariff trip (front ++ rest) price) (unit : ℕ) (low : 1 ≤ unit) (high : unit ≤ greatest_unit (front ++ rest) (places (front ++ rest))) where
    one_way_behind : (xs : List ℕ) (k : ℕ) (more : List ℕ) → AreFirst tariff trip front rest xs → own (front ++ rest) unit ≡ xs ++ k ∷ more → holds_ow tariff front xs ≡ true → ⊥
    unfolding mixed
    one_way_behind xs k more first e holds =
        let fails = find_none (is_mixed tariff (front ++ rest)) 1 (greatest_unit (front ++ rest) (places (front ++ rest)) + 1) (kept tariff trip (front ++ rest) price lawful).alone unit low (omega arith) in
        let there : holds_ow tariff (front ++ rest) xs ≡ true = holds_same tariff trip front rest xs first ∙ holds in
        let some : 1 ≤ length xs = any_some (is_ow tariff front) xs holds in
        let n : length (xs ++ k ∷ more) ≡ length xs + suc (length more) = length-append xs (k ∷ more) in
        let mix : is_mixed tariff (front ++ rest) unit ≡ true = rw e (both_true (holds_ow tariff (front ++ rest) (xs ++ k ∷ more)) (ltb 1 (length (xs ++ k ∷ more))) (any_front (is_ow tariff (front ++ rest)) xs (k ∷ more) there) (lt-ltb 1 (length (xs ++ k ∷ more)) (omega arith))) in
        true_false (sym mix ∙ fails)

    closed_behind : (x y : ℕ) (xs : List ℕ) (k : ℕ) (more : List ℕ) → AreFirst tariff trip front rest (x ∷ y ∷ xs) → own (front ++ rest) unit ≡ (x ∷ y ∷ xs) ++ k ∷ more → comes_home trip front (x ∷ y ∷ xs) ≡ true → ⊥
    closed_behind x y xs k more first e home =
        let n : length ((x ∷ y ∷ xs) ++ k ∷ more) ≡ length (x ∷ y ∷ xs) + suc (length more) = length-append (x ∷ y ∷ xs) (k ∷ more) in
        let long : 3 ≤ length (own (front ++ rest) unit) = rw e (omega arith) in
        let never : comes_home_early trip (front ++ rest) (own (front ++ rest) unit) ≡ false = long_ends_at_home tariff trip (front ++ rest) price unit lawful low high long in
        let last = first (last_of (x ∷ y ∷ xs)) (last_one x (y ∷ xs)) in
        let there : ends_in trip (front ++ rest) (origin trip (front ++ rest) (x ∷ y ∷ xs)) (last_of (x ∷ y ∷ xs)) ≡ true =
        ap (λ (city : City). ends_in trip (front ++ rest) city (last_of (x ∷ y ∷ xs))) (origin_same tariff trip front rest x (y ∷ xs) first) ∙ ends_in_same tariff trip front rest (origin trip front (x ∷ y ∷ xs)) (last_of (x ∷ y ∷ xs)) last.0 last.1 ∙ home in
        let early : comes_home_early trip (front ++ rest) ((x ∷ y ∷ xs) ++ k ∷ more) ≡ true = any_at (ends_in trip (front ++ rest) (origin trip (front ++ rest) (x ∷ y ∷ xs))) (last_of (x ∷ y ∷ xs)) (but_last ((x ∷ y ∷ xs) ++ k ∷ more)) (last_is_earlier x (y ∷ xs) k more) there in
        true_false (sym early ∙ sym (ap (comes_home_early trip (front ++ rest)) e) ∙ never)
      where
        last_one : (x : ℕ) (xs : List ℕ) → Member (last_of (x ∷ xs)) (x ∷ xs)
        last_one x [] = inl refl
        last_one x (y ∷ ys) = inr (last_one y ys)

    gap_behind : (x y k : ℕ) (more : List ℕ) → AreFirst tariff trip front rest (x ∷ y ∷ []) → own (front ++ rest) unit ≡ (x ∷ y ∷ []) ++ k ∷ more → bytes_eq (end_city trip front x) (start_city trip front y) ≡ false → ⊥
    gap_behind x y k more first e gap =
        let long : 3 ≤ length (own (front ++ rest) unit) = rw e (omega arith) in
        let chained : is_chained trip (front ++ rest) (own (front ++ rest) unit) ≡ true = long_is_chained tariff trip (front ++ rest) price unit lawful low high long in
        let two : (follows trip (front ++ rest) x y && is_chained trip (front ++ rest) (y ∷ k ∷ more)) ≡ true = sym (ap (is_chained trip (front ++ rest)) e) ∙ chained in
        let one : follows trip (front ++ rest) x y ≡ true = (and_parts _ _ two).0 in
        let here : (follows trip (front ++ rest) x y && true) ≡ (follows trip front x y && true) = chained_same tariff trip front rest (x ∷ y ∷ []) first in
        let yes : (follows trip front x y && true) ≡ true = sym here ∙ (rw one refl) in
        true_false (sym (and_parts _ _ yes).0 ∙ other_way (end_city trip front x) (start_city trip front y) gap)

    pub shut_alone : (xs : List ℕ) (behind : List ℕ) → AreFirst tariff trip front rest xs → own (front ++ rest) unit ≡ xs ++ behind → is_shut tariff trip front xs ≡ true → behind ≡ []
    unfolding is_shut
    shut_alone xs [] first e shut = refl
    shut_alone [] (k ∷ more) first e shut = let some : 1 ≤ length {A = ℕ} [] = shut_has_parts tariff trip front [] shut in absurd (omega arith)
    shut_alone (x ∷ []) (k ∷ more) first e shut =
        elim (or_cases (holds_ow tariff front (x ∷ []) || closes trip front (x ∷ [])) false shut) [
          | inl either ↦ elim (or_cases (holds_ow tariff front (x ∷ [])) (closes trip front (x ∷ [])) either) [
            | inl t ↦ absurd (one_way_behind (x ∷ []) k more first e t)
            | inr c ↦ absurd (true_false (sym c ∙ one_never_closes trip front x))
          ]
          | inr g ↦ absurd (true_false (sym g))
        ]
    shut_alone (x ∷ y ∷ xs) (k ∷ more) first e shut =
        elim (or_cases (holds_ow tariff front (x ∷ y ∷ xs) || closes trip front (x ∷ y ∷ xs)) (has_gap_before tariff trip front (x ∷ y ∷ xs)) shut) [
          | inl either ↦ elim (or_cases (holds_ow tariff front (x ∷ y ∷ xs)) (closes trip front (x ∷ y ∷ xs)) either) [
            | inl t ↦ absurd (one_way_behind (x ∷ y ∷ xs) k more first e t)
            | inr c ↦ absurd (closed_behind x y xs k more first e (closed_at_home trip front (x ∷ y ∷ xs) c))
          ]
          | inr g ↦ absurd (gap_of xs first e g)
        ]
      where
        gap_of : (zs : List ℕ) → AreFirst tariff trip front rest (x ∷ y ∷ zs) → own (front ++ rest) unit ≡ (x ∷ y ∷ zs) ++ k ∷ more → has_gap_before tariff trip front (x ∷ y ∷ zs) ≡ true → ⊥
        gap_of [] first e g = gap_behind x y k more first e (not-true (bytes_eq (end_city trip front x) (start_city trip front y)) (and_parts _ _ (and_parts _ _ g).0).0)
        gap_of (z ∷ zs) first e g = true_false (sym g)

    -- so nothing is behind it
    pub shut_own : is_shut tariff trip front (own front unit) ≡ true → own (front ++ rest) unit ≡ own front unit
    shut_own shut =
        let behind : own_behind unit ≡ [] = shut_alone (own front unit) (own_behind unit) (own_are_first unit) (own_in_two unit) shut in
        own_in_two unit ∙ ap (λ xs. own front unit ++ xs) behind ∙ append-nil (own front unit)

    -- each of its parts has an amount
    pub own_member : (k : ℕ) → Member k (own front unit) → (1 ≤ k) × (k ≤ length front) × (unit_of front k ≡ unit)
    unfolding own
    own_member k m =
        let h = kept_member (is_own front unit) 1 (length front + 1 - 1) k m in
        let past : k < 1 + (length front + 1 - 1) = h.1 in
        (h.0, omega arith, eqb-true (unit_of front k) unit h.2)

    amount_here : (xs : List ℕ) → AreFirst tariff trip front rest xs → own (front ++ rest) unit ≡ xs → (k : ℕ) → Member k xs → (1 ≤ k) × (k ≤ length front) × (unit_of front k ≡ unit) → is_none (part_amount tariff trip front xs k) ≡ false
    amount_here [] first e k m place = absurd m
    amount_here (x ∷ xs) first e k m place =
        let n : length (front ++ rest) ≡ length front + length rest = length-append front rest in
        let high : k ≤ length front = place.1 in
        let there = amount_of_part tariff trip (front ++ rest) (kept tariff trip (front ++ rest) price lawful) k place.0 (omega arith) in
        let here : unit_of (front ++ rest) k ≡ unit = front_unit front rest k place.0 place.1 ∙ place.2 in
        let P : ℕ → Type 0 = λ u. is_some (part_amount tariff trip (front ++ rest) (own (front ++ rest) u) k) ≡ true in
        let Q : List ℕ → Type 0 = λ ys. is_some (part_amount tariff trip (front ++ rest) ys k) ≡ true in
        let some : is_some (part_amount tariff trip (front ++ rest) (x ∷ xs) k) ≡ true = subst Q e (subst P here there) in
        not_none (part_amount tariff trip front (x ∷ xs) k) (sym (ap is_some (amount_same tariff trip front rest x xs first k m)) ∙ some)

    pub priced : is_priceless tariff trip front unit ≡ true → ⊥
    priced h =
        let both = and_parts (is_shut tariff trip front (own front unit)) (lacks_amount tariff trip front (own front unit)) h in
        let none : lacks_amount tariff trip front (own front unit) ≡ false = any_not (has_no_amount tariff trip front (own front unit)) (own front unit) (λ k m. amount_here (own front unit) (own_are_first unit) (shut_own both.0) k m (own_member k m)) in
        true_false (sym both.1 ∙ none)

    -- and it costs the same
    pub shut_costs : (cost : ℕ → ℕ) → is_shut tariff trip front (own front unit) ≡ true → unit_price tariff trip front unit + behind_cost tariff trip front rest cost unit ≤ unit_price tariff trip (front ++ rest) unit
    shut_costs cost shut =
        let behind : own_behind unit ≡ [] = shut_alone (own front unit) (own_behind unit) (own_are_first unit) (own_in_two unit) shut in
        let nothing : behind_cost tariff trip front rest cost unit ≡ 0 = ap (sum_by cost) behind in
        let same : own (front ++ rest) unit ≡ own front unit = own_in_two unit ∙ ap (λ xs. own front unit ++ xs) behind ∙ append-nil (own front unit) in
        let price_of : unit_price tariff trip (front ++ rest) unit ≡ (unit_sheet tariff trip (front ++ rest) (own front unit)).price = ap (λ xs. (unit_sheet tariff trip (front ++ rest) xs).price) same in
        let equal : (unit_sheet tariff trip (front ++ rest) (own front unit)).price ≡ unit_price tariff trip front unit = price_here (own front unit) (own_are_first unit) shut in
        omega arith
      where
        price_here : (xs : List ℕ) → AreFirst tariff trip front rest xs → is_shut tariff trip front xs ≡ true → (unit_sheet tariff trip (front ++ rest) xs).price ≡ (unit_sheet tariff trip front xs).price
        price_here [] first shut = let some : 1 ≤ length {A = ℕ} [] = shut_has_parts tariff trip front [] shut in absurd (omega arith)
        price_here (x ∷ xs) first shut = price_same tariff trip front rest x xs first

    pub floor_costs : (cost : ℕ → ℕ) → AreLeastInFront tariff trip front rest cost → sum_by cost (own (front ++ rest) unit) ≤ unit_price tariff trip (front ++ rest) unit
        → unit_floor tariff trip front unit + behind_cost tariff trip front rest cost unit ≤ unit_price tariff trip (front ++ rest) unit
    floor_costs cost like one =
        elim (cases_Bool (is_shut tariff trip front (own front unit))) [
          | inl t ↦ rw t (shut_costs cost t)
          | inr f ↦
              let two : sum_by cost (own (front ++ rest) unit) ≡ unit_least tariff trip front unit + behind_cost tariff trip front rest cost unit = unit_in_two tariff trip front rest cost like unit in
              rw f (omega arith)
        ]

-- what units cost at least, with what the parts behind cost, is no more than the price, where no unit's parts cost more
-- than the unit
pub floor_by : (tariff : Tariff) (trip : Itinerary) (front rest : List Part) (price : ℕ) (cost : ℕ → ℕ) → IsLawful tariff trip (front ++ rest) price → AreLeastInFront tariff trip front rest cost
    → ((unit : ℕ) → 1 ≤ unit → unit ≤ greatest_unit (front ++ rest) (places (front ++ rest)) → sum_by cost (own (front ++ rest) unit) ≤ unit_price tariff trip (front ++ rest) unit)
    → units_floor tariff trip front + sum_by cost (range_with_len (length front + 1) (length rest)) ≤ price
floor_by tariff trip front rest price cost lawful like each =
    weights_are_below tariff trip front rest price lawful cost (unit_floor tariff trip front) (λ unit low high. floor_costs tariff trip front rest price lawful unit low high cost like (each unit low high))

-- what units cost at least with the legs behind is no more than the price
pub floor_is_below : (tariff : Tariff) (trip : Itinerary) (front rest : List Part) (cost : ℕ) → IsLawful tariff trip (front ++ rest) cost → units_floor tariff trip front + total (legs_of tariff trip front rest) ≤ cost
floor_is_below tariff trip front rest cost lawful =
    let legs : total (legs_of tariff trip front rest) ≡ sum_by (part_least tariff trip (front ++ rest)) (range_with_len (length front + 1) (length rest)) = legs_total tariff trip (front ++ rest) front rest refl in
    let low : units_floor tariff trip front + sum_by (part_least tariff trip (front ++ rest)) (range_with_len (length front + 1) (length rest)) ≤ cost =
    floor_by tariff trip front rest cost (part_least tariff trip (front ++ rest)) lawful (front_least tariff trip front rest) (λ unit low high. unit_costs_least tariff trip (front ++ rest) cost lawful unit low high) in
    omega arith

-- and where no unit is open it is their price
pub shut_floor : (tariff : Tariff) (trip : Itinerary) (parts : List Part) → HasNoOpenUnit tariff trip parts → units_floor tariff trip parts ≡ price tariff trip parts
unfolding price
shut_floor tariff trip parts shut =
    let each : (unit : ℕ) → 1 ≤ unit → unit < 1 + (greatest_unit parts (places parts) + 1 - 1) → unit_floor tariff trip parts unit ≡ unit_price tariff trip parts unit = λ unit low high. rw (shut unit low (omega arith)) refl in
    let up : sum_by (unit_floor tariff trip parts) (range_with_len 1 (greatest_unit parts (places parts) + 1 - 1)) ≤ sum_by (unit_price tariff trip parts) (range_with_len 1 (greatest_unit parts (places parts) + 1 - 1)) =
    sum_up (unit_floor tariff trip parts) (unit_price tariff trip parts) 1 (greatest_unit parts (places parts) + 1 - 1) (λ unit low high. omega (arith, each unit low high)) in
    let down : sum_by (unit_price tariff trip parts) (range_with_len 1 (greatest_unit parts (places parts) + 1 - 1)) ≤ sum_by (unit_floor tariff trip parts) (range_with_len 1 (greatest_unit parts (places parts) + 1 - 1)) =
    sum_up (unit_price tariff trip parts) (unit_floor tariff trip parts) 1 (greatest_unit parts (places parts) + 1 - 1) (λ unit low high. omega (arith, each unit low high)) in
    omega arith

pub floor_of_shut : (shut : Bool) (price least found : ℕ) → Some found ≡ cond shut (Some price) None → found ≡ cond shut price least
floor_of_shut true price least found e = same_Some found price e
floor_of_shut false price least found e = absurd (some_none found e)

pub floor_of_open : (shut : Bool) (price least : ℕ) → None ≡ cond shut (Some price) None → least ≡ cond shut price least
floor_of_open true price least e = absurd (some_none price (sym e))
floor_of_open false price least e = refl

-- a list whose last part shuts its unit, which yet has no price, has no completion
pub priceless_is_none : (tariff : Tariff) (trip : Itinerary) (front : List Part) (part : Part) → is_priceless tariff trip (front ++ part ∷ []) part.unit ≡ true → HasNoCompletion tariff trip (front ++ part ∷ [])
priceless_is_none tariff trip front part h parts cost c =
    let P : List Part → Type 0 = λ xs. IsLawful tariff trip xs cost in
    let l : IsLawful tariff trip ((front ++ part ∷ []) ++ c.begins.0) cost = subst P c.begins.1 c.lawful in
    let next : IsLawful tariff trip (front ++ part ∷ c.begins.0) cost = subst P (append_assoc front (part ∷ []) c.begins.0) l in
    let numbered : (1 ≤ part.unit) × (part.unit ≤ greatest_unit front (places front) + 1) = next_numbered tariff trip front part c.begins.0 cost next in
    let n : length (front ++ part ∷ []) ≡ length front + 1 = length-append front (part ∷ []) ∙ omega arith in
    let m : length ((front ++ part ∷ []) ++ c.begins.0) ≡ length (front ++ part ∷ []) + length c.begins.0 = length-append (front ++ part ∷ []) c.begins.0 in
    let unit : unit_of ((front ++ part ∷ []) ++ c.begins.0) (length front + 1) ≡ part.unit = front_unit (front ++ part ∷ []) c.begins.0 (length front + 1) (omega arith) (omega arith) ∙ ap (λ (p : Part). p.unit) (next_part front part []) in
    let high : unit_of ((front ++ part ∷ []) ++ c.begins.0) (length front + 1) ≤ greatest_unit ((front ++ part ∷ []) ++ c.begins.0) (places ((front ++ part ∷ []) ++ c.begins.0)) = unit_up_to ((front ++ part ∷ []) ++ c.begins.0) 1 (length ((front ++ part ∷ []) ++ c.begins.0) + 1 - 1) (length front + 1) (omega arith) (omega arith) in
    priced tariff trip (front ++ part ∷ []) c.begins.0 cost l part.unit numbered.0 (omega arith) h

-- nor has one whose last part is fruitless
pub fruitless_is_none : (tariff : Tariff) (trip : Itinerary) (front : List Part) (part : Part) → is_fruitless tariff (front ++ part ∷ []) ≡ true → HasNoCompletion tariff trip (front ++ part ∷ [])
fruitless_is_none tariff trip front part h parts cost c =
    let P : List Part → Type 0 = λ xs. IsLawful tariff trip xs cost in
    let next : IsLawful tariff trip (front ++ part ∷ c.begins.0) cost = subst P (c.begins.1 ∙ append_assoc front (part ∷ []) c.begins.0) c.lawful in
    true_false (sym h ∙ next_fruitful tariff trip front part c.begins.0 cost next)
