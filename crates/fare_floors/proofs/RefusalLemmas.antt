-- Why some first parts have no completion, by the unit of the last of them.
use Rattle.std.proofs.Common.{◌≡◌, ℕ, ◌+◌, ◌-◌, ◌≤◌, true, false, ◌&&◌, ◌||◌, not, List, [], ◌∷◌, ◌++◌, length, refl, ap, sym, subst, ◌∙◌, arith}
use Rattle.std.specs.Prelude.{is_some, is_none, Option, Some, None, filter}
use Rattle.std.specs.List.{range_with_len}
use Rattle.std.proofs.Math.ListN.{length-append}
use Rattle.std.proofs.lemmas.Bool.{and_parts, eq-eqb, not-true}
use Rattle.std.proofs.lemmas.List.{append_assoc}
use Rattle.fare_trip.specs.Itinerary.{Itinerary}
use Rattle.fare_tariff.specs.Tariff.{Tariff}
use Rattle.fare_rules.specs.declared.amount.Amount.{Amount}
use Rattle.fare_rules.specs.declared.part.Part.{Part}
use Rattle.fare_rules.specs.ComponentAmount.{component_amount}
use Rattle.fare_rules.specs.Construction.{places, own, is_own, last_of, greatest_unit, unit_of, start_of, end_of, part_at}
use Rattle.fare_rules.specs.Direction.{heads_home}
use Rattle.fare_rules.specs.Shape.{is_chained}
use Rattle.fare_rules.specs.Best.{IsLawful}
use Rattle.fare_rules.proofs.MemberLemmas.{Member, member_filter, member_numbers}
use Rattle.fare_units.specs.Onward.{is_shut_unit, must_go_on, may_come_home, is_stranded}
use Rattle.fare_lawful.specs.Shut.{is_shut}
use Rattle.fare_units.proofs.NextLemmas.{front_unit, next_part, next_numbered}
use Rattle.fare_floors.specs.Floors.{HasNoCompletion}
use Rattle.fare_floors.specs.Ending.{is_priced_back, needs_more}
use Rattle.fare_floors.specs.Refusals.{onward_amount, is_worthless, is_broken_off}
use Rattle.fare_floors.specs.Stays.{is_outside}
use Rattle.fare_floors.proofs.OnwardLemmas.{comes_home_behind, amount_onward, chained_onward, either_left}
use Rattle.fare_floors.proofs.ShutLemmas.{own_behind, shut_alone, own_in_two, own_are_first}
use Rattle.fare_floors.proofs.SumLemmas.{unit_up_to}

true_false : true ≡ false → ⊥
true_false e = cc

cons_nil : (x : ℕ) (xs : List ℕ) → x ∷ xs ≡ [] → ⊥
cons_nil x xs e = cc

none_not : {A : Type 0} (o : Option A) → is_none o ≡ true → is_some o ≡ true → ⊥
none_not None n s = true_false (sym s)
none_not (Some x) n s = true_false (sym n)

-- what a list holds is its first and others
first_and : (j : ℕ) (xs : List ℕ) → Member j xs → (x : ℕ) × (others : List ℕ) × (xs ≡ x ∷ others)
first_and j [] m = absurd m
first_and j (x ∷ xs) m = (x, xs, refl)

module _ (tariff : Tariff) (trip : Itinerary) (front : List Part) (part : Part) where
  longer_length : length (front ++ part ∷ []) ≡ length front + 1
  longer_length = length-append front (part ∷ []) ∙ omega arith

  -- the last part is one of its unit
  last_unit : (rest : List Part) → unit_of (front ++ part ∷ rest) (length front + 1) ≡ part.unit
  last_unit rest = ap (λ (p : Part). p.unit) (next_part front part rest)

  last_own : Member (length front + 1) (own (front ++ part ∷ []) part.unit)
  unfolding own
  last_own =
      let n : length (front ++ part ∷ []) ≡ length front + 1 = longer_length in
      member_filter (is_own (front ++ part ∷ []) part.unit) (length front + 1) (places (front ++ part ∷ [])) (eq-eqb (unit_of (front ++ part ∷ []) (length front + 1)) part.unit (last_unit []))
      (member_numbers 1 (length (front ++ part ∷ []) + 1) (length front + 1) (omega arith) (omega arith))

  -- a completion as a lawful list, in which the unit of the last part is one of the units
  abbrev pub Refuses : Type 0
  Refuses = (rest : List Part) (cost : ℕ) → IsLawful tariff trip ((front ++ part ∷ []) ++ rest) cost → 1 ≤ part.unit
      → part.unit ≤ greatest_unit ((front ++ part ∷ []) ++ rest) (places ((front ++ part ∷ []) ++ rest)) → ⊥

  none_completes : Refuses → HasNoCompletion tariff trip (front ++ part ∷ [])
  none_completes refuses parts cost c =
      let P : List Part → Type 0 = λ xs. IsLawful tariff trip xs cost in
      let l : IsLawful tariff trip ((front ++ part ∷ []) ++ c.begins.0) cost = subst P c.begins.1 c.lawful in
      let next : IsLawful tariff trip (front ++ part ∷ c.begins.0) cost = subst P (append_assoc front (part ∷ []) c.begins.0) l in
      let numbered : (1 ≤ part.unit) × (part.unit ≤ greatest_unit front (places front) + 1) = next_numbered tariff trip front part c.begins.0 cost next in
      let n : length (front ++ part ∷ []) ≡ length front + 1 = longer_length in
      let m : length ((front ++ part ∷ []) ++ c.begins.0) ≡ length (front ++ part ∷ []) + length c.begins.0 = length-append (front ++ part ∷ []) c.begins.0 in
      let unit : unit_of ((front ++ part ∷ []) ++ c.begins.0) (length front + 1) ≡ part.unit = front_unit (front ++ part ∷ []) c.begins.0 (length front + 1) (omega arith) (omega arith) ∙ last_unit [] in
      let high : unit_of ((front ++ part ∷ []) ++ c.begins.0) (length front + 1) ≤ greatest_unit ((front ++ part ∷ []) ++ c.begins.0) (places ((front ++ part ∷ []) ++ c.begins.0)) = unit_up_to ((front ++ part ∷ []) ++ c.begins.0) 1 (length ((front ++ part ∷ []) ++ c.begins.0) + 1 - 1) (length front + 1) (omega arith) (omega arith) in
      refuses c.begins.0 cost l numbered.0 (omega arith)

  -- the last part comes to a unit that is shut
  behind_shut : (rest : List Part) → own_behind tariff trip front (part ∷ rest) part.unit ≡ [] → ⊥
  behind_shut rest e =
      let here : is_own (front ++ part ∷ rest) part.unit (length front + 1) ≡ true = eq-eqb (unit_of (front ++ part ∷ rest) (length front + 1)) part.unit (last_unit rest) in
      cons_nil (length front + 1) (filter (is_own (front ++ part ∷ rest) part.unit) (range_with_len (length front + 1 + 1) (length rest))) (rw here at e)

  pub shut_is_none : is_shut_unit tariff trip front part.unit ≡ true → HasNoCompletion tariff trip (front ++ part ∷ [])
  shut_is_none shut =
      none_completes (λ rest cost l low high.
      let P : List Part → Type 0 = λ xs. IsLawful tariff trip xs cost in
      let Q : List Part → Type 0 = λ xs. part.unit ≤ greatest_unit xs (places xs) in
      let next : IsLawful tariff trip (front ++ part ∷ rest) cost = subst P (append_assoc front (part ∷ []) rest) l in
      let most : part.unit ≤ greatest_unit (front ++ part ∷ rest) (places (front ++ part ∷ rest)) = subst Q (append_assoc front (part ∷ []) rest) high in
      behind_shut rest (shut_alone tariff trip front (part ∷ rest) cost next part.unit low most (own front part.unit) (own_behind tariff trip front (part ∷ rest) part.unit) (own_are_first tariff trip front (part ∷ rest) part.unit) (own_in_two tariff trip front (part ∷ rest) part.unit) shut))

  -- a unit that must go on must have more parts
  more_by_must : (x : ℕ) (xs : List ℕ) → must_go_on tariff trip (front ++ part ∷ []) (x ∷ xs) ≡ true → needs_more tariff trip (front ++ part ∷ []) (x ∷ xs) ≡ true
  more_by_must x xs must =
      either_left (must_go_on tariff trip (front ++ part ∷ []) (x ∷ xs)) (not (is_shut tariff trip (front ++ part ∷ []) (x ∷ xs)) && (not (is_priced_back tariff trip (front ++ part ∷ []) (last_of (x ∷ xs))) || is_outside tariff trip (front ++ part ∷ []) (x ∷ xs))) must

  -- the last part's unit must go on, and yet does not come home
  pub stranded_is_none : is_stranded tariff trip (front ++ part ∷ []) part.unit ≡ true → HasNoCompletion tariff trip (front ++ part ∷ [])
  stranded_is_none h =
      let two = and_parts (must_go_on tariff trip (front ++ part ∷ []) (own (front ++ part ∷ []) part.unit)) (not (may_come_home tariff trip (front ++ part ∷ []) (own (front ++ part ∷ []) part.unit))) h in
      let none : may_come_home tariff trip (front ++ part ∷ []) (own (front ++ part ∷ []) part.unit) ≡ false = not-true (may_come_home tariff trip (front ++ part ∷ []) (own (front ++ part ∷ []) part.unit)) two.1 in
      let some = first_and (length front + 1) (own (front ++ part ∷ []) part.unit) last_own in
      let P : List ℕ → Type 0 = λ xs. must_go_on tariff trip (front ++ part ∷ []) xs ≡ true in
      let Q : List ℕ → Type 0 = λ xs. may_come_home tariff trip (front ++ part ∷ []) xs ≡ false in
      none_completes (λ rest cost l low high.
      true_false (sym (comes_home_behind tariff trip (front ++ part ∷ []) rest cost l part.unit low high some.0 some.1 some.2 (more_by_must some.0 some.1 (subst P some.2 two.0))) ∙ subst Q some.2 none))

  -- the amount of the last part where others of some places are its unit's and one comes behind
  abbrev pub onward_by : List ℕ → Option Amount
  onward_by xs = component_amount tariff trip (start_of trip (front ++ part ∷ []) (length front + 1)) (end_of (front ++ part ∷ []) (length front + 1)) (part_at (front ++ part ∷ []) (length front + 1)).fare (heads_home tariff trip (front ++ part ∷ []) xs (length front + 1))

  -- or has no amount for it as a part that is not its last
  pub worthless_is_none : is_worthless tariff trip (front ++ part ∷ []) part.unit ≡ true → HasNoCompletion tariff trip (front ++ part ∷ [])
  worthless_is_none h =
      let n : length (front ++ part ∷ []) ≡ length front + 1 = longer_length in
      let two = and_parts (needs_more tariff trip (front ++ part ∷ []) (own (front ++ part ∷ []) part.unit)) (is_none (onward_amount tariff trip (front ++ part ∷ []) (length (front ++ part ∷ [])))) h in
      let some = first_and (length front + 1) (own (front ++ part ∷ []) part.unit) last_own in
      let A : ℕ → Type 0 = λ k. is_none (onward_amount tariff trip (front ++ part ∷ []) k) ≡ true in
      let B : ℕ → Type 0 = λ u. is_none (onward_by (own (front ++ part ∷ []) u)) ≡ true in
      let C : List ℕ → Type 0 = λ xs. is_none (onward_by xs) ≡ true in
      let none : is_none (onward_by (some.0 ∷ some.1)) ≡ true = subst C some.2 (subst B (last_unit []) (subst A n two.1)) in
      let P : List ℕ → Type 0 = λ xs. needs_more tariff trip (front ++ part ∷ []) xs ≡ true in
      none_completes (λ rest cost l low high.
      none_not (onward_by (some.0 ∷ some.1)) none (amount_onward tariff trip (front ++ part ∷ []) rest cost l part.unit low high some.0 some.1 some.2 (subst P some.2 two.0) (length front + 1) (omega arith) (omega arith) (last_unit [])))

  -- or its parts are not chained
  pub broken_is_none : is_broken_off tariff trip (front ++ part ∷ []) part.unit ≡ true → HasNoCompletion tariff trip (front ++ part ∷ [])
  broken_is_none h =
      let two = and_parts (needs_more tariff trip (front ++ part ∷ []) (own (front ++ part ∷ []) part.unit)) (not (is_chained trip (front ++ part ∷ []) (own (front ++ part ∷ []) part.unit))) h in
      let none : is_chained trip (front ++ part ∷ []) (own (front ++ part ∷ []) part.unit) ≡ false = not-true (is_chained trip (front ++ part ∷ []) (own (front ++ part ∷ []) part.unit)) two.1 in
      let some = first_and (length front + 1) (own (front ++ part ∷ []) part.unit) last_own in
      let P : List ℕ → Type 0 = λ xs. needs_more tariff trip (front ++ part ∷ []) xs ≡ true in
      let Q : List ℕ → Type 0 = λ xs. is_chained trip (front ++ part ∷ []) xs ≡ false in
      none_completes (λ rest cost l low high.
      true_false (sym (chained_onward tariff trip (front ++ part ∷ []) rest cost l part.unit low high some.0 some.1 some.2 (subst P some.2 two.0)) ∙ subst Q some.2 none))
