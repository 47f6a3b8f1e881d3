-- What a unit costs at least is the same where a part of another unit is added.
use Rattle.std.proofs.Common.{◌≡◌, ℕ, ◌+◌, ◌≤◌, Bool, cond, true, false, List, [], ◌∷◌, ◌++◌, length, append-nil, refl, ap, sym, subst, ◌∙◌, inl, inr, arith}
use Rattle.std.specs.Prelude.{sum_by}
use Rattle.std.proofs.lemmas.Bool.{ne_eqb}
use Rattle.fare_trip.specs.Itinerary.{Itinerary}
use Rattle.fare_tariff.specs.Tariff.{Tariff}
use Rattle.fare_rules.specs.declared.part.Part.{Part}
use Rattle.fare_rules.specs.Construction.{is_own, own, unit_of}
use Rattle.fare_rules.specs.UnitPrice.{unit_price, unit_sheet}
use Rattle.fare_lawful.specs.Shut.{has_gap_before, is_shut}
use Rattle.fare_units.proofs.NextLemmas.{next_part}
use Rattle.fare_units.proofs.ShutLemmas.{shut_has_parts}
use Rattle.fare_floors.specs.Costs.{part_least, unit_floor, unit_least}
use Rattle.fare_floors.proofs.FloorLemmas.{behind_cost, front_least, unit_in_two}
use Rattle.fare_floors.proofs.SameLemmas.{AreFirst, closes_same, end_same, holds_same, price_same, start_same}
use Rattle.fare_floors.proofs.ShutLemmas.{own_are_first, own_behind, own_in_two}

true_false : true ≡ false → ⊥
true_false e = cc

not_so : (b : Bool) → (b ≡ true → ⊥) → b ≡ false
not_so true h = absurd (h refl)
not_so false h = refl

cond_same : (a b : Bool) (x y z w : ℕ) → a ≡ b → (a ≡ true → x ≡ y) → z ≡ w → cond a x z ≡ cond b y w
cond_same true true x y z w same price least = price refl
cond_same true false x y z w same price least = absurd (true_false same)
cond_same false true x y z w same price least = absurd (true_false (sym same))
cond_same false false x y z w same price least = least

module _ (tariff : Tariff) (trip : Itinerary) (front rest : List Part) where
  gap_same : (xs : List ℕ) → AreFirst tariff trip front rest xs → has_gap_before tariff trip (front ++ rest) xs ≡ has_gap_before tariff trip front xs
  gap_same [] first = refl
  gap_same (k ∷ []) first = refl
  gap_same (k ∷ next ∷ []) first =
      let a = first k (inl refl) in
      let b = first next (inr (inl refl)) in
      rw (start_same tariff trip front rest k a.0 a.1, end_same tariff trip front rest k a.0 a.1, start_same tariff trip front rest next b.0 b.1, end_same tariff trip front rest next b.0 b.1) refl
  gap_same (k ∷ next ∷ third ∷ more) first = refl

  shut_same : (x : ℕ) (xs : List ℕ) → AreFirst tariff trip front rest (x ∷ xs) → is_shut tariff trip (front ++ rest) (x ∷ xs) ≡ is_shut tariff trip front (x ∷ xs)
  unfolding is_shut
  shut_same x xs first = rw (holds_same tariff trip front rest (x ∷ xs) first, closes_same tariff trip front rest x xs first, gap_same (x ∷ xs) first) refl

module _ (tariff : Tariff) (trip : Itinerary) (front : List Part) (part : Part) (unit : ℕ) (other : part.unit ≡ unit → ⊥) where
  abbrev whole : List Part
  whole = front ++ part ∷ []

  -- none of its parts is behind
  none_behind : own_behind tariff trip front (part ∷ []) unit ≡ []
  none_behind =
      let here : unit_of whole (length front + 1) ≡ part.unit = ap (λ (p : Part). p.unit) (next_part front part []) in
      let not_own : is_own whole unit (length front + 1) ≡ false = ne_eqb (unit_of whole (length front + 1)) unit (λ e. other (sym here ∙ e)) in
      rw not_own refl

  own_same : own whole unit ≡ own front unit
  own_same = own_in_two tariff trip front (part ∷ []) unit ∙ ap (λ xs. own front unit ++ xs) none_behind ∙ append-nil (own front unit)

  least_same : unit_least tariff trip whole unit ≡ unit_least tariff trip front unit
  least_same =
      let two : unit_least tariff trip whole unit ≡ unit_least tariff trip front unit + behind_cost tariff trip front (part ∷ []) (part_least tariff trip whole) unit =
      unit_in_two tariff trip front (part ∷ []) (part_least tariff trip whole) (front_least tariff trip front (part ∷ [])) unit in
      let nothing : behind_cost tariff trip front (part ∷ []) (part_least tariff trip whole) unit ≡ 0 = ap (sum_by (part_least tariff trip whole)) none_behind in
      omega arith

  none_shut : (parts : List Part) → is_shut tariff trip parts [] ≡ true → ⊥
  none_shut parts shut = let some : 1 ≤ length {A = ℕ} [] = shut_has_parts tariff trip parts [] shut in omega (arith, some)

  shut_any : (xs : List ℕ) → AreFirst tariff trip front (part ∷ []) xs → is_shut tariff trip whole xs ≡ is_shut tariff trip front xs
  shut_any [] first = not_so (is_shut tariff trip whole []) (none_shut whole) ∙ sym (not_so (is_shut tariff trip front []) (none_shut front))
  shut_any (x ∷ xs) first = shut_same tariff trip front (part ∷ []) x xs first

  price_any : (xs : List ℕ) → AreFirst tariff trip front (part ∷ []) xs → is_shut tariff trip whole xs ≡ true → (unit_sheet tariff trip whole xs).price ≡ (unit_sheet tariff trip front xs).price
  price_any [] first shut = absurd (none_shut whole shut)
  price_any (x ∷ xs) first shut = price_same tariff trip front (part ∷ []) x xs first

  shut_is : is_shut tariff trip whole (own whole unit) ≡ is_shut tariff trip front (own front unit)
  shut_is = ap (is_shut tariff trip whole) own_same ∙ shut_any (own front unit) (own_are_first tariff trip front (part ∷ []) unit)

  price_is : is_shut tariff trip whole (own whole unit) ≡ true → unit_price tariff trip whole unit ≡ unit_price tariff trip front unit
  price_is shut =
      ap (λ xs. (unit_sheet tariff trip whole xs).price) own_same
      ∙ price_any (own front unit) (own_are_first tariff trip front (part ∷ []) unit) (subst (λ xs. is_shut tariff trip whole xs ≡ true) own_same shut)

  pub floor_same : unit_floor tariff trip whole unit ≡ unit_floor tariff trip front unit
  floor_same =
      cond_same (is_shut tariff trip whole (own whole unit)) (is_shut tariff trip front (own front unit)) (unit_price tariff trip whole unit) (unit_price tariff trip front unit) (unit_least tariff trip whole unit) (unit_least tariff trip front unit) shut_is price_is least_same
