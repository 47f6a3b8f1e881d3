-- Which part may follow some first parts, and that one that may not completes nothing.
use Rattle.std.proofs.Common.{◌≡◌, ℕ, ◌+◌, ◌<◌, ◌≤◌, ◌⊎◌, true, false, List, [], ◌∷◌, ◌++◌, refl, subst, sym, ◌∙◌, inl, inr}
use Rattle.std.proofs.lemmas.List.{append_assoc}
use Rattle.std.proofs.lemmas.Bool.{lt-ltb, le-leb, ltb-true, leb-true, and_parts}
use Rattle.fare_trip.specs.Itinerary.{Itinerary, count}
use Rattle.fare_tariff.specs.Tariff.{Tariff}
use Rattle.fare_rules.specs.declared.part.Part.{Part}
use Rattle.fare_rules.specs.Construction.{greatest_unit, places}
use Rattle.fare_rules.specs.Best.{IsLawful}
use Rattle.fare_rules.proofs.MemberLemmas.{Member}
use Rattle.fare_units.specs.Walk.{next_start}
use Rattle.fare_units.proofs.NextLemmas.{next_rises, next_within, next_numbered}
use Rattle.fare_floors.specs.Floors.{HasNoCompletion, may_follow}

true_false : true ≡ false → ⊥
true_false e = cc

-- a fare of some entries and one more is that of one of them or of the one
pub member_snoc : (xs : List ℕ) (x y : ℕ) → Member y (xs ++ x ∷ []) → Member y xs ⊎ (y ≡ x)
member_snoc [] x y (inl e) = inr e
member_snoc [] x y (inr h) = absurd h
member_snoc (z ∷ xs) x y (inl e) = inl (inl e)
member_snoc (z ∷ xs) x y (inr h) = elim (member_snoc xs x y h) [ inl m ↦ inl (inr m) | inr e ↦ inr e ]

module _ (tariff : Tariff) (trip : Itinerary) (front : List Part) where
  -- a part that may not follow completes nothing
  pub none_follows : (part : Part) → may_follow trip front part ≡ false → HasNoCompletion tariff trip (front ++ part ∷ [])
  none_follows part none parts price c =
      let whole : parts ≡ front ++ part ∷ c.begins.0 = c.begins.1 ∙ append_assoc front (part ∷ []) c.begins.0 in
      let P : List Part → Type 0 = λ xs. IsLawful tariff trip xs price in
      let l : IsLawful tariff trip (front ++ part ∷ c.begins.0) price = subst P whole c.lawful in
      let rises : next_start trip front < part.end = next_rises tariff trip front part c.begins.0 price l in
      let within : part.end ≤ count trip = next_within tariff trip front part c.begins.0 price l in
      let numbered : (1 ≤ part.unit) × (part.unit ≤ greatest_unit front (places front) + 1) = next_numbered tariff trip front part c.begins.0 price l in
      let follows : may_follow trip front part ≡ true = rw (lt-ltb (next_start trip front) part.end rises, le-leb part.end (count trip) within, le-leb part.unit (greatest_unit front (places front) + 1) numbered.1) refl in
      true_false (sym follows ∙ none)

-- what a part that may follow meets
pub record Follows (trip : Itinerary) (front : List Part) (part : Part) : Type 0 where
  pub rises : next_start trip front < part.end
  pub within : part.end ≤ count trip
  pub ordered : part.unit ≤ greatest_unit front (places front) + 1

pub follows : (trip : Itinerary) (front : List Part) (part : Part) → may_follow trip front part ≡ true → Follows trip front part
follows trip front part h =
    let first = and_parts _ _ h in
    let second = and_parts _ _ first.0 in
    record { rises = ltb-true _ _ second.0; within = leb-true _ _ second.1; ordered = leb-true _ _ first.1 }
