-- Walks over constructions: how they are put together, and what they come to.
use Rattle.std.proofs.Common.{◌≡◌, ℕ, true, false, ◌⊎◌, List, Option, Some, None, Ok, Err, refl, sym, ◌∙◌, inl, inr}
use Rattle.std.proofs.lemmas.Bool.{cases_Bool}
use Rattle.fare_trip.specs.Itinerary.{Itinerary}
use Rattle.fare_tariff.specs.Tariff.{Tariff}
use Rattle.fare_rules.specs.declared.part.Part.{Part}
use Rattle.fare_rules.specs.Best.{IsLawful}
use Rattle.fare_rules.specs.Order.{is_before}
use Rattle.fare_rules.proofs.OrderLemmas.{before_tells, before_says, before_trans, before_itself}
use Rattle.fare_units.specs.Walk.{Walks, TakesBetter}

abbrev Found : Type 0
Found = Option (List Part × ℕ)

true_false : true ≡ false → ⊥
true_false e = cc

-- what is before one that is before another is before that
pub before_before : (xs ys zs : List Part) (px py pz : ℕ) → is_before xs px ys py ≡ true → is_before ys py zs pz ≡ true → is_before xs px zs pz ≡ true
before_before xs ys zs px py pz a b = before_says xs zs px pz (before_trans xs ys zs px py pz (before_tells xs ys px py a) (before_tells ys zs py pz b))

-- no list is before itself
pub not_before_itself : (xs : List Part) (p : ℕ) → is_before xs p xs p ≡ false
not_before_itself xs p =
    elim (cases_Bool (is_before xs p xs p)) [ inl t ↦ absurd (before_itself xs p (before_tells xs xs p p t)) | inr f ↦ f ]

-- what is not before one is not before an earlier one either
pub bound_by_earlier : (xs ys zs : List Part) (px py pz : ℕ) → is_before ys py zs pz ≡ true → is_before xs px zs pz ≡ false → is_before xs px ys py ≡ false
bound_by_earlier xs ys zs px py pz earlier bound =
    elim (cases_Bool (is_before xs px ys py)) [
      | inl t ↦ absurd (true_false (sym (before_before xs ys zs px py pz t earlier) ∙ bound))
      | inr f ↦ f
    ]

-- the first that is found is the better one
pub better_of_none : (parts : List Part) (price : ℕ) → TakesBetter parts price None (Some (parts, price))
better_of_none parts price = record { chosen = inr refl; kept = λ others cost h. absurd h; bound = not_before_itself parts price }

-- an earlier one is the better one
pub better_of_earlier : (parts best : List Part) (price least : ℕ) → is_before parts price best least ≡ true → TakesBetter parts price (Some (best, least)) (Some (parts, price))
better_of_earlier parts best price least h =
    record { chosen = inr refl; kept = λ others cost b. bound_by_earlier others parts best cost price least h b; bound = not_before_itself parts price }

-- and else the best that was found stays
pub better_of_later : (parts best : List Part) (price least : ℕ) → is_before parts price best least ≡ false → TakesBetter parts price (Some (best, least)) (Some (best, least))
better_of_later parts best price least h = record { chosen = inl refl; kept = λ others cost b. b; bound = h }

module _ (tariff : Tariff) (trip : Itinerary) where
  -- a walk over lists of which none is lawful
  pub walk_nothing : (D : List Part → Type 0) (best : Found) → ((parts : List Part) (price : ℕ) → IsLawful tariff trip parts price → D parts → ⊥) → Walks tariff trip D best best
  walk_nothing D best none = record { found = λ h. h; kept = λ parts price b. b; seen = λ parts price l d. absurd (none parts price l d) }

  -- one walk after another
  pub walk_then : (D E F : List Part → Type 0) (a b c : Found) → Walks tariff trip D a b → Walks tariff trip E b c → ((parts : List Part) → F parts → D parts ⊎ E parts) → Walks tariff trip F a c
  walk_then D E F a b c first second each =
      record {
        found = λ h. second.found (first.found h);
        kept = λ parts price h. second.kept parts price (first.kept parts price h);
        seen = λ parts price l f. elim (each parts f) [ inl d ↦ second.kept parts price (first.seen parts price l d) | inr e ↦ second.seen parts price l e ];
      }

  -- a walk over more lists than those asked for
  pub walk_within : (D E : List Part → Type 0) (a b : Found) → Walks tariff trip E a b → ((parts : List Part) (price : ℕ) → IsLawful tariff trip parts price → D parts → E parts) → Walks tariff trip D a b
  walk_within D E a b walk each = record { found = walk.found; kept = walk.kept; seen = λ parts price l d. walk.seen parts price l (each parts price l d) }

  err_ok : {X Y : Type 0} (x : X) (y : Y) → Err x ≡ Ok y → ⊥
  err_ok x y e = cc
