-- At most one construction is best.
use Rattle.std.proofs.Common.{◌≡◌, ℕ, ◌⊎◌, true, false, List, [], ◌∷◌, sym, subst, ◌∙◌, inl, inr, append-nil}
use Rattle.std.specs.Prelude.{None}
use Rattle.std.proofs.lemmas.Bool.{cases_Bool, both_ways}
use Rattle.fare_trip.specs.Itinerary.{Itinerary}
use Rattle.fare_tariff.specs.Tariff.{Tariff}
use Rattle.fare_rules.specs.declared.part.Part.{Part}
use Rattle.fare_rules.specs.Construction.{uncovered}
use Rattle.fare_rules.specs.Order.{is_before}
use Rattle.fare_rules.specs.Best.{IsBest}
use Rattle.fare_rules.proofs.OrderLemmas.{IsFront, before_tells, before_says, before_trans, before_itself, before_cases}
use Rattle.fare_rules.proofs.CoverLemmas.{IsCover, cover, cover_is_whole}
use Rattle.fare_rules.proofs.LawfulLemmas.{kept}

pub irreflexive : (xs : List Part) (price : ℕ) → is_before xs price xs price ≡ false
irreflexive xs price =
    elim (cases_Bool (is_before xs price xs price)) [
      | inl t ↦ absurd (before_itself xs price (before_tells xs xs price price t))
      | inr f ↦ f
    ]

pub transitive : (xs ys zs : List Part) (px py pz : ℕ) → is_before xs px ys py ≡ true → is_before ys py zs pz ≡ true
    → is_before xs px zs pz ≡ true
transitive xs ys zs px py pz a b =
    before_says xs zs px pz (before_trans xs ys zs px py pz (before_tells xs ys px py a) (before_tells ys zs py pz b))

-- of two lists that cover a trip, of which one is a front of the other, each is the other
same_cover : (trip : Itinerary) (xs ys : List Part) → IsCover trip xs → IsCover trip ys → IsFront xs ys → xs ≡ ys
same_cover trip xs ys a b (inl ([], e)) = sym (e ∙ append-nil xs)
same_cover trip xs ys a b (inl (next ∷ rest, e)) = absurd (cover_is_whole trip xs next rest a (subst (IsCover trip) e b))
same_cover trip xs ys a b (inr ([], e)) = e ∙ append-nil ys
same_cover trip xs ys a b (inr (next ∷ rest, e)) = absurd (cover_is_whole trip ys next rest b (subst (IsCover trip) e a))

pub total : (trip : Itinerary) (xs ys : List Part) (px py : ℕ) → uncovered trip xs ≡ None → uncovered trip ys ≡ None
    → (is_before xs px ys py ≡ true) ⊎ (is_before ys py xs px ≡ true) ⊎ ((xs ≡ ys) × (px ≡ py))
total trip xs ys px py a b =
    elim (before_cases xs ys px py) [
      | inl h ↦ inl (before_says xs ys px py h)
      | inr rest ↦ elim rest [
        | inl h ↦ inr (inl (before_says ys xs py px h))
        | inr (e, h) ↦ inr (inr (same_cover trip xs ys (cover trip xs a) (cover trip ys b) h, e))
      ]
    ]

pub one_best : (tariff : Tariff) (trip : Itinerary) (xs ys : List Part) (px py : ℕ) → IsBest tariff trip xs px
    → IsBest tariff trip ys py → (xs ≡ ys) × (px ≡ py)
one_best tariff trip xs ys px py a b =
    elim (total trip xs ys px py (kept tariff trip xs px a.lawful).cover (kept tariff trip ys py b.lawful).cover) [
      | inl h ↦ absurd (both_ways (is_before xs px ys py) (b.first xs px a.lawful) h)
      | inr rest ↦ elim rest [
        | inl h ↦ absurd (both_ways (is_before ys py xs px) (a.first ys py b.lawful) h)
        | inr same ↦ same
      ]
    ]
