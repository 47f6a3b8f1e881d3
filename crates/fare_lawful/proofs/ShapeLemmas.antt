-- Shapes of units, one place on.
use Rattle.std.proofs.Common.{◌≡◌, ℕ, ◌+◌, ◌-◌, ◌<◌, ◌≤◌, Bool, true, false, List, [], ◌∷◌, length, get_or, drop, refl, ap, ◌∙◌, arith, ◌&&◌, ◌||◌, slice_index, add-one, drop-cons}
use Rattle.std.specs.List.{list_any}
use Rattle.std.proofs.lemmas.List.{length-drop}
use Rattle.fare_trip.specs.Itinerary.{Itinerary}
use Rattle.fare_tariff.specs.Tariff.{Tariff}
use Rattle.fare_rules.specs.declared.part.Part.{Part}
use Rattle.fare_rules.specs.Construction.{but_last}
use Rattle.fare_rules.specs.Shape.{is_chained, follows, is_jaw}
use Rattle.fare_lawful.specs.Shut.{has_gap_before}

-- what is left of a list begins with the element at the place
one_left : (own : List ℕ) (i : ℕ) → i < length own → drop i own ≡ get_or own i 0 ∷ drop (i + 1) own
one_left own i h = rw (add-one, drop-cons own i 0) refl

-- what is left of a list that has two more begins with them
two_left : (own : List ℕ) (i : ℕ) → i + 1 < length own → drop i own ≡ get_or own i 0 ∷ get_or own (i + 1) 0 ∷ drop (i + 1 + 1) own
two_left own i h = one_left own i (omega arith) ∙ ap (λ rest. get_or own i 0 ∷ rest) (one_left own (i + 1) h)

-- a list without two more is empty or has one
chained_short : (trip : Itinerary) (parts : List Part) (own : List ℕ) → length own ≤ 1 → is_chained trip parts own ≡ true
chained_short trip parts [] h = refl
chained_short trip parts (k ∷ []) h = refl
chained_short trip parts (k ∷ next ∷ rest) h = absurd (omega arith)

short_left : (own : List ℕ) (i : ℕ) → length own - 1 ≤ i → length (drop i own) ≤ 1
short_left own i h = omega (arith, length-drop i own)

-- what is left of a unit is chained where its first two are and what is left after the first
pub chained_next : (trip : Itinerary) (parts : List Part) (own : List ℕ) (i : ℕ) → i + 1 < length own → is_chained trip parts (drop i own) ≡ (follows trip parts (get_or own i 0) (get_or own (i + 1) 0) && is_chained trip parts (drop (i + 1) own))
chained_next trip parts own i h = rw (two_left own i h, one_left own (i + 1) h) refl

pub chained_past : (trip : Itinerary) (parts : List Part) (own : List ℕ) (i : ℕ) → length own - 1 ≤ i → is_chained trip parts (drop i own) ≡ true
chained_past trip parts own i h = chained_short trip parts (drop i own) (short_left own i h)

any_short : (test : ℕ → Bool) (own : List ℕ) → length own ≤ 1 → list_any test (but_last own) ≡ false
any_short test [] h = refl
any_short test (k ∷ []) h = refl
any_short test (k ∷ next ∷ rest) h = absurd (omega arith)

-- some of what is left but the last passes where the first does or some later one but the last
pub earlier_next : (test : ℕ → Bool) (own : List ℕ) (i : ℕ) → i + 1 < length own → list_any test (but_last (drop i own)) ≡ (test (get_or own i 0) || list_any test (but_last (drop (i + 1) own)))
earlier_next test own i h = rw (two_left own i h, one_left own (i + 1) h) refl

pub earlier_past : (test : ℕ → Bool) (own : List ℕ) (i : ℕ) → length own - 1 ≤ i → list_any test (but_last (drop i own)) ≡ false
earlier_past test own i h = any_short test (drop i own) (short_left own i h)

-- a unit of two places is that of just these
pub jaw_of_two : (tariff : Tariff) (trip : Itinerary) (parts : List Part) (own : List ℕ) → length own ≡ 2 → is_jaw tariff trip parts own ≡ is_jaw tariff trip parts (slice_index own 0 ∷ slice_index own 1 ∷ [])
jaw_of_two tariff trip parts [] h = absurd (omega arith)
jaw_of_two tariff trip parts (k ∷ []) h = absurd (omega arith)
jaw_of_two tariff trip parts (k ∷ next ∷ []) h = refl
jaw_of_two tariff trip parts (k ∷ next ∷ third ∷ rest) h = absurd (omega arith)

pub gap_before_two : (tariff : Tariff) (trip : Itinerary) (parts : List Part) (own : List ℕ) → length own ≡ 2 → has_gap_before tariff trip parts own ≡ has_gap_before tariff trip parts (slice_index own 0 ∷ slice_index own 1 ∷ [])
gap_before_two tariff trip parts [] h = absurd (omega arith)
gap_before_two tariff trip parts (k ∷ []) h = absurd (omega arith)
gap_before_two tariff trip parts (k ∷ next ∷ []) h = refl
gap_before_two tariff trip parts (k ∷ next ∷ third ∷ rest) h = absurd (omega arith)

pub gap_before_others : (tariff : Tariff) (trip : Itinerary) (parts : List Part) (own : List ℕ) → (length own ≡ 2 → ⊥) → has_gap_before tariff trip parts own ≡ false
gap_before_others tariff trip parts [] h = refl
gap_before_others tariff trip parts (k ∷ []) h = refl
gap_before_others tariff trip parts (k ∷ next ∷ []) h = absurd (h refl)
gap_before_others tariff trip parts (k ∷ next ∷ third ∷ rest) h = refl

-- and no other one is an open jaw
pub jaw_of_others : (tariff : Tariff) (trip : Itinerary) (parts : List Part) (own : List ℕ) → (length own ≡ 2 → ⊥) → is_jaw tariff trip parts own ≡ false
jaw_of_others tariff trip parts [] h = refl
jaw_of_others tariff trip parts (k ∷ []) h = refl
jaw_of_others tariff trip parts (k ∷ next ∷ []) h = absurd (h refl)
jaw_of_others tariff trip parts (k ∷ next ∷ third ∷ rest) h = refl
