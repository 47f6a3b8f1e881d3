-- Sums of costs, one part on, and two equal costs.
use Rattle.std.proofs.Common.{◌≡◌, ℕ, ◌+◌, ◌<◌, ◌≤◌, Bool, true, false, eqb, List, [], ◌∷◌, length, get_or, drop, sum_by, refl, arith, add-one, drop-cons, slice_index}
use Rattle.std.specs.List.{list_any}
use Rattle.std.proofs.Math.ListN.{drop_of_length-le}
use Rattle.std.proofs.lemmas.List.Sums.{sum_by-cons}
use Rattle.fare_rules.specs.UnitPrice.{are_two_equal}

pub sum_left : (sum : ℕ) (cost : ℕ → ℕ) (own : List ℕ) (i : ℕ) → i < length own → sum + cost (get_or own i 0) + sum_by cost (drop (i + 1) own) ≡ sum + sum_by cost (drop i own)
sum_left sum cost own i h =
    let e : drop i own ≡ get_or own i 0 ∷ drop (i + 1) own = rw (add-one, drop-cons own i 0) refl in
    rw (e, sum_by-cons cost (get_or own i 0) (drop (i + 1) own)) (omega arith)

pub sum_done : (sum : ℕ) (cost : ℕ → ℕ) (own : List ℕ) (i : ℕ) → length own ≤ i → sum + sum_by cost (drop i own) ≡ sum
sum_done sum cost own i h = rw (drop_of_length-le own h) (omega arith)

-- two costs are equal or not
pub two_equal : (cost : ℕ → ℕ) (own : List ℕ) → length own ≡ 2 → are_two_equal cost own ≡ eqb (cost (slice_index own 0)) (cost (slice_index own 1))
two_equal cost [] h = absurd (omega arith)
two_equal cost (k ∷ []) h = absurd (omega arith)
two_equal cost (k ∷ next ∷ []) h = refl
two_equal cost (k ∷ next ∷ third ∷ rest) h = absurd (omega arith)

pub others_unequal : (cost : ℕ → ℕ) (own : List ℕ) → (length own ≡ 2 → ⊥) → are_two_equal cost own ≡ false
others_unequal cost [] h = refl
others_unequal cost (k ∷ []) h = refl
others_unequal cost (k ∷ next ∷ []) h = absurd (h refl)
others_unequal cost (k ∷ next ∷ third ∷ rest) h = refl

-- whether one of the places that are left passes a test, one place on
pub lacks_next : (test : ℕ → Bool) (own : List ℕ) (i : ℕ) → i < length own → test (get_or own i 0) ≡ false → list_any test (drop (i + 1) own) ≡ list_any test (drop i own)
lacks_next test own i h none =
    let e : drop i own ≡ get_or own i 0 ∷ drop (i + 1) own = rw (add-one, drop-cons own i 0) refl in
    rw (e, none) refl

pub lacks_past : (test : ℕ → Bool) (own : List ℕ) (i : ℕ) → i < length own → test (get_or own i 0) ≡ true → list_any test (drop i own) ≡ true
lacks_past test own i h some =
    let e : drop i own ≡ get_or own i 0 ∷ drop (i + 1) own = rw (add-one, drop-cons own i 0) refl in
    rw (e, some) refl

pub lacks_done : (test : ℕ → Bool) (own : List ℕ) (i : ℕ) → length own ≤ i → list_any test (drop i own) ≡ false
lacks_done test own i h = rw (drop_of_length-le own h) refl
