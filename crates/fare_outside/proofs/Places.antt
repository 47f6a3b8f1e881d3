-- What stands at a place of a list, and what stands there after a change.
use Rattle.std.proofs.Common.{◌≡◌, ℕ, ◌<◌, ◌≤◌, List, Option, Some, None, ◌++◌, length, get_or, set, take, drop}
use Rattle.std.proofs.Common.{slice_set, ap, ◌∙◌, arith}
use Rattle.std.proofs.Math.Seq.{take-append_seam}
use Rattle.std.proofs.lemmas.List.{get_or-set_same, length-set}
use Rattle.std.proofs.lemmas.Option.{slice_get-get_or}
use Rattle.fare_outside.specs.ListedDoor.{at_place}

-- the item that stands at a place
pub at_place-there : {A : Type 0} (place : Option ℕ) (p : ℕ) (xs : List A) (d : A) →
    place ≡ Some p → p < length xs → at_place place xs ≡ Some (get_or xs p d)
at_place-there place p xs d is within = rw is (slice_get-get_or xs p d within)

-- the item that was put at a place
pub at_place-set : {A : Type 0} (place : Option ℕ) (p : ℕ) (xs : List A) (y : A) →
    place ≡ Some p → p < length xs → at_place place (slice_set xs p y) ≡ Some y
at_place-set place p xs y is within =
    let inside : p < length (set xs p y) = omega (arith, length-set xs p y, within) in
    rw is (slice_get-get_or (set xs p y) p y inside ∙ ap (λ z. Some z) (get_or-set_same xs p y y within))

-- a list that was lent whole, and came back as long as it was
pub refilled : {A : Type 0} (n : ℕ) (xs ws : List A) → length ws ≡ n → take n (ws ++ drop (length ws) xs) ≡ ws
refilled n xs ws size = rw (← size) (take-append_seam ws (drop (length ws) xs))
