-- Pieces of a list that is gone through from the front.
use Rattle.std.proofs.Common.{◌≡◌, ℕ, ◌+◌, ◌-◌, List, ◌++◌, length, take, drop, sym, ◌∙◌, ap, arith, length-drop}
use Rattle.std.proofs.lemmas.List.{take_all, take-append-drop, drop-drop}

-- the slice from an index to the end
pub slice-end : (xs : List ℕ) (at : ℕ) → take (length xs - at) (drop at xs) ≡ drop at xs
slice-end xs at = take_all (length xs - at) (drop at xs) (omega (arith, length-drop at xs))

-- what is left, in front of what is left after a piece
pub drop-piece : (xs : List ℕ) (at count : ℕ) → drop at xs ≡ take count (drop at xs) ++ drop (at + count) xs
drop-piece xs at count =
    sym (take-append-drop count (drop at xs)) ∙ ap (λ rest. take count (drop at xs) ++ rest) (drop-drop count at xs)
