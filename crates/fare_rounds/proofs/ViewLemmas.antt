-- A fact of each pair of elements.
use Rattle.std.proofs.Common.{◌≡◌, ℕ, ◌<◌, suc, List, [], ◌∷◌, length, drop, get_or, arith, ◌∙◌}
use Rattle.std.proofs.lemmas.List.{take-append-le, take_all}
use Rattle.std.specs.List.{AllZip, refill}

-- what holds of the elements at each place holds of each pair
pub all-zip-from : {X : Type 0} (R : X → X → Type 0) (xs ys : List X) → length ys ≡ length xs
    → ((i : ℕ) (d : X) → i < length xs → R (get_or xs i d) (get_or ys i d)) → AllZip R xs ys
all-zip-from R [] [] same each = tt
all-zip-from R [] (y ∷ ys) same each = absurd (omega (arith, same))
all-zip-from R (x ∷ xs) [] same each = absurd (omega (arith, same))
all-zip-from R (x ∷ xs) (y ∷ ys) same each =
    (each 0 x (omega arith), all-zip-from R xs ys (omega (arith, same)) (λ i d below. each (suc i) d (omega (arith, below))))

-- elements that were all written over
pub refilled : {X : Type 0} (old new : List X) → length new ≡ length old → refill (length old) old new ≡ new
refilled old new same =
    take-append-le (length old) new (drop (length new) old) (omega (arith, same))
    ∙ take_all (length old) new (omega (arith, same))
