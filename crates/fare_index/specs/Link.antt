-- A place, or nothing, as one number.
use Rattle.std.specs.Prelude.{◌≡◌, ℕ, zero, suc, Option, Some, None, refl}

-- nothing is 0, and a place the number behind it
abbrev pub number_of : Option ℕ → ℕ
number_of None = 0
number_of (Some place) = suc place

-- what a number says: nothing, or a place
abbrev pub linked : ℕ → Option ℕ
linked zero = None
linked (suc place) = Some place

-- what a number says has that number
pub number_of-linked : (n : ℕ) → number_of (linked n) ≡ n
number_of-linked zero = refl
number_of-linked (suc place) = refl
