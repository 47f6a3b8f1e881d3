-- Ranges of numbers, and what is looked for among them.
use Rattle.std.specs.Prelude.{ℕ, zero, suc, ◌-◌, List, [], ◌∷◌, Option, None}
use Rattle.std.specs.List.{range_with_len}
use Rattle.std.specs.Option.{option_or}
use Rattle.fare_codes.specs.Amounts.{greater}

-- the numbers from a first one on and below another
abbrev pub numbers : ℕ → ℕ → List ℕ
numbers first past = range_with_len first (past - first)

-- the numbers from one down to 1
abbrev pub numbers_down : ℕ → List ℕ
numbers_down zero = []
numbers_down (suc n) = suc n ∷ numbers_down n

-- the greatest amount that the members of a list give, where one gives any
abbrev pub greatest_of : {A : Type 0} → (A → Option ℕ) → List A → Option ℕ
greatest_of amount [] = None
greatest_of amount (one ∷ rest) = greater (amount one) (greatest_of amount rest)

-- the first answer that is given in a list of answers
abbrev pub first_given : {A : Type 0} → List (Option A) → Option A
first_given [] = None
first_given (one ∷ rest) = option_or one (first_given rest)
