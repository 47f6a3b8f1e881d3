-- The greatest of the amounts that are found for pairs of points.
use Rattle.std.proofs.Common.{◌≡◌, refl, ℕ, List, [], ◌∷◌, ◌++◌, max, arith}
use Rattle.std.specs.Prelude.{Option, Some, None, option_map}
use Rattle.std.specs.List.{cons_option}
use Rattle.fare_rules.specs.Base.{Compared, greatest_amount, with_amount}
use Rattle.fare_rules.specs.UnitPrice.{at_least}

-- an amount that is taken at first is taken at last
taken_first : (amount high : ℕ) (pairs : List Compared)
    → max high (greatest_amount amount pairs) ≡ greatest_amount (max amount high) pairs
taken_first amount high [] = omega arith
taken_first amount high (found ∷ pairs) =
    let rest = taken_first amount high pairs in
    omega (arith, rest)

-- an amount is taken apart from what was found
pub apart : (amount : ℕ) (pairs : List Compared) → greatest_amount amount pairs ≡ max amount (greatest_amount 0 pairs)
apart amount [] = omega arith
apart amount (found ∷ pairs) =
    let rest = apart amount pairs in
    omega (arith, rest)

-- the greatest of two lists
pub both : (first second : List Compared)
    → greatest_amount 0 (first ++ second) ≡ max (greatest_amount 0 first) (greatest_amount 0 second)
both [] second = omega arith
both (found ∷ first) second =
    let rest = both first second in
    omega (arith, rest)

-- what is found for a pair is taken
pub one_taken : (amount i j : ℕ) (found : Option ℕ) (pairs : List Compared)
    → greatest_amount amount (cons_option (option_map (with_amount i j) found) pairs)
    ≡ greatest_amount (at_least amount found) pairs
one_taken amount i j None pairs = refl
one_taken amount i j (Some high) pairs = taken_first amount high pairs

-- what is found for one pair is put before others, or behind them
pub put_first : (found : Option Compared) (pairs : List Compared)
    → greatest_amount 0 (cons_option found pairs)
    ≡ max (greatest_amount 0 (cons_option found [])) (greatest_amount 0 pairs)
put_first None pairs = omega arith
put_first (Some found) pairs = omega arith

-- the greater of what is found for one pair and of the others
pub at_least_apart : (found : Option ℕ) (pairs : List Compared)
    → greatest_amount (at_least 0 found) pairs ≡ at_least (greatest_amount 0 pairs) found
at_least_apart None pairs = refl
at_least_apart (Some high) pairs = omega (arith, apart (max 0 high) pairs)
