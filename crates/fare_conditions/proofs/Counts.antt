-- How many numbers of a range pass a test, one number on.
use Rattle.std.proofs.Common.{◌≡◌, ℕ, ◌+◌, ◌<◌, ◌≤◌, Bool, true, false, cond, List, ◌∷◌, length, filter, ap, ◌∙◌, arith}
use Rattle.fare_rules.specs.Numbers.{numbers}
use Rattle.fare_rules.proofs.NumberLemmas.{numbers_next, numbers_none}

-- a number that passes counts
counted : (b : Bool) (n : ℕ) (rest : List ℕ) → length (cond b (n ∷ rest) rest) ≡ cond b 1 0 + length rest
counted true n rest = omega arith
counted false n rest = omega arith

-- as many pass in a range as in the rest, and one more where the first passes
pub count_next : (test : ℕ → Bool) (first past : ℕ) → first < past
    → length (filter test (numbers first past))
    ≡ cond (test first) 1 0 + length (filter test (numbers (first + 1) past))
count_next test first past h =
    ap (λ l. length (filter test l)) (numbers_next first past h) ∙ counted (test first) first (filter test (numbers (first + 1) past))

-- none passes in an empty range
pub count_done : (test : ℕ → Bool) (first past : ℕ) → past ≤ first → length (filter test (numbers first past)) ≡ 0
count_done test first past h = ap (λ l. length (filter test l)) (numbers_none first past h)
