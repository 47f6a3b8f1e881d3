-- Ranges of numbers, one number on.
use Rattle.std.proofs.Common.{◌≡◌, ℕ, ◌+◌, ◌<◌, ◌≤◌, Bool, true, false, cond, List, ◌∷◌, Option, None, filter, refl, ap, ◌∙◌}
use Rattle.fare_rules.proofs.NumberLemmas.{numbers_next, numbers_none}
use Rattle.fare_codes.specs.Amounts.{greater}
use Rattle.fare_rules.specs.Numbers.{numbers, greatest_of}

-- a number that passes may give the greatest amount, and one that doesn't gives none
chosen : (b : Bool) (first : Option ℕ) (amount : ℕ → Option ℕ) (n : ℕ) (rest : List ℕ) → amount n ≡ first
    → greatest_of amount (cond b (n ∷ rest) rest) ≡ greater (cond b first None) (greatest_of amount rest)
chosen true first amount n rest e = ap (λ o. greater o (greatest_of amount rest)) e
chosen false first amount n rest e = refl

-- the greatest amount of the numbers of a range that pass is that of its first, where that passes, or one of the rest
pub greatest_next : (amount : ℕ → Option ℕ) (test : ℕ → Bool) (first past : ℕ) → first < past
    → greatest_of amount (filter test (numbers first past))
    ≡ greater (cond (test first) (amount first) None) (greatest_of amount (filter test (numbers (first + 1) past)))
greatest_next amount test first past h =
    ap (λ l. greatest_of amount (filter test l)) (numbers_next first past h)
    ∙ chosen (test first) (amount first) amount first (filter test (numbers (first + 1) past)) refl

-- an empty range gives no amount
pub greatest_none : (amount : ℕ → Option ℕ) (test : ℕ → Bool) (first past : ℕ) → past ≤ first
    → greatest_of amount (filter test (numbers first past)) ≡ None
greatest_none amount test first past h = ap (λ l. greatest_of amount (filter test l)) (numbers_none first past h)
