-- What was gathered from a range of numbers so far and what is left of it, one number on.
use Rattle.std.proofs.Common.{◌≡◌, ℕ, ◌+◌, ◌<◌, ◌≤◌, Bool, true, false, List, [], ◌∷◌, ◌++◌, max, filter, refl, ap, append_assoc, ◌∙◌, arith}
use Rattle.std.proofs.lemmas.List.{append-nil}
use Rattle.fare_rules.specs.declared.part.Part.{Part}
use Rattle.fare_rules.specs.Numbers.{numbers}
use Rattle.fare_rules.specs.Construction.{greatest_unit, unit_of}
use Rattle.fare_rules.proofs.NumberLemmas.{numbers_next, numbers_none, filter_next, filter_done}

-- the greatest unit so far and of the places that are left
pub greatest_more : (greatest : ℕ) (parts : List Part) (first past : ℕ) → first < past → max greatest (greatest_unit parts (numbers first past)) ≡ max (max greatest (unit_of parts first)) (greatest_unit parts (numbers (first + 1) past))
greatest_more greatest parts first past h =
    ap (λ left. max greatest (greatest_unit parts left)) (numbers_next first past h) ∙ omega arith

pub greatest_none : (parts : List Part) (first past : ℕ) → past ≤ first → greatest_unit parts (numbers first past) ≡ 0
greatest_none parts first past h = ap (greatest_unit parts) (numbers_none first past h)

-- what was kept so far and what is left to keep
pub filter_more : (kept : List ℕ) (test : ℕ → Bool) (first past : ℕ) → first < past → test first ≡ true → (kept ++ first ∷ []) ++ filter test (numbers (first + 1) past) ≡ kept ++ filter test (numbers first past)
filter_more kept test first past h passes = rw (append_assoc, filter_next test first past h, passes) refl

pub filter_over : (kept : List ℕ) (test : ℕ → Bool) (first past : ℕ) → first < past → test first ≡ false → kept ++ filter test (numbers (first + 1) past) ≡ kept ++ filter test (numbers first past)
filter_over kept test first past h fails = rw (filter_next test first past h, fails) refl

-- at the end of a range none is left to keep
pub filter_all : (kept : List ℕ) (test : ℕ → Bool) (first past : ℕ) → past ≤ first → kept ++ filter test (numbers first past) ≡ kept
filter_all kept test first past h = ap (λ more. kept ++ more) (filter_done test first past h) ∙ append-nil kept
