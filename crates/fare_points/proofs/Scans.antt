-- Scans of a list of numbers, one number on.
use Rattle.std.proofs.Common.{◌≡◌, ℕ, ◌+◌, ◌<◌, ◌≤◌, Bool, true, false, List, length, get_or, drop, ◌||◌, ◌&&◌}
use Rattle.std.specs.List.{list_any, list_all}
use Rattle.std.proofs.lemmas.List.{at_drop_more, at_drop_all}

-- some number of what is left of a list passes: its first, or one of what is left after it
pub any_more : (test : ℕ → Bool) (xs : List ℕ) (i : ℕ) → i < length xs
    → list_any test (drop i xs) ≡ (test (get_or xs i 0) || list_any test (drop (i + 1) xs))
any_more test xs i h = at_drop_more (list_any test) xs i 0 h

-- no number past the end passes
pub any_all : (test : ℕ → Bool) (xs : List ℕ) (i : ℕ) → length xs ≤ i → list_any test (drop i xs) ≡ false
any_all test xs i h = at_drop_all (list_any test) xs i h

-- all numbers of what is left of a list pass: its first, and all of what is left after it
pub every_more : (test : ℕ → Bool) (xs : List ℕ) (i : ℕ) → i < length xs
    → list_all test (drop i xs) ≡ (test (get_or xs i 0) && list_all test (drop (i + 1) xs))
every_more test xs i h = at_drop_more (list_all test) xs i 0 h

-- all numbers past the end pass
pub every_all : (test : ℕ → Bool) (xs : List ℕ) (i : ℕ) → length xs ≤ i → list_all test (drop i xs) ≡ true
every_all test xs i h = at_drop_all (list_all test) xs i h
