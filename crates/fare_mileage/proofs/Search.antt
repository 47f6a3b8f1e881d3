-- A search of a list of numbers, one number on.
use Rattle.std.proofs.Common.{◌≡◌, ℕ, ◌+◌, ◌<◌, ◌≤◌, Bool, cond, List, length, get_or, drop, Some, None, find}
use Rattle.std.proofs.lemmas.List.{at_drop_more, at_drop_all}

-- what is found in what is left of a list is its first number, or what is found in the rest
pub find_more : (test : ℕ → Bool) (xs : List ℕ) (i : ℕ) → i < length xs
    → find test (drop i xs) ≡ cond (test (get_or xs i 0)) (Some (get_or xs i 0)) (find test (drop (i + 1) xs))
find_more test xs i h = at_drop_more (find test) xs i 0 h

-- nothing is found past the end
pub find_all : (test : ℕ → Bool) (xs : List ℕ) (i : ℕ) → length xs ≤ i → find test (drop i xs) ≡ None
find_all test xs i h = at_drop_all (find test) xs i h
