-- Where a number stands between two limits.
use Rattle.std.specs.Prelude.{ℕ, ◌≤◌}

-- a number from the least to the most
abbrev pub IsBetween : ℕ → ℕ → ℕ → Type 0
IsBetween least most n = (least ≤ n) × (n ≤ most)
