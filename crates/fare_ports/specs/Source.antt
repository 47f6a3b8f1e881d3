-- What was taken from a source by several reads.
use Rattle.std.specs.Prelude.{◌≡◌, ℕ, ◌≤◌, List, Option, length}
use Rattle.std.specs.Io.KnownBytes.{Consumes}

-- some first bytes of what was left were taken, at most this many
abbrev pub TakesUpTo : ℕ → Option (List ℕ) → Option (List ℕ) → Type 0
TakesUpTo most old new = (bytes : List ℕ) × Consumes old new bytes × (length bytes ≤ most)

-- just this many of the first bytes of what was left were taken
abbrev pub TakesJust : ℕ → Option (List ℕ) → Option (List ℕ) → Type 0
TakesJust count old new = (bytes : List ℕ) × Consumes old new bytes × (length bytes ≡ count)
