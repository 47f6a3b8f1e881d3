-- Places of parts.
use Rattle.std.specs.Prelude.{ℕ, ◌≤◌, List, length, All}
use Rattle.fare_rules.specs.declared.part.Part.{Part}

-- a number is the place of a part
abbrev pub IsPlace : List Part → ℕ → Type 0
IsPlace parts k = (1 ≤ k) × (k ≤ length parts)

-- numbers are places of parts
pub record ArePlaces (parts : List Part) (own : List ℕ) : Type 0 where
  pub all : All (IsPlace parts) own
