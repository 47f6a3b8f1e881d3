-- How far a text that is no line could have become one.
use Rattle.std.specs.Prelude.{◌≡◌, ◌<◌, ◌≤◌, ℕ, true, List, ◌++◌, length, take}
use Rattle.fare_line.specs.Line.{CalculationLine, is_line}
use Rattle.fare_line.specs.LineText.{line_text}

-- the text of some line begins so
abbrev pub BeginsLine : List ℕ → Type 0
BeginsLine front = (line : CalculationLine) × (more : List ℕ) × (is_line line ≡ true) × (line_text line ≡ front ++ more)

-- so many first bytes begin the text of some line, and no greater number of them does
pub record IsLongestFront (bytes : List ℕ) (count : ℕ) : Type 0 where
  pub within : count ≤ length bytes
  pub begins : BeginsLine (take count bytes)
  pub longest : (more : ℕ) → count < more → more ≤ length bytes → BeginsLine (take more bytes) → ⊥
