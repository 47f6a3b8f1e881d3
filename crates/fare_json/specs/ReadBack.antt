-- Values that are read back from their texts.
use Rattle.std.specs.Prelude.{◌≡◌, ◌≤◌, ℕ, Some}
use Rattle.json.specs.Tree as tree
use Rattle.serde_json.specs.Data.{Data}
use Rattle.serde_json.specs.Read.{of_json, read}
use Rattle.serde_json.specs.Written.{compact_text, outline}

-- a value is read back from its text as itself
abbrev pub IsReadBack : Data → Type 0
IsReadBack value = read (compact_text value) ≡ Some value

-- a value can be read back: its members stand in the order that a reader gives them, its numbers are numbers, and it
-- nests at most so deep
pub record IsReadable (most : ℕ) (value : Data) : Type 0 where
  pub reads : of_json (outline value) ≡ Some value
  pub numbers : tree.HasNumbers (outline value)
  pub shallow : tree.depth (outline value) ≤ most
