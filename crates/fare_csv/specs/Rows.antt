-- The rows of a text: its records of comma-separated values, from the first line on.
use Rattle.std.specs.Prelude.{ℕ, ◌+◌, List, [], length, Option, Some, None}
use Rattle.csv.specs.Reading.{default_config, records, records_from, strip_bom}
use Rattle.csv.specs.declared.parser.State.{State}

-- a row, as the bytes of its fields
abbrev pub Fields : Type 0
Fields = List (List ℕ)

-- the rows of a text, after a byte order mark at its start
unfoldable pub rows_of : List ℕ → List Fields
rows_of text = records default_config (strip_bom text)

-- the rows of what is left of a text where reading has come to a state
unfoldable pub rows_from : State → List ℕ → List Fields
rows_from state rest = records_from default_config (length rest + 1) state rest

-- the same, of a text that may be gone
unfoldable pub rows_if_known : State → Option (List ℕ) → List Fields
rows_if_known state None = []
rows_if_known state (Some rest) = rows_from state rest
