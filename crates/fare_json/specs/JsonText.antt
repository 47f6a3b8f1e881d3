-- The text of a JSON answer.
use Rattle.std.specs.Prelude.{ℕ, List, ◌++◌, codes}
use Rattle.serde_json.specs.Data.{Data}
use Rattle.serde_json.specs.Written.{compact_text}

-- the compact text of the value, and LF
abbrev pub json_line : Data → List ℕ
json_line value = compact_text value ++ codes "\n"
