-- The text of rows that need no quotes.
use Rattle.std.specs.Prelude.{ℕ, Bool, false, not, List, [], ◌∷◌, ◌++◌, length, ◌==◌, ◌&&◌, nat_le, nat_lt}
use Rattle.std.specs.List.{join_with_byte, list_all}
use Rattle.fare_csv.specs.Rows.{Fields}

-- a byte that stands in a field as it is: printable ASCII but for the comma and the quotation mark
abbrev pub is_plain_byte : ℕ → Bool
is_plain_byte byte = nat_le 32 byte && nat_lt byte 127 && not (byte == 44) && not (byte == 34)

-- a field that is written as it is
abbrev pub is_plain_field : List ℕ → Bool
is_plain_field field = list_all is_plain_byte field

-- a row that is written as it is: each field is, and the first isn't empty
unfoldable pub is_plain_row : Fields → Bool
is_plain_row [] = false
is_plain_row (first ∷ others) = not (length first == 0) && is_plain_field first && list_all is_plain_field others

-- the line of a row: its fields with a comma between two of them, and LF
unfoldable pub line_of : Fields → List ℕ
line_of fields = join_with_byte 44 fields ++ (10 ∷ [])

-- the text of rows: their lines
unfoldable pub lines_of : List Fields → List ℕ
lines_of [] = []
lines_of (row ∷ rows) = line_of row ++ lines_of rows
