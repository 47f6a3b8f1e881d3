-- A text in pieces of whole lines, of which each is read by itself.
use Rattle.std.specs.Prelude.{ℕ, ◌≡◌, true, ◌-◌, Bool, not, ◌==◌, ◌&&◌, List, [], ◌∷◌, codes, length, slice_get}
use Rattle.std.specs.Prelude.{Option, Some, None, Result, Ok}
use Rattle.std.specs.List.{list_all}
use Rattle.std.specs.Str.{bytes_eq}
use Rattle.fare_records.specs.declared.record.Record.{Record}
use Rattle.fare_csv.specs.declared.text_fault.TextFault.{TextFault}
use Rattle.fare_csv.specs.declared.head.Version.{Version}
use Rattle.fare_csv.specs.declared.head.Head.{Head}
use Rattle.fare_csv.specs.Rows.{Fields, rows_of}
use Rattle.fare_csv.specs.Fields.{field}
use Rattle.fare_csv.specs.Head.{head_of}
use Rattle.fare_csv.specs.TariffText.{followed_by, record_of}

-- a byte is no quotation mark
abbrev pub is_unquoted : ℕ → Bool
is_unquoted byte = not (byte == 34)

-- a first byte, if there is one, isn't that of a byte order mark
abbrev pub is_no_mark : Option ℕ → Bool
is_no_mark None = true
is_no_mark (Some byte) = not (byte == 239)

-- a text doesn't begin as a byte order mark does
unfoldable pub is_unmarked : List ℕ → Bool
is_unmarked text = is_no_mark (slice_get text 0)

-- a last byte, if there is one, is a line feed
abbrev pub is_line_feed : Option ℕ → Bool
is_line_feed None = true
is_line_feed (Some byte) = byte == 10

-- a text is empty or ends with a line feed
unfoldable pub ends_a_line : List ℕ → Bool
ends_a_line text = is_line_feed (slice_get text (length text - 1))

-- a text of whole lines that can be read by itself: without quotation marks, in which a line feed might stand, and
-- without a byte order mark, which has a meaning at the start of the whole text alone
unfoldable pub is_whole : List ℕ → Bool
is_whole text = is_unmarked text && (ends_a_line text && list_all is_unquoted text)

-- the records that rows spell, of which none is HEAD or END; in the faults each counts as the second record
unfoldable pub records_each : Version → List Fields → Result (List Record) TextFault
records_each version [] = Ok []
records_each version (row ∷ rows) = followed_by (record_of version 2 row) (records_each version rows)

-- a text of whole lines spells records, none of them HEAD or END
pub record IsRead (version : Version) (text : List ℕ) (records : List Record) : Type 0 where
  pub whole : is_whole text ≡ true
  pub reading : records_each version (rows_of text) ≡ Ok records

-- the only one of some rows is that of HEAD, in its form
pub record IsHeadAlone (rows : List Fields) (head : Head) : Type 0 where
  pub row : Fields
  pub only : rows ≡ row ∷ []
  pub named : bytes_eq (field row 0) (codes "HEAD") ≡ true
  pub reading : head_of row ≡ Ok head
