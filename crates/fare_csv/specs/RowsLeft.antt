-- What a reader of a text in memory has left.
use Rattle.std.specs.Prelude.{ℕ, ◌≡◌, true, false, List, Option, Some}
use Rattle.std.specs.Borrow.{Bor}
use Rattle.csv.specs.Reading.{Ready, default_config, has_failed, is_flexible, reader_config, reader_state, reader_trim}
use Rattle.csv.specs.Reading.{source_of}
use Rattle.csv.specs.declared.reader.Reader.{Reader}
use Rattle.csv.specs.declared.reader.Trim.TheVariants as trim
use Rattle.fare_csv.specs.Rows.{Fields, rows_if_known}

-- the bytes that a slice has left
abbrev pub slice_rest : Bor (List ℕ) → Option (List ℕ)
slice_rest s = Some s.now

-- the rows that a reader has left: none once it has failed
abbrev pub rows_left : Reader (Bor (List ℕ)) → List Fields
rows_left reader = rows_if_known (reader_state reader) (source_of slice_rest reader)

-- a reader of rows of any length, with no header row and no trimming
pub record IsRowReader (reader : Reader (Bor (List ℕ))) : Type 0 where
  pub config : reader_config reader ≡ default_config
  pub trim : reader_trim reader ≡ trim.None
  pub flexible : is_flexible reader ≡ true
  pub ready : Ready reader

-- a reader that has not failed reads rows
abbrev pub IsRowReaderUnlessFailed : Reader (Bor (List ℕ)) → Type 0
IsRowReaderUnlessFailed reader = has_failed reader ≡ false → IsRowReader reader
