-- The check text: every fault of a tariff text in a line, or what the text stands for.
use Rattle.std.specs.Prelude.{ℕ, ◌-◌, List, [], ◌∷◌, ◌++◌, length, map, take, codes, decimal, Option, Some, None}
use Rattle.std.specs.Prelude.{Result, Ok, Err, ◌==◌, ◌&&◌, nat_le, if◌then◌else◌}
use Rattle.std.specs.List.{concat, join_with_byte}
use Rattle.fare_records.specs.declared.record.Record.{Record}
use Rattle.fare_tariff.specs.Tariff.{Tariff}
use Rattle.fare_csv.specs.declared.text_fault.TextFault.{TextFault}
use Rattle.fare_csv.specs.declared.head.Version.{Version}
use Rattle.fare_csv.specs.FaultText.{fault_text}
use Rattle.fare_csv.specs.Rows.{Fields, rows_of}
use Rattle.fare_csv.specs.TariffText.{edition_of}
use Rattle.fare_check.specs.declared.report.TheConstants.{MOST_BYTES, MOST_LINES}
use Rattle.fare_check.specs.Faults.{Finding, filed_records, findings, version_of}
use Rattle.fare_check.specs.Sentences.{sentence}

-- a byte as a line shows it: one that isn't printable ASCII as a question mark
abbrev pub shown_byte : ℕ → ℕ
shown_byte byte = if nat_le 32 byte && nat_le byte 126 then byte else 63

-- the text of a record: its fields joined by commas, as far as a line shows it
unfoldable pub record_text : Fields → List ℕ
record_text row = map shown_byte (take MOST_BYTES (join_with_byte 44 row))

-- the text of the record that has a fault, if one has it
abbrev pub row_text : Option Fields → List ℕ
row_text None = []
row_text (Some row) = codes "  " ++ record_text row

-- a row, or no field
abbrev pub row_or_none : Option Fields → Fields
row_or_none None = []
row_or_none (Some row) = row

-- the line of a finding, in a text of a version and with these records
unfoldable pub line_of : Option Version → List Record → Finding → List ℕ
line_of version records finding =
    fault_text finding.fault ++ row_text finding.row ++ codes "  "
    ++ sentence version records (row_or_none finding.row) finding.fault ++ codes "\n"

-- how many lines aren't shown, where there are some
unfoldable pub more_line : ℕ → List ℕ
more_line hidden = if hidden == 0 then [] else codes "MORE " ++ decimal hidden ++ codes "\n"

-- the first lines of some, and how many more there are
unfoldable pub lines_text : List (List ℕ) → List ℕ
lines_text lines = concat (take MOST_LINES lines) ++ more_line (length lines - MOST_LINES)

-- the lines of the findings of rows
abbrev pub finding_lines : List Fields → List (List ℕ)
finding_lines rows = map (line_of (version_of rows) (filed_records rows)) (findings rows)

-- an edition without a fault: its number, its effective day, and how many records it has
unfoldable pub checked_line : Tariff → List ℕ
checked_line tariff =
    codes "CHECKED " ++ decimal tariff.number ++ codes " " ++ tariff.effective ++ codes " "
    ++ decimal (length tariff.records) ++ codes "\n"

-- the same of the edition that a text stands for, if it does
abbrev pub checked_text : Result Tariff TextFault → List ℕ
checked_text (Ok tariff) = checked_line tariff
checked_text (Err fault) = []

-- lines, and where there is none another text
abbrev pub lines_or : List ℕ → List (List ℕ) → List ℕ
lines_or other [] = other
lines_or other (line ∷ lines) = lines_text (line ∷ lines)

-- the check text of a tariff text
unfoldable pub check_text : List ℕ → List ℕ
check_text text = lines_or (checked_text (edition_of text)) (finding_lines (rows_of text))
