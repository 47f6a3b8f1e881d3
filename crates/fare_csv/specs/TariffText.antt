-- A tariff text: HEAD, then records of the seven other kinds in any order, then END.
use Rattle.std.specs.Prelude.{ℕ, ◌+◌, List, [], ◌∷◌, Option, Some, None, Result, Ok, Err, codes, min, if◌then◌else◌}
use Rattle.std.specs.Str.{bytes_eq}
use Rattle.fare_records.specs.declared.record.Record.{Record}
use Rattle.fare_records.specs.declared.record.Record.TheVariants as filed
use Rattle.fare_tariff.specs.Tariff.{Tariff}
use Rattle.fare_tariff.specs.Check.{check_edition}
use Rattle.fare_tariff.specs.declared.check.check_fault.CheckFault.{CheckFault}
use Rattle.fare_csv.specs.declared.text_fault.TextFault.{TextFault}
use Rattle.fare_csv.specs.declared.text_fault.TextFault.TheVariants.{NoHeader, UnknownRecord, AfterEnd, NoEnd}
use Rattle.fare_csv.specs.declared.head.Version.{Version}
use Rattle.fare_csv.specs.declared.record_kind.RecordKind.{RecordKind}
use Rattle.fare_csv.specs.declared.record_kind.RecordKind.TheVariants as kind
use Rattle.fare_csv.specs.RecordKind.{kind_named}
use Rattle.fare_csv.specs.CheckedFault.{checked_fault}
use Rattle.fare_csv.specs.Rows.{Fields, rows_of}
use Rattle.fare_ports.specs.Memory.{◌>>=◌}
use Rattle.fare_csv.specs.Fields.{field, counted}
use Rattle.fare_csv.specs.Head.{head_of}
use Rattle.fare_csv.specs.RecordText.{allowance_of, city_of, currency_of, fare_of, mileage_of, pair_of, rule_of}

-- the number of the record behind another; a u32 stays at its last value
abbrev pub number_after : ℕ → ℕ
number_after number = min (number + 1) 4_294_967_295

-- a reading of one kind, as a record
abbrev pub filed_as : {A : Type 0} → (A → Record) → Result A TextFault → Result Record TextFault
filed_as kind reading = reading >>= (λ one. Ok (kind one))

-- a record of a kind, from the fields of its row
unfoldable pub record_of_kind : Version → ℕ → Fields → Option RecordKind → Result Record TextFault
record_of_kind version number fields None = Err (UnknownRecord number)
record_of_kind version number fields (Some kind.City) = filed_as filed.City (city_of number fields)
record_of_kind version number fields (Some kind.Cur) = filed_as filed.Cur (currency_of number fields)
record_of_kind version number fields (Some kind.Rule) = filed_as filed.Rule (rule_of number fields)
record_of_kind version number fields (Some kind.Fare) = filed_as filed.Fare (fare_of version number fields)
record_of_kind version number fields (Some kind.Mpm) = filed_as filed.Mpm (mileage_of number fields)
record_of_kind version number fields (Some kind.Tpm) = filed_as filed.Tpm (pair_of number fields)
record_of_kind version number fields (Some kind.Ema) = filed_as filed.Ema (allowance_of number fields)

-- the record that the fields of a row spell, by the first
unfoldable pub record_of : Version → ℕ → Fields → Result Record TextFault
record_of version number fields = record_of_kind version number fields (kind_named (field fields 0))

-- nothing stands after END
unfoldable pub nothing_after : ℕ → List Fields → Result (Unit {0}) TextFault
nothing_after number [] = Ok tt
nothing_after number (row ∷ rows) = Err (AfterEnd (number_after number))

-- END, with no further field and nothing after it
unfoldable pub end_of : ℕ → Fields → List Fields → Result (Unit {0}) TextFault
end_of number row rows = do
  _ ← counted number 1 row
  nothing_after number rows

-- a record, and the records after it
unfoldable pub followed_by : Result Record TextFault → Result (List Record) TextFault → Result (List Record) TextFault
followed_by first others = do
  one ← first
  more ← others
  Ok (one ∷ more)

-- no records, once END is in its form
unfoldable pub ended_by : Result (Unit {0}) TextFault → Result (List Record) TextFault
ended_by end = do
  _ ← end
  Ok []

-- the records up to END, of rows that begin with the record of a number
unfoldable pub records_of : Version → ℕ → List Fields → Result (List Record) TextFault
records_of version number [] = Err (NoEnd number)
records_of version number (row ∷ rows) =
    if bytes_eq (field row 0) (codes "END") then ended_by (end_of number row rows)
    else followed_by (record_of version number row) (records_of version (number_after number) rows)

-- HEAD and the records behind it, as an edition that isn't yet checked
unfoldable pub headed : Fields → List Fields → Result Tariff TextFault
headed row rows = do
  head ← head_of row
  records ← records_of head.version 2 rows
  Ok (record { number = head.number; effective = head.effective; records = records })

-- what rows spell: the first is HEAD
unfoldable pub tariff_of : List Fields → Result Tariff TextFault
tariff_of [] = Err NoHeader
tariff_of (row ∷ rows) = if bytes_eq (field row 0) (codes "HEAD") then headed row rows else Err NoHeader

-- an edition, or the fault of its check as that of a text
abbrev pub checked : Result Tariff CheckFault → Result Tariff TextFault
checked (Ok tariff) = Ok tariff
checked (Err fault) = Err (checked_fault fault)

-- the edition that a text stands for: what its rows spell, where the records have a place beside one another
unfoldable pub edition_of : List ℕ → Result Tariff TextFault
edition_of text = do
  tariff ← tariff_of (rows_of text)
  checked (check_edition tariff.number tariff.effective tariff.records)
