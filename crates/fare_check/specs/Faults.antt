-- The faults of a tariff text: where a record can't be read, that of each such record; else, of the records beside one
-- another, the least kind of each that has one.
use Rattle.std.specs.Prelude.{ℕ, ◌+◌, ◌-◌, Bool, true, false, List, [], ◌∷◌, ◌++◌, length, map, filter, slice_get}
use Rattle.std.specs.Prelude.{Option, Some, None, option_map, Result, Ok, Err, ◌==◌, ◌||◌, if◌then◌else◌}
use Rattle.std.specs.List.{range_with_len}
use Rattle.fare_records.specs.declared.record.Record.{Record}
use Rattle.fare_tariff.specs.Tariff.{Tariff}
use Rattle.fare_tariff.specs.Check.{fault_at}
use Rattle.fare_tariff.specs.Faulty.{has_kind_at}
use Rattle.fare_csv.specs.declared.text_fault.TextFault.{TextFault}
use Rattle.fare_csv.specs.declared.text_fault.TextFault.TheVariants.{NoHeader, AfterEnd, NoEnd}
use Rattle.fare_csv.specs.declared.head.Version.{Version}
use Rattle.fare_csv.specs.declared.head.Version.TheVariants.{One, Two}
use Rattle.fare_csv.specs.CheckedFault.{checked_fault}
use Rattle.fare_csv.specs.Fields.{field, counted}
use Rattle.fare_csv.specs.Head.{head_of, read_version}
use Rattle.fare_csv.specs.Rows.{Fields, rows_of}
use Rattle.fare_csv.specs.TariffText.{number_after, record_of, tariff_of}
use Rattle.fare_csv.specs.Spelled.{is_end, is_head}

-- a fault, and the row of the record that has it: none where it is a fault of no record
pub record Finding : Type 0 where
  pub fault : TextFault
  pub row : Option Fields

-- the version that a first row tells, whatever else is wrong with it; nothing leaves it open
unfoldable pub told_version : Fields → Option Version
told_version row = if is_head row then read_version (field row 1) else None

-- the version of a text by its first row
abbrev pub version_of : List Fields → Option Version
version_of [] = None
version_of (row ∷ rows) = told_version row

-- the version by which a row is read: where a text leaves it open, version 1 where the row has the nine fields of its
-- FARE, and else version 2
abbrev pub version_for : Option Version → Fields → Version
version_for (Some version) row = version
version_for None row = if length row == 9 then One else Two

-- the fault of a reading, if it has one
abbrev pub fault_in : {A : Type 0} → Result A TextFault → Option TextFault
fault_in (Ok value) = None
fault_in (Err fault) = Some fault

-- the fault of the first record: it has to be HEAD in its form
unfoldable pub head_fault : Fields → Option TextFault
head_fault row = if is_head row then fault_in (head_of row) else Some NoHeader

-- the fault of a later record that stands behind no END: it has to be END alone, or a record in its form
unfoldable pub record_fault : Option Version → ℕ → Fields → Option TextFault
record_fault version number row =
    if is_end row then fault_in (counted number 1 row) else fault_in (record_of (version_for version row) number row)

-- the fault of the record of a number, which behind END it has whatever it holds
unfoldable pub row_fault : Option Version → Bool → ℕ → Fields → Option TextFault
row_fault version true number row = Some (AfterEnd number)
row_fault version false number row = if number == 1 then head_fault row else record_fault version number row

-- the finding of a row, if it has a fault
abbrev pub of_row : Fields → Option TextFault → List Finding
of_row row None = []
of_row row (Some fault) = record { fault = fault; row = Some row } ∷ []

-- where the rows end there has to have been an END
abbrev pub at_end : Bool → ℕ → List Finding
at_end true number = []
at_end false number = record { fault = NoEnd number; row = None } ∷ []

-- the findings of rows from the record of a number on, behind END or not
unfoldable pub findings_from : Option Version → Bool → ℕ → List Fields → List Finding
findings_from version ended number [] = at_end ended number
findings_from version ended number (row ∷ rows) =
    of_row row (row_fault version ended number row)
    ++ findings_from version (ended || is_end row) (number_after number) rows

-- the faults of reading, each record's by itself; a text without a record has no HEAD
unfoldable pub reading_findings : List Fields → List Finding
reading_findings [] = record { fault = NoHeader; row = None } ∷ []
reading_findings (row ∷ rows) = findings_from (told_version row) false 1 (row ∷ rows)

-- the records that were read; none where there is a fault
abbrev pub read_or_none : Result Tariff TextFault → List Record
read_or_none (Ok tariff) = tariff.records
read_or_none (Err fault) = []

-- the records that rows spell; none where there is a fault of reading
abbrev pub filed_records : List Fields → List Record
filed_records rows = read_or_none (tariff_of rows)

-- the check faults of the rest of a list of records from a place on, with the rows of that rest: each record that has a
-- kind has one fault, of the least
unfoldable pub check_findings_from : List Record → ℕ → List Record → List Fields → List Finding
check_findings_from records place [] rows = []
check_findings_from records place (one ∷ rest) [] = []
check_findings_from records place (one ∷ rest) (row ∷ rows) =
    of_row row (option_map checked_fault (fault_at records place one))
    ++ check_findings_from records (place + 1) rest rows

-- the check faults of records that stand behind HEAD in these rows
abbrev pub check_findings : List Record → List Fields → List Finding
check_findings records [] = []
check_findings records (head ∷ rows) = check_findings_from records 0 records rows

-- the places, from one on, of the records of a list that have a check fault
unfoldable pub faulty_from : List Record → ℕ → List ℕ
faulty_from records place = filter (has_kind_at records) (range_with_len place (length records - place))

-- a place is the first of some
abbrev pub stands_first : List ℕ → ℕ → Bool
stands_first [] place = false
stands_first (first ∷ more) place = first == place

-- check faults count only where there is no fault of reading
abbrev pub unless_any : List Finding → List Finding → List Finding
unless_any [] others = others
unless_any (first ∷ more) others = first ∷ more

-- the findings of rows
unfoldable pub findings : List Fields → List Finding
findings rows = unless_any (reading_findings rows) (check_findings (filed_records rows) rows)

-- the fault of a finding
abbrev pub fault_found : Finding → TextFault
fault_found finding = finding.fault

-- every fault of a text, in the order of the records
abbrev pub faults_of : List ℕ → List TextFault
faults_of text = map fault_found (findings (rows_of text))

-- the first of some faults
abbrev pub first_of : List TextFault → Option TextFault
first_of faults = slice_get faults 0
