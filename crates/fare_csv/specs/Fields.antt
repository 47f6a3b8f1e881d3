-- The fields of a record, and what is wrong with the first that isn't in its form.
use Rattle.std.specs.Prelude.{ℕ, List, [], length, slice_index_or, Option, Result, Ok, Err, ◌==◌, if◌then◌else◌}
use Rattle.std.specs.Option.{ok_or}
use Rattle.fare_csv.specs.declared.text_fault.TextFault.{TextFault}
use Rattle.fare_csv.specs.declared.text_fault.TextFault.TheVariants.{BadRecord}
use Rattle.fare_csv.specs.Rows.{Fields}

-- the field at an index from 0, empty past the last
abbrev pub field : Fields → ℕ → List ℕ
field fields index = slice_index_or fields index []

-- a record has as many fields as its kind
unfoldable pub counted : ℕ → ℕ → Fields → Result (Unit {0}) TextFault
counted number count fields = if length fields == count then Ok tt else Err (BadRecord number 0)

-- what a field of a record spells, where it is in its form
abbrev pub in_form : {A : Type 0} → ℕ → ℕ → Option A → Result A TextFault
in_form number place found = ok_or found (BadRecord number place)
