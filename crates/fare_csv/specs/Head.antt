-- HEAD: the version of the text, the number of the edition and its effective day.
use Rattle.std.specs.Prelude.{ℕ, List, codes, Option, Some, None, Result, Ok, if◌then◌else◌}
use Rattle.std.specs.Str.{bytes_eq}
use Rattle.fare_codes.specs.Day.{read_day}
use Rattle.fare_codes.specs.Numbers.{read_number}
use Rattle.fare_codes.specs.declared.limits.TheConstants.{LAST_EDITION}
use Rattle.fare_csv.specs.declared.text_fault.TextFault.{TextFault}
use Rattle.fare_csv.specs.declared.head.Version.{Version}
use Rattle.fare_csv.specs.declared.head.Version.TheVariants.{One, Two}
use Rattle.fare_csv.specs.declared.head.Head.{Head}
use Rattle.fare_csv.specs.Rows.{Fields}
use Rattle.fare_csv.specs.Numbers.{above_zero}
use Rattle.fare_ports.specs.Memory.{◌>>=◌}
use Rattle.fare_csv.specs.Fields.{field, counted, in_form}

-- the version that bytes spell
unfoldable pub read_version : List ℕ → Option Version
read_version bytes =
    if bytes_eq bytes (codes "1") then Some One
    else (if bytes_eq bytes (codes "2") then Some Two else None)

-- HEAD is the first record
unfoldable pub head_of : Fields → Result Head TextFault
head_of fields = do
  _ ← counted 1 4 fields
  version ← in_form 1 2 (read_version (field fields 1))
  number ← in_form 1 3 (above_zero (read_number LAST_EDITION (field fields 2)))
  effective ← in_form 1 4 (read_day (field fields 3))
  Ok (record { version = version; number = number; effective = effective })
