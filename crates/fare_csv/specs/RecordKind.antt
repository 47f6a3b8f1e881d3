-- The names of the kinds of records.
use Rattle.std.specs.Prelude.{ℕ, List, codes, Option, Some, None, if◌then◌else◌}
use Rattle.std.specs.Str.{bytes_eq}
use Rattle.fare_csv.specs.declared.record_kind.RecordKind.{RecordKind}
use Rattle.fare_csv.specs.declared.record_kind.RecordKind.TheVariants.{City, Cur, Rule, Fare, Mpm, Tpm, Ema}

-- the kind that a name is that of
unfoldable pub kind_named : List ℕ → Option RecordKind
kind_named name =
    if bytes_eq name (codes "CITY") then Some City
    else (if bytes_eq name (codes "CUR") then Some Cur
    else (if bytes_eq name (codes "RULE") then Some Rule
    else (if bytes_eq name (codes "FARE") then Some Fare
    else (if bytes_eq name (codes "MPM") then Some Mpm
    else (if bytes_eq name (codes "TPM") then Some Tpm
    else (if bytes_eq name (codes "EMA") then Some Ema else None))))))
