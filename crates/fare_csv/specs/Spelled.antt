-- What a text spells, as an edition that isn't yet checked.
use Rattle.std.specs.Prelude.{Bool, codes}
use Rattle.std.specs.Str.{bytes_eq}
use Rattle.fare_tariff.specs.Tariff.{Tariff}
use Rattle.fare_csv.specs.declared.read_text.Spelled.{Spelled}
use Rattle.fare_csv.specs.Fields.{field}
use Rattle.fare_csv.specs.Rows.{Fields}

-- a row is that of HEAD, by its first field
abbrev pub is_head : Fields → Bool
is_head row = bytes_eq (field row 0) (codes "HEAD")

-- a row is that of END, by its first field
abbrev pub is_end : Fields → Bool
is_end row = bytes_eq (field row 0) (codes "END")

-- the number, the effective day and the records of a text
abbrev pub spelled_tariff : Spelled → Tariff
spelled_tariff spelled =
    record { number = spelled.number; effective = spelled.effective; records = spelled.records.items }
