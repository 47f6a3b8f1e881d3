-- What it is for a record to be read back from its row.
use Rattle.std.specs.Prelude.{ℕ, ◌≡◌, Bool, true, false, List, codes, Option, Some, None, Ok}
use Rattle.std.specs.List.{list_all}
use Rattle.std.specs.Str.{bytes_eq}
use Rattle.fare_codes.specs.Codes.{is_rule_id}
use Rattle.fare_records.specs.declared.names.Names.{Names}
use Rattle.fare_records.specs.declared.names.Names.TheVariants.{All, Of}
use Rattle.fare_records.specs.declared.record.Record.{Record}
use Rattle.fare_csv.specs.declared.head.Version.TheVariants.{Two}
use Rattle.fare_csv.specs.Lines.{is_plain_row}
use Rattle.fare_csv.specs.Fields.{field}
use Rattle.fare_csv.specs.TariffText.{record_of}
use Rattle.fare_csv.specs.CanonicalText.{head_row, record_row}
use Rattle.fare_csv.specs.Head.{head_of}
use Rattle.fare_codes.specs.declared.day.Day.{Day}

-- the row of a record needs no quotes, isn't END, and in version 2 is read as the record, whatever its number is
pub record ReadsBack (one : Record) : Type 0 where
  pub plain : is_plain_row (record_row one) ≡ true
  pub goes_on : bytes_eq (field (record_row one) 0) (codes "END") ≡ false
  pub reads : (number : ℕ) → record_of Two number (record_row one) ≡ Ok one

-- HEAD needs no quotes, and is read as version 2 with the number and the effective day
pub record HeadReadsBack (number : ℕ) (effective : Day) : Type 0 where
  pub plain : is_plain_row (head_row number effective) ≡ true
  pub reads : head_of (head_row number effective)
      ≡ Ok (record { version = Two; number = number; effective = effective })

-- a name of a list is the free rule, or a rule's id in its form
abbrev pub is_name : Option (List ℕ) → Bool
is_name None = true
is_name (Some id) = is_rule_id id

-- the names of a list are in their form
abbrev pub are_names : Names → Bool
are_names All = true
are_names (Of names) = list_all is_name names
