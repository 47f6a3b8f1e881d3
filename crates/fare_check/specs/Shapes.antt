-- The shapes of records: how many fields the record of each kind has, and which they are.
use Rattle.std.specs.Prelude.{ℕ, ◌-◌, List, [], ◌∷◌, length, slice_get, codes, Option, Some, None, option_map, ◌==◌}
use Rattle.std.specs.Prelude.{nat_le, if◌then◌else◌}
use Rattle.fare_csv.specs.declared.head.Version.{Version}
use Rattle.fare_csv.specs.declared.head.Version.TheVariants.{One, Two}
use Rattle.fare_csv.specs.declared.record_kind.RecordKind.{RecordKind}
use Rattle.fare_csv.specs.declared.record_kind.RecordKind.TheVariants as kind
use Rattle.fare_csv.specs.Fields.{field}
use Rattle.fare_csv.specs.RecordKind.{kind_named}
use Rattle.fare_csv.specs.Rows.{Fields}
use Rattle.fare_check.specs.declared.field_name.FieldName.{FieldName}
use Rattle.fare_check.specs.declared.field_name.FieldName.TheVariants as name
use Rattle.fare_check.specs.declared.shape.Shape.{Shape}
use Rattle.fare_check.specs.declared.shape.Shape.TheVariants as shape
use Rattle.fare_csv.specs.Spelled.{is_end, is_head}

-- the shape of a FARE by the version, or by its fields where a text leaves that open
abbrev pub fare_shape : Option Version → Fields → Shape
fare_shape (Some One) row = shape.FareOne
fare_shape (Some Two) row = shape.FareTwo
fare_shape None row =
    if length row == 9 then shape.FareOne else (if length row == 11 then shape.FareTwo else shape.FareOpen)

-- the shape of a record of a kind
abbrev pub kind_shape : Option Version → Fields → RecordKind → Shape
kind_shape version row kind.City = shape.City
kind_shape version row kind.Cur = shape.Cur
kind_shape version row kind.Rule = shape.Rule
kind_shape version row kind.Fare = fare_shape version row
kind_shape version row kind.Mpm = shape.Mpm
kind_shape version row kind.Tpm = shape.Tpm
kind_shape version row kind.Ema = shape.Ema

-- the shape of a row, by its first field
unfoldable pub shape_of : Option Version → Fields → Option Shape
shape_of version row =
    if is_head row then Some shape.Head
    else (if is_end row then Some shape.End else option_map (kind_shape version row) (kind_named (field row 0)))

-- a kind, as a sentence names it
abbrev pub shape_words : Shape → List ℕ
shape_words shape.Head = codes "HEAD"
shape_words shape.Cur = codes "CUR"
shape_words shape.City = codes "CITY"
shape_words shape.Rule = codes "RULE"
shape_words shape.FareOne = codes "FARE in version 1"
shape_words shape.FareTwo = codes "FARE in version 2"
shape_words shape.FareOpen = codes "FARE"
shape_words shape.Mpm = codes "MPM"
shape_words shape.Tpm = codes "TPM"
shape_words shape.Ema = codes "EMA"
shape_words shape.End = codes "END"

-- how many fields a record of a kind has
abbrev pub right_words : Shape → List ℕ
right_words shape.Head = codes "4"
right_words shape.Cur = codes "7"
right_words shape.City = codes "4"
right_words shape.Rule = codes "10"
right_words shape.FareOne = codes "9"
right_words shape.FareTwo = codes "11"
right_words shape.FareOpen = codes "9 or 11"
right_words shape.Mpm = codes "5"
right_words shape.Tpm = codes "4"
right_words shape.Ema = codes "6"
right_words shape.End = codes "1"

-- the fields of a record of a kind, from the second on
unfoldable pub fields_of : Shape → List FieldName
fields_of shape.Head = name.Version ∷ name.Number ∷ name.Effective ∷ []
fields_of shape.Cur = name.Country ∷ name.Currency ∷ name.Roe ∷ name.Decimals ∷ name.Unit ∷ name.Mode ∷ []
fields_of shape.City = name.Code ∷ name.Country ∷ name.Area ∷ []
fields_of shape.Rule =
    name.Id ∷ name.Stops ∷ name.Transfers ∷ name.Advance ∷ name.MinStay ∷ name.MaxStay ∷ name.Excess ∷ name.Units
    ∷ name.Ends ∷ []
fields_of shape.FareOne =
    name.From ∷ name.To ∷ name.Ind ∷ name.Carrier ∷ name.Class ∷ name.Kind ∷ name.Rule ∷ name.Amount ∷ []
fields_of shape.FareTwo =
    name.From ∷ name.To ∷ name.Ind ∷ name.Carrier ∷ name.Class ∷ name.Kind ∷ name.Rule ∷ name.First ∷ name.Last
    ∷ name.Amount ∷ []
fields_of shape.FareOpen = []
fields_of shape.Mpm = name.From ∷ name.To ∷ name.Ind ∷ name.Miles ∷ []
fields_of shape.Tpm = name.From ∷ name.To ∷ name.Miles ∷ []
fields_of shape.Ema = name.From ∷ name.To ∷ name.Ind ∷ name.Via ∷ name.Miles ∷ []
fields_of shape.End = []

-- the field of a number, from 2 on
unfoldable pub field_at : Shape → ℕ → Option FieldName
field_at kind number = if nat_le 2 number then slice_get (fields_of kind) (number - 2) else None
