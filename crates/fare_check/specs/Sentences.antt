-- The sentences that tell what is wrong with a record of a tariff text.
use Rattle.std.specs.Prelude.{ℕ, ◌-◌, List, [], ◌++◌, length, slice_index_or, codes, decimal, Option, Some, None}
use Rattle.std.specs.Prelude.{◌==◌, if◌then◌else◌}
use Rattle.std.specs.Option.{option_or}
use Rattle.std.specs.Str.{bytes_eq}
use Rattle.fare_codes.specs.Codes.{read_city}
use Rattle.fare_codes.specs.declared.city.City.{City}
use Rattle.fare_records.specs.declared.record.Record.{Record}
use Rattle.fare_tariff.specs.declared.check.check_kind.CheckKind.{CheckKind}
use Rattle.fare_tariff.specs.declared.check.check_kind.CheckKind.TheVariants as kind
use Rattle.fare_tariff.specs.Check.{is_unknown_city}
use Rattle.fare_csv.specs.declared.text_fault.TextFault.{TextFault}
use Rattle.fare_csv.specs.declared.text_fault.TextFault.TheVariants as fault
use Rattle.fare_csv.specs.declared.head.Version.{Version}
use Rattle.fare_csv.specs.Fields.{field}
use Rattle.fare_csv.specs.Rows.{Fields, rows_of}
use Rattle.fare_check.specs.declared.field_name.FieldName.{FieldName}
use Rattle.fare_check.specs.declared.shape.Shape.{Shape}
use Rattle.fare_check.specs.FieldNames.{name_words, form_words}
use Rattle.fare_check.specs.Shapes.{field_at, right_words, shape_of, shape_words}
use Rattle.fare_check.specs.Faults.{filed_records, version_of}

-- a record has another number of fields than its kind
abbrev pub count_sentence : ℕ → Option Shape → List ℕ
count_sentence count None = []
count_sentence count (Some shape) =
    codes "the number of fields is " ++ decimal count ++ codes ", and for " ++ shape_words shape ++ codes " it is "
    ++ right_words shape

-- the field of a number isn't in its form
abbrev pub form_sentence : ℕ → Option FieldName → List ℕ
form_sentence number None = []
form_sentence number (Some name) =
    codes "field " ++ decimal number ++ codes " (" ++ name_words name ++ codes ") has to be " ++ form_words name

-- the same, of a kind
abbrev pub field_sentence : ℕ → Option Shape → List ℕ
field_sentence number None = []
field_sentence number (Some shape) = form_sentence number (field_at shape number)

-- a record isn't in its form: its number of fields, or one of them
unfoldable pub bad_sentence : Option Version → Fields → ℕ → List ℕ
bad_sentence version row number =
    if number == 0 then count_sentence (length row) (shape_of version row)
    else field_sentence number (shape_of version row)

-- the field that may name a third city
abbrev pub via_field : Fields → List ℕ
via_field row = if bytes_eq (field row 0) (codes "EMA") then field row 4 else []

-- a city, where it has no CITY record
abbrev pub if_unknown : List Record → Option City → Option City
if_unknown records None = None
if_unknown records (Some city) = if is_unknown_city records city then Some city else None

-- the first of the cities that a row names which has no CITY record
unfoldable pub unknown_city : List Record → Fields → Option City
unknown_city records row =
    option_or (if_unknown records (read_city (field row 1)))
    (option_or (if_unknown records (read_city (field row 2))) (if_unknown records (read_city (via_field row))))

-- a city's letters
abbrev pub letters_of : Option City → List ℕ
letters_of None = []
letters_of (Some city) = city

-- what is wrong with a record among the others
unfoldable pub kind_sentence : List Record → Fields → CheckKind → List ℕ
kind_sentence records row (kind.Duplicate first) = codes "its key is that of record " ++ decimal first
kind_sentence records row kind.UnknownCity =
    codes "the city " ++ letters_of (unknown_city records row) ++ codes " has no CITY record"
kind_sentence records row kind.UnknownRule = codes "the rule " ++ field row 7 ++ codes " has no RULE record"
kind_sentence records row kind.UnknownCurrency = codes "the country " ++ field row 2 ++ codes " has no CUR record"
kind_sentence records row kind.TooManyFares =
    codes "64 earlier fares have its from, to and ind, and more aren't taken"
kind_sentence records row kind.SamePoint = codes "its two cities are equal"
kind_sentence records row kind.ZeroMileage = codes "its miles are 0"
kind_sentence records row kind.OutOfLimit = codes "400000 records stand before it, and more aren't taken"
kind_sentence records row (kind.Overlap first) =
    codes "its season shares a day with that of record " ++ decimal first
    ++ codes ", whose key is the same but for the season"

-- what is wrong with the record of a row, in a text of a version and with these records; empty for want of memory
unfoldable pub sentence : Option Version → List Record → Fields → TextFault → List ℕ
sentence version records row fault.Memory = []
sentence version records row fault.NoHeader = codes "the first record isn't HEAD"
sentence version records row (fault.UnknownRecord number) =
    codes "field 1 is none of CUR, CITY, RULE, FARE, MPM, TPM, EMA and END"
sentence version records row (fault.BadRecord number place) = bad_sentence version row place
sentence version records row (fault.AfterEnd number) = codes "the record stands behind END"
sentence version records row (fault.NoEnd number) = codes "the text has no END record"
sentence version records row (fault.Check number found) = kind_sentence records row found

-- the number of the record that has a fault; 0 for want of memory
abbrev pub number_of : TextFault → ℕ
number_of fault.Memory = 0
number_of fault.NoHeader = 1
number_of (fault.UnknownRecord number) = number
number_of (fault.BadRecord number place) = number
number_of (fault.AfterEnd number) = number
number_of (fault.NoEnd number) = number
number_of (fault.Check number found) = number

-- the row of the record of a number, from 1; without a field where there is none
abbrev pub row_at : List Fields → ℕ → Fields
row_at rows number = slice_index_or rows (number - 1) []

-- the number of the record that has a fault of a text, and the fault's sentence
unfoldable pub tariff_words : List ℕ → TextFault → List ℕ
tariff_words text found =
    codes "record " ++ decimal (number_of found) ++ codes ": "
    ++ sentence (version_of (rows_of text)) (filed_records (rows_of text)) (row_at (rows_of text) (number_of found))
    found
