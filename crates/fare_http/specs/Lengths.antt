-- The length of a body, as the fields of a head announce it. A field is its name and its value.
use Rattle.std.specs.Prelude.{◌≡◌, ℕ, ◌<◌, Bool, ◌&&◌, List, [], ◌∷◌, length, map, filter, Option, Some, None}
use Rattle.std.specs.Prelude.{Result, Ok, Err, if◌then◌else◌, nat_lt, nat_le, codes, ⊤}
use Rattle.std.specs.List.{list_all}
use Rattle.std.specs.Char.{is_ascii_digit}
use Rattle.std.specs.Str.{str_eq_ignore_ascii_case}
use Rattle.std.specs.Str.Parse.{digits_value}
use Rattle.httparse.specs.Spans.{IsWithin, span_bytes}
use Rattle.fare_ports.specs.declared.limits.TheConstants.{MOST_TEXT}
use Rattle.fare_http.specs.declared.lengths.BodyFault.{BodyFault}
use Rattle.fare_http.specs.declared.lengths.BodyFault.TheVariants.{Coded, BadLength, TooLong}
use Rattle.fare_http.specs.declared.lengths.Named.{Named}
use Rattle.fare_http.specs.declared.lengths.Named.TheVariants.{Absent, One, Several}

-- a field has this name, without regard to case
abbrev pub has_name : List ℕ → List ℕ × List ℕ → Bool
has_name name field = str_eq_ignore_ascii_case field.0 name

-- the values of the fields of this name
abbrev pub values_named : List ℕ → List (List ℕ × List ℕ) → List (List ℕ)
values_named name fields = map (λ field. field.1) (filter (has_name name) fields)

-- the number that the digits write, if it is at most the most
abbrev pub number_up_to : ℕ → List ℕ → Option ℕ
number_up_to most digits = if nat_le (digits_value 10 digits) most then Some (digits_value 10 digits) else None

-- a number that was read is a length, and none is too long
abbrev pub length_read : Option ℕ → Result ℕ BodyFault
length_read (Some number) = Ok number
length_read None = Err TooLong

-- the length that the values of the Content-Length fields give: none is 0, and two are bad, as is one that isn't
-- one or more digits
abbrev pub length_of : List (List ℕ) → Result ℕ BodyFault
length_of [] = Ok 0
length_of (value ∷ []) =
    if nat_lt 0 (length value) && list_all is_ascii_digit value
    then length_read (number_up_to MOST_TEXT value) else Err BadLength
length_of (value ∷ second ∷ more) = Err BadLength

-- the length, unless there is a Transfer-Encoding field, of which these are the values
abbrev pub uncoded : List (List ℕ) → Result ℕ BodyFault → Result ℕ BodyFault
uncoded [] length = length
uncoded (value ∷ more) length = Err Coded

-- the length of the body that these fields announce
abbrev pub body_length : List (List ℕ × List ℕ) → Result ℕ BodyFault
body_length fields =
    uncoded (values_named (codes "transfer-encoding") fields) (length_of (values_named (codes "content-length") fields))

-- the values of the fields of one name are none, this one, or several
abbrev pub AreNamed : List ℕ → Named → List (List ℕ) → Type 0
AreNamed taken Absent values = values ≡ []
AreNamed taken (One value) values = values ≡ span_bytes taken value ∷ []
AreNamed taken Several values = 1 < length values

-- the value, if there is one alone, lies in the first n bytes
abbrev pub IsOneWithin : ℕ → Named → Type 0
IsOneWithin n Absent = ⊤
IsOneWithin n (One value) = IsWithin n value
IsOneWithin n Several = ⊤
