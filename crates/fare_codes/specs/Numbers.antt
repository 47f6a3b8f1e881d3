-- Numbers and decimals, and the one way in which each is written.
use Rattle.std.specs.Prelude.{ℕ, zero, suc, ◌+◌, ◌-◌, ◌/◌, ◌%◌, ◌^◌, Bool, not, List, [], ◌∷◌, ◌++◌, length, take, drop}
use Rattle.std.specs.Prelude.{slice_index, Option, Some, None, ◌==◌, ◌&&◌, ◌||◌, nat_lt, nat_le, decimal, if◌then◌else◌}
use Rattle.std.specs.List.{list_all}
use Rattle.std.specs.Char.{is_ascii_digit}
use Rattle.std.specs.Str.Parse.{digits_value}

-- a number is decimal digits with no zero in front; `0` itself is one
unfoldable pub is_number : List ℕ → Bool
is_number text =
    nat_lt 0 (length text) && list_all is_ascii_digit text && ((length text == 1) || not (slice_index text 0 == 48))

-- the number, at most so great, that the text writes
unfoldable pub read_number : ℕ → List ℕ → Option ℕ
read_number most text =
    if is_number text && nat_le (digits_value 10 text) most then Some (digits_value 10 text) else None

-- the part of a decimal with so many places that stands before its point
abbrev pub before_point : ℕ → List ℕ → List ℕ
before_point places text = take (length text - (places + 1)) text

-- the places behind its point
abbrev pub behind_point : ℕ → List ℕ → List ℕ
behind_point places text = drop (length text - places) text

-- a decimal is a number, a point and so many digits, in at most fourteen characters
unfoldable pub is_decimal : ℕ → List ℕ → Bool
is_decimal places text =
    nat_lt (places + 1) (length text) && nat_le (length text) 14 && is_number (before_point places text)
    && (slice_index text (length text - (places + 1)) == 46) && list_all is_ascii_digit (behind_point places text)

-- how often it has the unit of its last place: the number that its digits write without the point
unfoldable pub decimal_value : ℕ → List ℕ → ℕ
decimal_value places text = digits_value 10 (before_point places text ++ behind_point places text)

-- the decimal, in units of its last place, that the text writes
abbrev pub read_decimal : ℕ → List ℕ → Option ℕ
read_decimal places text = if is_decimal places text then Some (decimal_value places text) else None

-- so many last digits of a number
unfoldable pub last_digits : ℕ → ℕ → List ℕ
last_digits zero n = []
last_digits (suc places) n = last_digits places (n / 10) ++ (48 + n % 10) ∷ []

-- a number of units of the last place, written with a point before its last so many digits
unfoldable pub decimal_text : ℕ → ℕ → List ℕ
decimal_text places n = decimal (n / 10 ^ places) ++ 46 ∷ last_digits places n

-- an amount has two places, and so at most eleven digits before the point: its hundredths
abbrev pub read_nuc : List ℕ → Option ℕ
read_nuc text = read_decimal 2 text

-- the text of an amount
abbrev pub nuc_text : ℕ → List ℕ
nuc_text hundredths = decimal_text 2 hundredths

-- a rate has six places, and so at most seven digits before the point: its millionths
abbrev pub read_rate : List ℕ → Option ℕ
read_rate text = read_decimal 6 text

-- the text of a rate
abbrev pub rate_text : ℕ → List ℕ
rate_text millionths = decimal_text 6 millionths
