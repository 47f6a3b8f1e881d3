-- Days and days of the year, as their texts.
use Rattle.std.specs.Prelude.{ℕ, ◌+◌, ◌*◌, ◌-◌, ◌/◌, ◌%◌, Bool, List, [], ◌∷◌, length, Option, ◌==◌, ◌&&◌, nat_le, slice_index, drop}
use Rattle.std.specs.Prelude.{ℤ, pos}
use Rattle.std.specs.Char.{is_ascii_digit}
use Rattle.jiff_core.specs.Calendar.{days_in_month, day_of_year, days_from_civil}
use Rattle.fare_codes.specs.Codes.{in_form}

-- the value of the digit at a place of a text
abbrev pub digit_at : List ℕ → ℕ → ℕ
digit_at text place = slice_index text place - 48

-- a place of a text holds a digit
abbrev pub is_digit_at : List ℕ → ℕ → Bool
is_digit_at text place = is_ascii_digit (slice_index text place)

-- the number of two digits from a place on
abbrev pub two_digits : List ℕ → ℕ → ℕ
two_digits text place = 10 * digit_at text place + digit_at text (place + 1)

-- two digits stand from a place on
abbrev pub are_two_digits : List ℕ → ℕ → Bool
are_two_digits text place = is_digit_at text place && is_digit_at text (place + 1)

-- a year has this month and this day of it
abbrev pub is_in_calendar : ℕ → ℕ → ℕ → Bool
is_in_calendar year month day =
    nat_le 1 month && nat_le month 12 && nat_le 1 day && nat_le day (days_in_month (pos year) month)

-- the year of a day's text
abbrev pub year_of : List ℕ → ℕ
year_of text = 100 * two_digits text 0 + two_digits text 2

-- digits and hyphens stand at the places of `YYYY-MM-DD`
unfoldable pub has_day_shape : List ℕ → Bool
has_day_shape text =
    (length text == 10) && are_two_digits text 0 && are_two_digits text 2 && (slice_index text 4 == 45)
    && are_two_digits text 5 && (slice_index text 7 == 45) && are_two_digits text 8

-- the digits of a text are a civil date from 1970 to 9999
unfoldable pub is_civil : List ℕ → Bool
is_civil text =
    nat_le 1970 (year_of text) && is_in_calendar (year_of text) (two_digits text 5) (two_digits text 8)

-- a day is `YYYY-MM-DD`, a civil date from 1970 to 9999
abbrev pub is_day : List ℕ → Bool
is_day text = has_day_shape text && is_civil text

-- the day that bytes spell
abbrev pub read_day : List ℕ → Option (List ℕ)
read_day bytes = in_form (is_day bytes) bytes

-- the leap years from the year 1 to the one before a year
abbrev pub leap_years_before : ℕ → ℕ
leap_years_before year = (year - 1) / 4 - (year - 1) / 100 + (year - 1) / 400

-- the days from 1970-01-01 to a date from then on: 365 for each year between, one more for each leap year among them,
-- and the days of the date's own year before it
unfoldable pub days_since_1970 : ℕ → ℕ → ℕ → ℕ
days_since_1970 year month day =
    365 * (year - 1970) + (leap_years_before year - leap_years_before 1970) + (day_of_year (pos year) month day - 1)

-- the days from 1970-01-01 to a day
unfoldable pub day_number : List ℕ → ℕ
day_number text = days_since_1970 (year_of text) (two_digits text 5) (two_digits text 8)

-- the number by which the calendar counts a day, 0 for 1970-01-01
abbrev pub calendar_number : List ℕ → ℤ
calendar_number text = days_from_civil (pos (year_of text)) (two_digits text 5) (two_digits text 8)

-- digits and a hyphen stand at the places of `MM-DD`
unfoldable pub has_month_day_shape : List ℕ → Bool
has_month_day_shape text =
    (length text == 5) && are_two_digits text 0 && (slice_index text 2 == 45) && are_two_digits text 3

-- a day of the year is `MM-DD`, a day that the year 2000 has
abbrev pub is_month_day : List ℕ → Bool
is_month_day text =
    has_month_day_shape text && is_in_calendar 2000 (two_digits text 0) (two_digits text 3)

-- the digit of a number from 0 to 9
abbrev pub digit_of : ℕ → ℕ
digit_of number = 48 + number

-- the text of a month and a day of it: two digits each, and a hyphen between them
abbrev pub month_day_text : ℕ → ℕ → List ℕ
month_day_text month day =
    digit_of (month / 10) ∷ digit_of (month % 10) ∷ 45 ∷ digit_of (day / 10) ∷ digit_of (day % 10) ∷ []

-- the day of the year that bytes spell
abbrev pub read_month_day : List ℕ → Option (List ℕ)
read_month_day bytes = in_form (is_month_day bytes) bytes

-- the day of the year of a day: its text without the year
abbrev pub month_day_of : List ℕ → List ℕ
month_day_of text = drop 5 text

-- the place of a day of the year among the others: 100 times its month and its day
abbrev pub place_in_year : List ℕ → ℕ
place_in_year text = 100 * two_digits text 0 + two_digits text 3
