-- What the tests of a day's text say of its digits.
use Rattle.std.proofs.Common.{◌≡◌, ◌≤◌, ℕ, Bool, true, List, length, ◌&&◌, ◌==◌, nat_le, arith, pos, slice_index, get_or, sym, ◌<◌, ◌+◌}
use Rattle.std.proofs.lemmas.Bool.Decides.{nat_tests}
use Rattle.std.proofs.lemmas.Bool.{eqb-true}
use borrow.Author.Count.{below_none, below_more}
use Rattle.std.specs.List.{list_all}
use Rattle.std.specs.Char.{is_ascii}
use Rattle.fare_codes.specs.Day.{is_day, has_day_shape, is_civil, are_two_digits, two_digits, year_of, day_number, calendar_number}
use Rattle.jiff_core.specs.Calendar.{days_in_month}
use Rattle.fare_codes.proofs.TextLemmas.{both, ascii_from_reads}
use Rattle.fare_codes.proofs.DayLemmas.{days_from_civil-since}

-- each of seven tests holds
all_seven : (a b c d e f g : Bool) → (a && b && c && d && e && f && g) ≡ true
    → (a ≡ true) × (b ≡ true) × (c ≡ true) × (d ≡ true) × (e ≡ true) × (f ≡ true) × (g ≡ true)
all_seven a b c d e f g h = grind arith

-- the digits that stand in a day's text
pub digits_of_shape : (text : List ℕ) → has_day_shape text ≡ true
    → (length text ≡ 10) × (are_two_digits text 0 ≡ true) × (are_two_digits text 2 ≡ true) × (are_two_digits text 5 ≡ true) × (are_two_digits text 8 ≡ true)
unfolding has_day_shape
digits_of_shape text h =
    let parts = all_seven (length text == 10) (are_two_digits text 0) (are_two_digits text 2) (slice_index text 4 == 45) (are_two_digits text 5) (slice_index text 7 == 45) (are_two_digits text 8) h in
    let ten : length text ≡ 10 = eqb-true _ _ parts.0 in
    (ten, parts.1, parts.2, parts.4, parts.6)

-- the hyphens that stand in a day's text
pub hyphens_of_shape : (text : List ℕ) → has_day_shape text ≡ true → (slice_index text 4 ≡ 45) × (slice_index text 7 ≡ 45)
unfolding has_day_shape
hyphens_of_shape text h =
    let parts = all_seven (length text == 10) (are_two_digits text 0) (are_two_digits text 2) (slice_index text 4 == 45) (are_two_digits text 5) (slice_index text 7 == 45) (are_two_digits text 8) h in
    (eqb-true _ _ parts.3, eqb-true _ _ parts.5)

-- two digits are ASCII
pub digits_are_ascii : (text : List ℕ) (place : ℕ) → are_two_digits text place ≡ true → (get_or text place 0 < 128) × (get_or text (place + 1) 0 < 128)
digits_are_ascii text place h = (grind (arith, nat_tests), grind (arith, nat_tests))

-- a day's text is ASCII
pub day_is_ascii : (text : List ℕ) → is_day text ≡ true → list_all is_ascii text ≡ true
day_is_ascii text h =
    let shape = (both (has_day_shape text) (is_civil text) h).0 in
    let digits = digits_of_shape text shape in
    let hyphens = hyphens_of_shape text shape in
    let Low : ℕ → Type 0 = λ k. get_or text k 0 < 128 in
    let r0 = digits_are_ascii text 0 digits.1 in
    let r2 = digits_are_ascii text 2 digits.2 in
    let r5 = digits_are_ascii text 5 digits.3 in
    let r8 = digits_are_ascii text 8 digits.4 in
    let r4 : get_or text 4 0 < 128 = omega arith in
    let r7 : get_or text 7 0 < 128 = omega arith in
    let four = below_more Low 3 (below_more Low 2 (below_more Low 1 (below_more Low 0 (below_none Low) r0.0) r0.1) r2.0) r2.1 in
    let seven = below_more Low 6 (below_more Low 5 (below_more Low 4 four r4) r5.0) r5.1 in
    let ten = below_more Low 9 (below_more Low 8 (below_more Low 7 seven r7) r8.0) r8.1 in
    ascii_from_reads text (λ k below. ten k (omega arith))

-- the bounds that a civil date keeps
civil_bounds : (y m d n : ℕ) → (nat_le 1970 y && (nat_le 1 m && nat_le m 12 && nat_le 1 d && nat_le d n)) ≡ true → (1970 ≤ y) × (1 ≤ m) × (m ≤ 12) × (1 ≤ d) × (d ≤ n)
civil_bounds y m d n h = grind (arith, nat_tests)

-- the number of a day is that of the calendar
pub number_of_calendar : (text : List ℕ) → is_day text ≡ true → pos (day_number text) ≡ calendar_number text
unfolding day_number is_civil
number_of_calendar text h =
    let civil : is_civil text ≡ true = (both (has_day_shape text) (is_civil text) h).1 in
    let bounds = civil_bounds (year_of text) (two_digits text 5) (two_digits text 8) (days_in_month (pos (year_of text)) (two_digits text 5)) civil in
    sym (days_from_civil-since (year_of text) (two_digits text 5) (two_digits text 8) bounds.0 bounds.3)
