-- Days of the year: the digits of their texts, and that each day of any year has one.
use Rattle.std.proofs.Common.{◌≡◌, ◌≤◌, ◌<◌, ◌+◌, ◌*◌, ◌-◌, ◌/◌, ◌%◌, ℕ, Bool, true, refl, List, [], ◌∷◌, length, take, drop, get_or, slice_index, ◌&&◌, ◌==◌, nat_le, arith, ℤ, pos, sym, subst}
use Rattle.std.proofs.lemmas.Grind.{common_steps}
use Rattle.std.proofs.lemmas.Bool.{eqb-true, eq-eqb}
use Rattle.std.proofs.lemmas.Bool.Decides.{nat_tests}
use Rattle.std.proofs.lemmas.List.{get_or-drop, length-drop}
use borrow.Author.Count.{below_none, below_more}
use Rattle.std.specs.List.{list_all}
use Rattle.std.specs.Char.{is_ascii, is_ascii_digit}
use Rattle.jiff_core.specs.Calendar.{days_in_month}
use Rattle.fare_codes.specs.Day.{is_day, is_civil, has_day_shape, has_month_day_shape, is_month_day, are_two_digits, two_digits, is_in_calendar, month_day_text, place_in_year, year_of}
use Rattle.fare_codes.proofs.TextLemmas.{both, ascii_from_reads}
use Rattle.fare_codes.proofs.DayTextLemmas.{digits_of_shape, hyphens_of_shape, digits_are_ascii}

-- each of four tests holds
all_four : (a b c d : Bool) → (a && b && c && d) ≡ true → (a ≡ true) × (b ≡ true) × (c ≡ true) × (d ≡ true)
all_four a b c d h = grind arith

-- the digits that stand in the text of a day of the year
pub digits_of_month_day : (text : List ℕ) → has_month_day_shape text ≡ true → (length text ≡ 5) × (are_two_digits text 0 ≡ true) × (are_two_digits text 3 ≡ true)
unfolding has_month_day_shape
digits_of_month_day text h =
    let parts = all_four (length text == 5) (are_two_digits text 0) (slice_index text 2 == 45) (are_two_digits text 3) h in
    let five : length text ≡ 5 = eqb-true _ _ parts.0 in
    (five, parts.1, parts.3)

-- the hyphen that stands in it
hyphen_of_month_day : (text : List ℕ) → has_month_day_shape text ≡ true → slice_index text 2 ≡ 45
unfolding has_month_day_shape
hyphen_of_month_day text h = eqb-true _ _ (all_four (length text == 5) (are_two_digits text 0) (slice_index text 2 == 45) (are_two_digits text 3) h).2

-- the text of a day of the year is ASCII
pub month_day_is_ascii : (text : List ℕ) → is_month_day text ≡ true → list_all is_ascii text ≡ true
month_day_is_ascii text h =
    let shape = (both _ _ h).0 in
    let digits = digits_of_month_day text shape in
    let hyphen = hyphen_of_month_day text shape in
    let Low : ℕ → Type 0 = λ k. get_or text k 0 < 128 in
    let r0 = digits_are_ascii text 0 digits.1 in
    let r3 = digits_are_ascii text 3 digits.2 in
    let r2 : get_or text 2 0 < 128 = omega arith in
    let five = below_more Low 4 (below_more Low 3 (below_more Low 2 (below_more Low 1 (below_more Low 0 (below_none Low) r0.0) r0.1) r2) r3.0) r3.1 in
    ascii_from_reads text (λ k below. five k (omega arith))

-- the month and the day are those of their text
pub month_in_text : (m d : ℕ) → two_digits (month_day_text m d) 0 ≡ m
month_in_text m d = omega arith

pub day_in_text : (m d : ℕ) → two_digits (month_day_text m d) 3 ≡ d
day_in_text m d = omega arith

-- the bounds of a digit
digit_bounds : (a : ℕ) → is_ascii_digit a ≡ true → (48 ≤ a) × (a ≤ 57)
digit_bounds a h = grind (arith, nat_tests)

-- a text of another length isn't that of a day of the year
not_five : (text : List ℕ) → (length text ≡ 5 → ⊥) → has_month_day_shape text ≡ true → ⊥
not_five text other h = other (digits_of_month_day text h).0

-- the two digits of a number below a hundred
digits_from : (a b : ℕ) → is_ascii_digit a ≡ true → is_ascii_digit b ≡ true → (48 + (10 * (a - 48) + (b - 48)) / 10 ≡ a) × (48 + (10 * (a - 48) + (b - 48)) % 10 ≡ b)
digits_from a b h k =
    let low : (48 ≤ a) × (a ≤ 57) = digit_bounds a h in
    let high : (48 ≤ b) × (b ≤ 57) = digit_bounds b k in
    (omega arith, omega arith)

-- five characters, of which the third is a hyphen and the others are digits
five_are : (a b c d e : ℕ) → is_ascii_digit a ≡ true → is_ascii_digit b ≡ true → c ≡ 45 → is_ascii_digit d ≡ true → is_ascii_digit e ≡ true
    → month_day_text (10 * (a - 48) + (b - 48)) (10 * (d - 48) + (e - 48)) ≡ a ∷ b ∷ c ∷ d ∷ e ∷ []
five_are a b c d e first second hyphen third fourth =
    let month = digits_from a b first second in
    let day = digits_from d e third fourth in
    rw (month.0, month.1, hyphen, day.0, day.1) refl

five_of : (text : List ℕ) → has_month_day_shape text ≡ true → month_day_text (two_digits text 0) (two_digits text 3) ≡ text
five_of (a ∷ b ∷ c ∷ d ∷ e ∷ []) h =
    let digits = digits_of_month_day (a ∷ b ∷ c ∷ d ∷ e ∷ []) h in
    let month = both (is_ascii_digit a) (is_ascii_digit b) digits.1 in
    let day = both (is_ascii_digit d) (is_ascii_digit e) digits.2 in
    five_are a b c d e month.0 month.1 (hyphen_of_month_day (a ∷ b ∷ c ∷ d ∷ e ∷ []) h) day.0 day.1
five_of [] h = absurd (not_five [] (λ e. omega (arith, e)) h)
five_of (a ∷ []) h = absurd (not_five (a ∷ []) (λ e. omega (arith, e)) h)
five_of (a ∷ b ∷ []) h = absurd (not_five (a ∷ b ∷ []) (λ e. omega (arith, e)) h)
five_of (a ∷ b ∷ c ∷ []) h = absurd (not_five (a ∷ b ∷ c ∷ []) (λ e. omega (arith, e)) h)
five_of (a ∷ b ∷ c ∷ d ∷ []) h = absurd (not_five (a ∷ b ∷ c ∷ d ∷ []) (λ e. omega (arith, e)) h)
five_of (a ∷ b ∷ c ∷ d ∷ e ∷ f ∷ others) h = absurd (not_five (a ∷ b ∷ c ∷ d ∷ e ∷ f ∷ others) (λ e. omega (arith, e)) h)

-- a text is that of its month and its day
pub text_of_digits : (text : List ℕ) → is_month_day text ≡ true → month_day_text (two_digits text 0) (two_digits text 3) ≡ text
text_of_digits text h = five_of text (both _ _ h).0

-- the place is told by the month and the day
pub place_of_text : (m d : ℕ) → place_in_year (month_day_text m d) ≡ 100 * m + d
place_of_text m d = omega (arith, month_in_text m d, day_in_text m d)

-- the bounds of a month and a day
month_bounds : (m d n : ℕ) → (nat_le 1 m && nat_le m 12 && nat_le 1 d && nat_le d n) ≡ true → (1 ≤ m) × (m ≤ 12) × (1 ≤ d) × (d ≤ n)
month_bounds m d n h = grind (arith, nat_tests)

-- no month is longer than in a leap year
days_in_month-leap : (y : ℤ) (m : ℕ) → days_in_month y m ≤ days_in_month (pos 2000) m
days_in_month-leap y m = grind (arith, nat_tests)

-- no month has more than 31 days
days_in_month-most : (m : ℕ) → days_in_month (pos 2000) m ≤ 31
days_in_month-most m = grind (arith, nat_tests)

-- the places of the year run from 101 to 1231
pub place_in_bounds : (text : List ℕ) → is_month_day text ≡ true → (101 ≤ place_in_year text) × (place_in_year text ≤ 1231)
place_in_bounds text h =
    let civil = (both (has_month_day_shape text) (is_in_calendar 2000 (two_digits text 0) (two_digits text 3)) h).1 in
    let bounds = month_bounds (two_digits text 0) (two_digits text 3) (days_in_month (pos 2000) (two_digits text 0)) civil in
    let most = days_in_month-most (two_digits text 0) in
    (omega arith, omega arith)

-- a day that a year has is a day that the year 2000 has
in_leap_year : (m d n k : ℕ) → n ≤ k → (nat_le 1 m && nat_le m 12 && nat_le 1 d && nat_le d n) ≡ true → (nat_le 1 m && nat_le m 12 && nat_le 1 d && nat_le d k) ≡ true
in_leap_year m d n k h civil = grind (arith, nat_tests)

-- two tests that hold
both_hold : (a b : Bool) → a ≡ true → b ≡ true → (a && b) ≡ true
both_hold a b h k = grind arith

-- four tests that hold
four_hold : (a b c d : Bool) → a ≡ true → b ≡ true → c ≡ true → d ≡ true → (a && b && c && d) ≡ true
four_hold a b c d h k l m = grind arith

-- equal months and days are the same day of the year
same_calendar : (m d m₂ d₂ : ℕ) → m ≡ m₂ → d ≡ d₂ → is_in_calendar 2000 m₂ d₂ ≡ true → is_in_calendar 2000 m d ≡ true
same_calendar m d m₂ d₂ e f h = rw (e, f) h

-- the text of a day without its year has the digits and the hyphen
shape_of_day : (text : List ℕ) → has_day_shape text ≡ true → has_month_day_shape (drop 5 text) ≡ true
unfolding has_month_day_shape
shape_of_day text h =
    let digits = digits_of_shape text h in
    let hyphens = hyphens_of_shape text h in
    let month : are_two_digits (drop 5 text) 0 ≡ true = simp get_or-drop digits.3 in
    let day : are_two_digits (drop 5 text) 3 ≡ true = simp get_or-drop digits.4 in
    let hyphen : slice_index (drop 5 text) 2 ≡ 45 = simp get_or-drop hyphens.1 in
    let five : length (drop 5 text) ≡ 5 = simp length-drop (omega arith) in
    four_hold (length (drop 5 text) == 5) (are_two_digits (drop 5 text) 0) (slice_index (drop 5 text) 2 == 45) (are_two_digits (drop 5 text) 3) (eq-eqb _ _ five) month (eq-eqb _ _ hyphen) day

-- and the year 2000 has that day
civil_of_day : (text : List ℕ) → is_civil text ≡ true → is_in_calendar 2000 (two_digits (drop 5 text) 0) (two_digits (drop 5 text) 3) ≡ true
unfolding is_civil
civil_of_day text h =
    let month : two_digits (drop 5 text) 0 ≡ two_digits text 5 = simp get_or-drop in
    let day : two_digits (drop 5 text) 3 ≡ two_digits text 8 = simp get_or-drop in
    let civil = (both (nat_le 1970 (year_of text)) (is_in_calendar (year_of text) (two_digits text 5) (two_digits text 8)) h).1 in
    same_calendar _ _ _ _ month day
    (in_leap_year (two_digits text 5) (two_digits text 8) (days_in_month (pos (year_of text)) (two_digits text 5)) (days_in_month (pos 2000) (two_digits text 5)) (days_in_month-leap (pos (year_of text)) (two_digits text 5)) civil)

-- the text of a day without its year is that of a day of the year
pub month_day_of_day : (text : List ℕ) → is_day text ≡ true → is_month_day (take (length text - 5) (drop 5 text)) ≡ true
month_day_of_day text h =
    let parts = both (has_day_shape text) (is_civil text) h in
    let whole : take (length text - 5) (drop 5 text) ≡ drop 5 text = grind (arith, common_steps) in
    let form : is_month_day (drop 5 text) ≡ true = both_hold _ _ (shape_of_day text parts.0) (civil_of_day text parts.1) in
    let P : List ℕ → Type 0 = λ v. is_month_day v ≡ true in
    subst P (sym whole) form
