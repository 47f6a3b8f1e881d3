-- Days' texts and the calendar.
use Rattle.std.proofs.Common.{◌≡◌, ◌≤◌, ◌≤ℤ◌, ◌∙◌, ℕ, zero, suc, ◌+◌, ◌-◌, ◌*◌, ◌/◌, Bool, true, ◌&&◌, nat_le, arith, ap, ℤ, pos, unsigned_abs, Some, None, if◌then◌else◌}
use Rattle.std.proofs.lemmas.Grind.{common_steps}
use Rattle.std.proofs.lemmas.Bool.Decides.{nat_tests}
use Rattle.std.proofs.lemmas.Int.{ints}
use Rattle.jiff_core.specs.Calendar.{days_from_civil, days_in_month, days_of_years, day_count, IsDate, IsBetween}
use Rattle.jiff_core.specs.March.{march_days}
use Rattle.jiff_core.proofs.SignedLemmas.{signed_arith}
use Rattle.jiff_core.proofs.MarchLemmas.{march_days-suc, days_of_years-march_days}
use Rattle.jiff_core.proofs.CalendarLemmas.{days_from_civil-day_count}
use borrow.Author.Differences.{up, down}
use Rattle.fare_codes.specs.Day.{is_in_calendar, days_since_1970}

-- the tests of a date within its bounds
tests_in_bounds : (m d n : ℕ) → IsBetween (pos 1) (pos 12) (pos m) → IsBetween (pos 1) (pos n) (pos d) → (nat_le 1 m && nat_le m 12 && nat_le 1 d && nat_le d n) ≡ true
tests_in_bounds m d n h k =
    let a : 1 ≤ m = omega (arith, ints) in
    let b : m ≤ 12 = omega (arith, ints) in
    let e : 1 ≤ d = omega (arith, ints) in
    let f : d ≤ n = omega (arith, ints) in
    grind (arith, nat_tests)

-- a date that the calendar library has is in the calendar
in_calendar_from_date : (y m d : ℕ) → IsDate (pos y) (pos m) (pos d) → is_in_calendar y m d ≡ true
in_calendar_from_date y m d h = tests_in_bounds m d (days_in_month (pos y) m) h.1 h.2

-- a number in the calendar
found_number : (found : Bool) (number value : ℕ) → found ≡ true → number ≡ value → Some number ≡ (if found then Some value else None)
found_number found number value h e = grind (arith, common_steps)

-- every fourth century brings back the same leap years
leap_years_shift : (before : ℕ) → march_days (before + 10000) ≡ 365 * before + 3_650_000 + (before / 4 - before / 100 + before / 400) + 2425
leap_years_shift before = omega arith

-- the days of all years before one
days_of_years-before : (before : ℕ) → days_of_years (suc before + 10000) ≡ march_days (before + 10000) + 366
days_of_years-before before =
    let n : suc before + 10000 ≡ suc (before + 10000) = omega arith in
    rw n (omega (arith, days_of_years-march_days (suc (before + 10000)), march_days-suc (before + 10000)))

-- the calendar's count, by years
day_count-since : (year month day : ℕ) → 1970 ≤ year → 1 ≤ day → day_count (pos year) month day ≡ days_since_1970 year month day + 4_371_953
unfolding day_count days_since_1970
day_count-since zero month day h k = absurd (omega arith)
day_count-since (suc before) month day h k =
    let back : suc before - 1 ≡ before = omega arith in
    let years : days_of_years (suc before + 10000) ≡ 365 * before + 3_650_000 + (before / 4 - before / 100 + before / 400) + 2791 = omega (arith, days_of_years-before before, leap_years_shift before) in
    rw back (omega (arith, years))

-- a day number from its differences
from_count : (z : ℤ) (n : ℕ) → up z + 4_371_953 ≡ down z + (n + 4_371_953) → z ≡ pos n
from_count z n h = omega (arith, signed_arith)

-- the calendar counts the days since 1970-01-01
pub days_from_civil-since : (year month day : ℕ) → 1970 ≤ year → 1 ≤ day → days_from_civil (pos year) month day ≡ pos (days_since_1970 year month day)
days_from_civil-since year month day h k =
    from_count _ _ (days_from_civil-day_count (pos year) month day ∙ ap (λ n. down (days_from_civil (pos year) month day) + n) (day_count-since year month day h k))

-- the number of a date that the calendar library has
number_since : (y m d : ℕ) (year : ℤ) (month day : ℕ) → 1970 ≤ y → IsDate (pos y) (pos m) (pos d) → year ≡ pos y → pos month ≡ pos m → pos day ≡ pos d
    → days_from_civil year month day ≡ pos (days_since_1970 y m d)
number_since y m d year month day since civil e f g =
    let same : days_from_civil year month day ≡ days_from_civil (pos y) m d = cc in
    let one : 1 ≤ d = omega (arith, ints) in
    same ∙ days_from_civil-since y m d since one

-- what a look-up of such a date finds
pub day_found : (y m d : ℕ) (year : ℤ) (month day number : ℕ) → 1970 ≤ y → IsDate (pos y) (pos m) (pos d) → year ≡ pos y → pos month ≡ pos m → pos day ≡ pos d
    → number ≡ unsigned_abs (days_from_civil year month day)
    → Some number ≡ (if is_in_calendar y m d then Some (days_since_1970 y m d) else None)
day_found y m d year month day number since civil e f g is =
    found_number (is_in_calendar y m d) number _ (in_calendar_from_date y m d civil) (is ∙ ap unsigned_abs (number_since y m d year month day since civil e f g))

-- and that it is no later than the last day of the calendar
pub day_in_range : (y m d : ℕ) (year : ℤ) (month day number : ℕ) → 1970 ≤ y → IsDate (pos y) (pos m) (pos d) → year ≡ pos y → pos month ≡ pos m → pos day ≡ pos d
    → number ≡ unsigned_abs (days_from_civil year month day) → days_from_civil year month day ≤ℤ pos 2_932_896 → number ≤ 2_932_896
day_in_range y m d year month day number since civil e f g is low =
    let z = number_since y m d year month day since civil e f g in
    let below = rw z at low in
    let same : number ≡ days_since_1970 y m d = is ∙ ap unsigned_abs z in
    rw same (omega (arith, signed_arith, below))
