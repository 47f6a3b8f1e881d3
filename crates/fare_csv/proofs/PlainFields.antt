-- The texts of codes and numbers need no quotes.
use Rattle.std.proofs.Common.{◌≡◌, ◌<◌, ◌+◌, ◌^◌, ℕ, zero, suc, List, [], ◌∷◌, length, Bool, true, refl, arith}
use Rattle.std.specs.Prelude.{◌==◌, ◌&&◌, ◌/◌, ◌%◌, nat_le, decimal, slice_index}
use Rattle.std.specs.List.{list_all}
use Rattle.std.specs.Char.{is_ascii_digit, is_ascii_uppercase}
use Rattle.std.specs.Str.Parse.{AllDigits}
use Rattle.std.proofs.lemmas.Bool.{eqb-true}
use Rattle.std.proofs.Math.Nat.{div-le_self}
use Rattle.std.proofs.lemmas.Bool.Decides.{nat_tests}
use Rattle.std.proofs.lemmas.Fmt.{decimal_is_IsNumeral}
use Rattle.std.proofs.lemmas.List.Folds.{list_all-append}
use Rattle.std.proofs.lemmas.Str.Parse.{digit_from_value}
use Rattle.fare_codes.specs.Codes.{is_carrier, is_city, is_code_character, is_country, is_currency, is_rule_id}
use Rattle.fare_codes.specs.Day.{has_day_shape, has_month_day_shape, are_two_digits, is_digit_at, is_day, is_month_day}
use Rattle.fare_codes.specs.Words.{area_text, cabin_text, indicator_text, kind_text, mode_text}
use Rattle.fare_codes.specs.declared.area.Area.{Area}
use Rattle.fare_codes.specs.declared.area.Area.TheVariants.{One, Two, Three}
use Rattle.fare_codes.specs.declared.indicator.Indicator.{Indicator}
use Rattle.fare_codes.specs.declared.indicator.Indicator.TheVariants as i
use Rattle.fare_codes.specs.declared.cabin.Cabin.{Cabin}
use Rattle.fare_codes.specs.declared.cabin.Cabin.TheVariants as c
use Rattle.fare_codes.specs.declared.kind.Kind.{Kind}
use Rattle.fare_codes.specs.declared.kind.Kind.TheVariants as k
use Rattle.fare_codes.specs.declared.mode.Mode.{Mode}
use Rattle.fare_codes.specs.declared.mode.Mode.TheVariants as m
use Rattle.fare_codes.specs.Numbers.{decimal_text, last_digits, nuc_text, rate_text}
use Rattle.fare_csv.specs.Lines.{is_plain_byte, is_plain_field}
use Rattle.fare_csv.proofs.PlainLines.{both}

-- bytes that pass a test that only plain bytes pass
all-plain : (p : ℕ → Bool) → ((b : ℕ) → p b ≡ true → is_plain_byte b ≡ true) → (bytes : List ℕ) → list_all p bytes ≡ true → is_plain_field bytes ≡ true
all-plain p each [] all = refl
all-plain p each (b ∷ rest) all =
    let parts = both (p b) (list_all p rest) all in
    rw (each b parts.0) (all-plain p each rest parts.1)

uppercase-plain : (b : ℕ) → is_ascii_uppercase b ≡ true → is_plain_byte b ≡ true
uppercase-plain b h = grind (arith, nat_tests)

digit-plain : (b : ℕ) → is_ascii_digit b ≡ true → is_plain_byte b ≡ true
digit-plain b h = grind (arith, nat_tests)

character-plain : (b : ℕ) → is_code_character b ≡ true → is_plain_byte b ≡ true
character-plain b h = grind (arith, nat_tests)

pub city-plain : (bytes : List ℕ) → is_city bytes ≡ true → is_plain_field bytes ≡ true
city-plain bytes h = all-plain is_ascii_uppercase uppercase-plain bytes (both (length bytes == 3) (list_all is_ascii_uppercase bytes) h).1

pub country-plain : (bytes : List ℕ) → is_country bytes ≡ true → is_plain_field bytes ≡ true
country-plain bytes h = all-plain is_ascii_uppercase uppercase-plain bytes (both (length bytes == 2) (list_all is_ascii_uppercase bytes) h).1

pub currency-plain : (bytes : List ℕ) → is_currency bytes ≡ true → is_plain_field bytes ≡ true
currency-plain bytes h = all-plain is_ascii_uppercase uppercase-plain bytes (both (length bytes == 3) (list_all is_ascii_uppercase bytes) h).1

pub carrier-plain : (bytes : List ℕ) → is_carrier bytes ≡ true → is_plain_field bytes ≡ true
carrier-plain bytes h = all-plain is_code_character character-plain bytes (both (length bytes == 2) (list_all is_code_character bytes) h).1

pub rule_id-plain : (bytes : List ℕ) → is_rule_id bytes ≡ true → is_plain_field bytes ≡ true
rule_id-plain bytes h = all-plain is_code_character character-plain bytes (both (nat_le 1 (length bytes) && nat_le (length bytes) 8) (list_all is_code_character bytes) h).1

-- the digits of a number
digits-plain : (bytes : List ℕ) → AllDigits 10 bytes → is_plain_field bytes ≡ true
digits-plain [] h = refl
digits-plain (b ∷ rest) h =
    let range = digit_from_value b h.0 in
    let plain : is_plain_byte b ≡ true = grind (arith, nat_tests) in
    rw plain (digits-plain rest h.1)

pub decimal-plain : (n : ℕ) → n < 2 ^ 64 → is_plain_field (decimal n) ≡ true
decimal-plain n h = digits-plain (decimal n) (decimal_is_IsNumeral n h).0.1

-- the digits behind a point
last_digits-plain : (places n : ℕ) → is_plain_field (last_digits places n) ≡ true
unfolding last_digits
last_digits-plain zero n = refl
last_digits-plain (suc places) n =
    let last : is_plain_byte (48 + n % 10) ≡ true = grind (arith, nat_tests) in
    rw (list_all-append, last_digits-plain places (n / 10), last) refl

lt-div : (n d : ℕ) → n < 2 ^ 64 → n / d < 2 ^ 64
lt-div n d h = omega (arith, div-le_self n d)

decimal_text-plain : (places n : ℕ) → n < 2 ^ 64 → is_plain_field (decimal_text places n) ≡ true
unfolding decimal_text
decimal_text-plain places n h =
    let whole = decimal-plain (n / 10 ^ places) (lt-div n (10 ^ places) h) in
    rw (list_all-append, whole, last_digits-plain places n) refl

pub rate-plain : (n : ℕ) → n < 2 ^ 64 → is_plain_field (rate_text n) ≡ true
rate-plain n h = decimal_text-plain 6 n h

pub nuc-plain : (n : ℕ) → n < 2 ^ 64 → is_plain_field (nuc_text n) ≡ true
nuc-plain n h = decimal_text-plain 2 n h

-- a list that is plain at each index
plain-at : (bytes : List ℕ) → ((i : ℕ) → i < length bytes → is_plain_byte (slice_index bytes i) ≡ true) → is_plain_field bytes ≡ true
plain-at [] each = refl
plain-at (b ∷ rest) each = rw (each 0 (omega arith)) (plain-at rest (λ i h. each (suc i) (omega arith)))

hyphen-plain : (b : ℕ) → (b == 45) ≡ true → is_plain_byte b ≡ true
hyphen-plain b h = rw (eqb-true b 45 h) refl

-- two digits from a place on
first-digit : (text : List ℕ) (place : ℕ) → are_two_digits text place ≡ true → is_plain_byte (slice_index text place) ≡ true
first-digit text place h = digit-plain (slice_index text place) (both (is_digit_at text place) (is_digit_at text (place + 1)) h).0

second-digit : (text : List ℕ) (place : ℕ) → are_two_digits text place ≡ true → is_plain_byte (slice_index text (place + 1)) ≡ true
second-digit text place h = digit-plain (slice_index text (place + 1)) (both (is_digit_at text place) (is_digit_at text (place + 1)) h).1

-- the shape of a day of the year
record IsShapedFive (text : List ℕ) : Type 0 where
  size : length text ≡ 5
  month : are_two_digits text 0 ≡ true
  hyphen : (slice_index text 2 == 45) ≡ true
  day : are_two_digits text 3 ≡ true

shaped-five : (text : List ℕ) → has_month_day_shape text ≡ true → IsShapedFive text
unfolding has_month_day_shape
shaped-five text h =
    let p = both ((length text == 5) && are_two_digits text 0 && (slice_index text 2 == 45)) (are_two_digits text 3) h in
    let q = both ((length text == 5) && are_two_digits text 0) (slice_index text 2 == 45) p.0 in
    let r = both (length text == 5) (are_two_digits text 0) q.0 in
    record { size = eqb-true (length text) 5 r.0; month = r.1; hyphen = q.1; day = p.1 }

five-at : (text : List ℕ) (i : ℕ) → IsShapedFive text → i < 5 → is_plain_byte (slice_index text i) ≡ true
five-at text zero s h = first-digit text 0 s.month
five-at text (suc zero) s h = second-digit text 0 s.month
five-at text (suc (suc zero)) s h = hyphen-plain _ s.hyphen
five-at text (suc (suc (suc zero))) s h = first-digit text 3 s.day
five-at text (suc (suc (suc (suc zero)))) s h = second-digit text 3 s.day
five-at text (suc (suc (suc (suc (suc i))))) s h = absurd (omega arith)

-- the digits and the hyphen of a day of the year
pub month_day-plain : (text : List ℕ) → is_month_day text ≡ true → is_plain_field text ≡ true
month_day-plain text h =
    let s = shaped-five text (both (has_month_day_shape text) _ h).0 in
    plain-at text (λ i k. five-at text i s (omega (arith, s.size)))

-- the shape of a day
record IsShapedTen (text : List ℕ) : Type 0 where
  size : length text ≡ 10
  century : are_two_digits text 0 ≡ true
  year : are_two_digits text 2 ≡ true
  hyphen : (slice_index text 4 == 45) ≡ true
  month : are_two_digits text 5 ≡ true
  second_hyphen : (slice_index text 7 == 45) ≡ true
  day : are_two_digits text 8 ≡ true

shaped-ten : (text : List ℕ) → has_day_shape text ≡ true → IsShapedTen text
unfolding has_day_shape
shaped-ten text h =
    let a = both ((length text == 10) && are_two_digits text 0 && are_two_digits text 2 && (slice_index text 4 == 45) && are_two_digits text 5 && (slice_index text 7 == 45)) (are_two_digits text 8) h in
    let b = both ((length text == 10) && are_two_digits text 0 && are_two_digits text 2 && (slice_index text 4 == 45) && are_two_digits text 5) (slice_index text 7 == 45) a.0 in
    let c = both ((length text == 10) && are_two_digits text 0 && are_two_digits text 2 && (slice_index text 4 == 45)) (are_two_digits text 5) b.0 in
    let d = both ((length text == 10) && are_two_digits text 0 && are_two_digits text 2) (slice_index text 4 == 45) c.0 in
    let e = both ((length text == 10) && are_two_digits text 0) (are_two_digits text 2) d.0 in
    let f = both (length text == 10) (are_two_digits text 0) e.0 in
    record { size = eqb-true (length text) 10 f.0; century = f.1; year = e.1; hyphen = d.1; month = c.1; second_hyphen = b.1; day = a.1 }

ten-at : (text : List ℕ) (i : ℕ) → IsShapedTen text → i < 10 → is_plain_byte (slice_index text i) ≡ true
ten-at text zero s h = first-digit text 0 s.century
ten-at text (suc zero) s h = second-digit text 0 s.century
ten-at text (suc (suc zero)) s h = first-digit text 2 s.year
ten-at text (suc (suc (suc zero))) s h = second-digit text 2 s.year
ten-at text (suc (suc (suc (suc zero)))) s h = hyphen-plain _ s.hyphen
ten-at text (suc (suc (suc (suc (suc zero))))) s h = first-digit text 5 s.month
ten-at text (suc (suc (suc (suc (suc (suc zero)))))) s h = second-digit text 5 s.month
ten-at text (suc (suc (suc (suc (suc (suc (suc zero))))))) s h = hyphen-plain _ s.second_hyphen
ten-at text (suc (suc (suc (suc (suc (suc (suc (suc zero)))))))) s h = first-digit text 8 s.day
ten-at text (suc (suc (suc (suc (suc (suc (suc (suc (suc zero))))))))) s h = second-digit text 8 s.day
ten-at text (suc (suc (suc (suc (suc (suc (suc (suc (suc (suc i)))))))))) s h = absurd (omega arith)

-- the digits and hyphens of a day
pub day-plain : (text : List ℕ) → is_day text ≡ true → is_plain_field text ≡ true
day-plain text h =
    let s = shaped-ten text (both (has_day_shape text) _ h).0 in
    plain-at text (λ i k. ten-at text i s (omega (arith, s.size)))

-- the texts of small words
pub area-plain : (area : Area) → is_plain_field (area_text area) ≡ true
area-plain One = refl
area-plain Two = refl
area-plain Three = refl

pub indicator-plain : (ind : Indicator) → is_plain_field (indicator_text ind) ≡ true
indicator-plain i.WH = refl
indicator-plain i.EH = refl
indicator-plain i.AT = refl
indicator-plain i.PA = refl
indicator-plain i.AP = refl

pub cabin-plain : (cabin : Cabin) → is_plain_field (cabin_text cabin) ≡ true
cabin-plain c.F = refl
cabin-plain c.C = refl
cabin-plain c.Y = refl

pub kind-plain : (kind : Kind) → is_plain_field (kind_text kind) ≡ true
kind-plain k.OW = refl
kind-plain k.HR = refl

pub mode-plain : (mode : Mode) → is_plain_field (mode_text mode) ≡ true
mode-plain m.Up = refl
mode-plain m.Nearest = refl
