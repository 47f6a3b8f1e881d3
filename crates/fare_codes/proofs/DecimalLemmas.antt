-- Decimals and their digits.
use Rattle.std.proofs.Common.{◌≡◌, ◌∙◌, ◌<◌, ◌≤◌, ◌+◌, ◌-◌, ◌*◌, ◌/◌, ◌%◌, ◌^◌, ℕ, zero, suc, Bool, ◌&&◌, ◌==◌, nat_lt, nat_le, slice_index, decimal, List, [], ◌∷◌, ◌++◌, Some, length, take, drop, get_or, length-take-le, length-drop, take-append-drop, true, arith, refl, ap, sym, subst, append_assoc, length-append, add-one, append-nil, div-one, None, if◌then◌else◌}
use Rattle.std.proofs.lemmas.Grind.{common_steps}
use Rattle.std.proofs.Math.Nat.{div-div-eq-div-mul, pow-suc, pow-succ', div-lt_iff_lt-mul, div-le_self}
use Rattle.std.proofs.lemmas.Nat.{pow-add}
use Rattle.std.proofs.lemmas.Bool.{eqb-true, eq-eqb, ltb-true, leb-true, lt-ltb, le-leb}
use Rattle.std.proofs.lemmas.Fmt.{length-decimal-le, decimal_nonempty, digits_value-decimal}
use Rattle.std.proofs.lemmas.Int.Digits.{digits_value_push}
use Rattle.std.proofs.Math.Seq.{take-append_seam, drop-append-add, get_or-append_seam}
use Rattle.std.proofs.lemmas.List.{drop_more, take_more}
use Rattle.std.proofs.lemmas.List.Folds.{list_all-append}
use Rattle.std.proofs.lemmas.Str.Parse.{digits_value_short}
use Rattle.std.specs.List.{list_all}
use Rattle.std.specs.Char.{is_ascii_digit, digit_value}
use Rattle.std.specs.Str.Parse.{digits_value}
use Rattle.fare_codes.specs.Numbers.{is_number, is_decimal, before_point, behind_point, decimal_value, read_decimal, decimal_text, last_digits}
use Rattle.fare_codes.proofs.NumberLemmas.{digit_is, digit_range, is_digit_of, digits_model, number_is_digits, only_decimal, decimal_is_number, test_at}

-- no power of ten is zero
pub power_positive : (k : ℕ) → 0 < 10 ^ k
power_positive zero = omega arith
power_positive (suc k) = let more : 10 ^ suc k ≡ 10 ^ k * 10 = pow-suc 10 k in omega (arith, more, power_positive k)

-- a power of ten and the one before
power_step : (k : ℕ) → 0 < k → 10 ^ k ≡ 10 * 10 ^ (k - 1)
power_step zero h = absurd (omega arith)
power_step (suc k) h =
    let back : suc k - 1 ≡ k = omega arith in
    let more : 10 ^ suc k ≡ 10 ^ k * 10 = pow-suc 10 k in
    rw back (omega (arith, more))

-- the unit of the next place
pub next_unit : (unit places counter : ℕ) → unit ≡ 10 ^ (places - counter) → counter < places
    → (unit / 10 ≡ 10 ^ (places - (counter + 1))) × (0 < unit / 10) × (unit ≡ 10 * (unit / 10))
next_unit unit places counter e h =
    let one : places - counter - 1 ≡ places - (counter + 1) = omega arith in
    let step : 10 ^ (places - counter) ≡ 10 * 10 ^ (places - counter - 1) = power_step (places - counter) (omega arith) in
    let some : 0 < 10 ^ (places - counter - 1) = power_positive _ in
    let next : unit / 10 ≡ 10 ^ (places - counter - 1) = omega arith in
    (next ∙ ap (λ k. 10 ^ k) one, omega arith, omega arith)

-- no last digits
pub last_digits_none : (n : ℕ) → last_digits 0 n ≡ []
unfolding last_digits
last_digits_none n = refl

-- one more place
pub last_digits_more : (places n unit next : ℕ) → 0 < next → unit ≡ 10 * next → last_digits (places + 1) (n / next) ≡ last_digits places (n / unit) ++ (48 + n / next % 10) ∷ []
unfolding last_digits
last_digits_more places n unit next h e =
    let one : n / next / 10 ≡ n / unit = div-div-eq-div-mul n next 10 ∙ ap (λ d. n / d) (omega arith) in
    rw (add-one) (rw one)

-- there are as many last digits as places
pub length-last_digits : (places n : ℕ) → length (last_digits places n) ≡ places
unfolding last_digits
length-last_digits zero n = refl
length-last_digits (suc places) n = simp length-append (omega (arith, length-last_digits places (n / 10)))

-- each of five tests holds
all_five : (a b c d e : Bool) → (a && b && c && d && e) ≡ true → (a ≡ true) × (b ≡ true) × (c ≡ true) × (d ≡ true) × (e ≡ true)
all_five a b c d e h = grind arith

-- what the tests of a decimal say
pub record DecimalParts (places : ℕ) (text : List ℕ) : Type 0 where
  pub some : places + 1 < length text
  pub short : length text ≤ 14
  pub before : is_number (before_point places text) ≡ true
  pub point : get_or text (length text - (places + 1)) 0 ≡ 46
  pub behind : list_all is_ascii_digit (behind_point places text) ≡ true

pub decimal_parts : (places : ℕ) (text : List ℕ) → is_decimal places text ≡ true → DecimalParts places text
unfolding is_decimal
decimal_parts places text h =
    let tests = all_five (nat_lt (places + 1) (length text)) (nat_le (length text) 14) (is_number (before_point places text)) (slice_index text (length text - (places + 1)) == 46) (list_all is_ascii_digit (behind_point places text)) h in
    record {
      some = ltb-true _ _ tests.0;
      short = leb-true _ _ tests.1;
      before = tests.2;
      point = eqb-true _ _ tests.3;
      behind = tests.4;
    }

-- the digits of a decimal
decimal_digits : (places : ℕ) (text : List ℕ) → DecimalParts places text → list_all is_ascii_digit (before_point places text ++ behind_point places text) ≡ true
decimal_digits places text parts =
    let front = number_is_digits (before_point places text) parts.before in
    let back = parts.behind in
    grind (arith, list_all-append is_ascii_digit (before_point places text) (behind_point places text))

-- how many they are
length_digits : (places : ℕ) (text : List ℕ) → DecimalParts places text → length (before_point places text ++ behind_point places text) ≤ 13
length_digits places text parts =
    let some = parts.some in
    let short = parts.short in
    let front : length (take (length text - (places + 1)) text) ≡ length text - (places + 1) = length-take-le _ text (omega arith) in
    let back : length (drop (length text - places) text) ≡ length text - (length text - places) = length-drop _ text in
    simp length-append (omega arith)

-- a decimal is below 10 ^ 13 units
pub decimal_bound : (places : ℕ) (text : List ℕ) → is_decimal places text ≡ true → decimal_value places text < 10 ^ 13
unfolding decimal_value
decimal_bound places text h =
    let parts = decimal_parts places text h in
    digits_value_short digits_model (before_point places text ++ behind_point places text) 13 (decimal_digits places text parts) (length_digits places text parts)

-- the slice that the code takes behind the point
pub behind_is : (places : ℕ) (text : List ℕ) → places + 1 < length text
    → take (length text - (length text - (places + 1) + 1)) (drop (length text - (places + 1) + 1) text) ≡ behind_point places text
behind_is places text some =
    let next : length text - (places + 1) + 1 ≡ length text - places = omega arith in
    rw next (grind (arith, common_steps))

-- a text in three pieces
three_pieces : (places : ℕ) (text : List ℕ) → DecimalParts places text → text ≡ before_point places text ++ 46 ∷ behind_point places text
three_pieces places text parts =
    let some = parts.some in
    let next : length text - (places + 1) + 1 ≡ length text - places = omega arith in
    let at = drop_more text (length text - (places + 1)) 0 (omega arith) in
    let point = parts.point in
    let rest : drop (length text - (places + 1)) text ≡ 46 ∷ drop (length text - places) text = at ∙ ap (λ c. c ∷ drop (length text - (places + 1) + 1) text) point ∙ ap (λ k. 46 ∷ drop k text) next in
    sym (take-append-drop (length text - (places + 1)) text) ∙ ap (λ back. before_point places text ++ back) rest

-- one more digit behind others
last_of_more : (places : ℕ) (front back : List ℕ) (d : ℕ) → is_ascii_digit d ≡ true
    → last_digits places (digits_value 10 (front ++ back)) ≡ back → digits_value 10 (front ++ back) / 10 ^ places ≡ digits_value 10 front
    → (last_digits (suc places) (digits_value 10 (front ++ (back ++ d ∷ []))) ≡ back ++ d ∷ []) × (digits_value 10 (front ++ (back ++ d ∷ [])) / 10 ^ suc places ≡ digits_value 10 front)
unfolding last_digits
last_of_more places front back d digit last whole =
    let value : ℕ = digits_value 10 (front ++ (back ++ d ∷ [])) in
    let join : value ≡ digits_value 10 (front ++ back) * 10 + digit_value d = ap (digits_value 10) (sym (append_assoc front back (d ∷ []))) ∙ digits_value_push 10 (front ++ back) d in
    let is : digit_value d ≡ d - 48 = digit_is d digit in
    let range = digit_range d digit in
    let quotient : value / 10 ≡ digits_value 10 (front ++ back) = omega arith in
    let rest : 48 + value % 10 ≡ d = omega arith in
    let halves : value / 10 ^ suc places ≡ value / 10 / 10 ^ places = ap (λ k. value / k) (pow-succ' 10 places) ∙ sym (div-div-eq-div-mul value 10 (10 ^ places)) in (
      ap (λ q. last_digits places q ++ (48 + value % 10) ∷ []) quotient ∙ ap (λ front'. front' ++ (48 + value % 10) ∷ []) last ∙ ap (λ c. back ++ c ∷ []) rest,
      halves ∙ ap (λ q. q / 10 ^ places) quotient ∙ whole,
    )

-- digits behind others are the last digits of the number that they write together
last_of : (places : ℕ) (front back : List ℕ) → length back ≡ places → list_all is_ascii_digit back ≡ true
    → (last_digits places (digits_value 10 (front ++ back)) ≡ back) × (digits_value 10 (front ++ back) / 10 ^ places ≡ digits_value 10 front)
last_of zero front [] h digits = (last_digits_none _, div-one _ ∙ ap (digits_value 10) (append-nil front))
last_of zero front (c ∷ cs) h digits = absurd (omega arith)
last_of (suc places) front back h digits =
    let whole : back ≡ take places back ++ get_or back places 0 ∷ [] = grind (arith, common_steps, take_more back places 0) in
    let few : length (take places back) ≡ places = length-take-le places back (omega arith) in
    let tests = list_all-append is_ascii_digit (take places back) (get_or back places 0 ∷ []) in
    let front_digits : list_all is_ascii_digit (take places back) ≡ true = grind (arith, common_steps, tests, ap (list_all is_ascii_digit) whole) in
    let digit : is_ascii_digit (get_or back places 0) ≡ true = test_at is_ascii_digit back places (omega arith) digits in
    let before = last_of places front (take places back) few front_digits in
    let P : List ℕ → Type 0 = λ b. (last_digits (suc places) (digits_value 10 (front ++ b)) ≡ b) × (digits_value 10 (front ++ b) / 10 ^ suc places ≡ digits_value 10 front) in
    subst P (sym whole) (last_of_more places front (take places back) (get_or back places 0) digit before.0 before.1)

-- a decimal that is read is what is printed of it
pub only_decimal_text : (places : ℕ) (text : List ℕ) → is_decimal places text ≡ true → text ≡ decimal_text places (decimal_value places text)
unfolding decimal_value decimal_text
only_decimal_text places text h =
    let parts = decimal_parts places text h in
    let some = parts.some in
    let count : length (behind_point places text) ≡ places = length-drop (length text - places) text ∙ omega arith in
    let last = last_of places (before_point places text) (behind_point places text) count parts.behind in
    let digits = number_is_digits (before_point places text) parts.before in
    let short = parts.short in
    let long : length (before_point places text) ≡ length text - (places + 1) = length-take-le (length text - (places + 1)) text (omega arith) in
    let few : length (before_point places text) ≤ 13 = omega arith in
    let low : digits_value 10 (before_point places text) < 10 ^ 13 = digits_value_short digits_model (before_point places text) 13 digits few in
    let front : before_point places text ≡ decimal (digits_value 10 (before_point places text)) = only_decimal (before_point places text) parts.before (omega arith) in
    three_pieces places text parts ∙ ap (λ b. before_point places text ++ 46 ∷ b) (sym last.0)
    ∙ ap (λ f. f ++ 46 ∷ last_digits places (digits_value 10 (before_point places text ++ behind_point places text))) (front ∙ ap decimal (sym last.1))

-- the part before the point has at most so many digits
pub length_whole : (places n : ℕ) → places ≤ 6 → n < 10 ^ 13 → length (decimal (n / 10 ^ places)) ≤ 13 - places
length_whole places n few small =
    let some : 0 < 10 ^ places = power_positive places in
    let all : 13 - places + places ≡ 13 = omega arith in
    let split : 10 ^ (13 - places) * 10 ^ places ≡ 10 ^ 13 = sym (pow-add 10 (13 - places) places) ∙ ap (λ k. 10 ^ k) all in
    let below : n / 10 ^ places < 10 ^ (13 - places) = (div-lt_iff_lt-mul {k = 10 ^ places} {x = n} {y = 10 ^ (13 - places)} some).1 (rw split small) in
    let low : n / 10 ^ places ≤ n = div-le_self n (10 ^ places) in
    length-decimal-le (13 - places) (n / 10 ^ places) (omega arith) below (omega arith)

-- the last digits are digits
last_digits_are_digits : (places n : ℕ) → list_all is_ascii_digit (last_digits places n) ≡ true
unfolding last_digits
last_digits_are_digits zero n = refl
last_digits_are_digits (suc places) n =
    let digit : is_ascii_digit (48 + n % 10) ≡ true = is_digit_of (n % 10) (omega arith) in
    grind (arith, common_steps, list_all-append is_ascii_digit (last_digits places (n / 10)) ((48 + n % 10) ∷ []), last_digits_are_digits places (n / 10))

-- a number's last digits behind the digits of the rest write the number
value_last : (places n : ℕ) (front : List ℕ) → digits_value 10 front ≡ n / 10 ^ places → digits_value 10 (front ++ last_digits places n) ≡ n
unfolding last_digits
value_last zero n front h = ap (digits_value 10) (append-nil front) ∙ h ∙ div-one n
value_last (suc places) n front h =
    let halves : n / 10 ^ suc places ≡ n / 10 / 10 ^ places = ap (λ k. n / k) (pow-succ' 10 places) ∙ sym (div-div-eq-div-mul n 10 (10 ^ places)) in
    let before = value_last places (n / 10) front (h ∙ halves) in
    let digit : digit_value (48 + n % 10) ≡ 48 + n % 10 - 48 = digit_is (48 + n % 10) (is_digit_of (n % 10) (omega arith)) in
    let join = ap (digits_value 10) (sym (append_assoc front (last_digits places (n / 10)) ((48 + n % 10) ∷ []))) ∙ digits_value_push 10 (front ++ last_digits places (n / 10)) (48 + n % 10) in
    join ∙ omega arith

-- five tests that hold
five_hold : (a b c d e : Bool) → a ≡ true → b ≡ true → c ≡ true → d ≡ true → e ≡ true → (a && b && c && d && e) ≡ true
five_hold a b c d e h k l m n = grind arith

-- what is in its form is read
read_when : (form : Bool) (value n : ℕ) → form ≡ true → value ≡ n → (if form then Some value else None) ≡ Some n
read_when form value n h e = grind (arith, common_steps)

-- a number, a point and digits are a decimal
decimal_from : (places n : ℕ) (front back : List ℕ) → places ≤ 6 → length back ≡ places → 0 < length front → length front ≤ 13 - places → is_number front ≡ true
    → list_all is_ascii_digit back ≡ true → digits_value 10 (front ++ back) ≡ n → read_decimal places (front ++ 46 ∷ back) ≡ Some n
unfolding is_decimal decimal_value
decimal_from places n front back few count some short number digits value =
    let long : length (front ++ 46 ∷ back) ≡ length front + (places + 1) = simp length-append (omega arith) in
    let text : List ℕ = front ++ 46 ∷ back in
    let at : length text - (places + 1) ≡ length front = omega arith in
    let after : length text - places ≡ length front + 1 = omega arith in
    let before : before_point places text ≡ front = ap (λ k. take k text) at ∙ take-append_seam front (46 ∷ back) in
    let behind : behind_point places text ≡ back = ap (λ k. drop k text) after ∙ drop-append-add front (46 ∷ back) 1 in
    let point : slice_index text (length text - (places + 1)) ≡ 46 = ap (λ k. get_or text k 0) at ∙ get_or-append_seam front 46 back 0 in
    let some_bytes : nat_lt (places + 1) (length text) ≡ true = lt-ltb _ _ (omega arith) in
    let short_bytes : nat_le (length text) 14 ≡ true = le-leb _ _ (omega arith) in
    let form = five_hold (nat_lt (places + 1) (length text)) (nat_le (length text) 14) (is_number (before_point places text)) (slice_index text (length text - (places + 1)) == 46) (list_all is_ascii_digit (behind_point places text))
    some_bytes short_bytes (ap is_number before ∙ number) (eq-eqb _ _ point) (ap (list_all is_ascii_digit) behind ∙ digits) in
    let reads = ap (λ a. digits_value 10 (a ++ behind_point places text)) before ∙ ap (λ b. digits_value 10 (front ++ b)) behind ∙ value in
    read_when _ _ n form reads

-- what is printed of a decimal is read back
pub decimal_read_back : (places n : ℕ) → places ≤ 6 → n < 10 ^ 13 → read_decimal places (decimal_text places n) ≡ Some n
unfolding decimal_text
decimal_read_back places n few small =
    let low : n / 10 ^ places ≤ n = div-le_self n (10 ^ places) in
    let fits : n / 10 ^ places < 2 ^ 64 = omega arith in
    decimal_from places n (decimal (n / 10 ^ places)) (last_digits places n) few (length-last_digits places n) (decimal_nonempty (n / 10 ^ places) fits) (length_whole places n few small)
    (decimal_is_number (n / 10 ^ places) fits) (last_digits_are_digits places n)
    (value_last places n (decimal (n / 10 ^ places)) (digits_value-decimal digits_model (n / 10 ^ places) fits))
