-- Numbers and their digits.
use Rattle.std.proofs.Common.{◌≡◌, ◌<◌, ◌≤◌, ◌∙◌, ◌+◌, ◌-◌, ◌*◌, ◌^◌, ℕ, zero, suc, Bool, true, not, List, [], ◌∷◌, ◌++◌, ◌&&◌, ◌||◌, ◌==◌, length, take, drop, get_or, slice_index, nat_lt, nat_le, Some, None, if◌then◌else◌, decimal, arith, refl, ap, sym, rules, ◌⊎◌, inl, inr}
use Rattle.std.proofs.lemmas.Grind.{common_steps}
use Rattle.std.proofs.lemmas.Bool.Decides.{nat_tests}
use Rattle.std.proofs.lemmas.Bool.{eqb-true, eq-eqb, ltb-true}
use Rattle.std.proofs.lemmas.List.{take_more, take-append-drop}
use Rattle.std.proofs.lemmas.List.Folds.{list_all_at}
use Rattle.std.proofs.lemmas.Str.Parse.{IsNumeralModel, IsDigitsTest, numerals_by_value}
use Rattle.std.proofs.lemmas.Fmt.{digits_decimal, digits_value-decimal, decimal-digits_value, decimal_digit, decimal_nonempty, first_decimal, length-decimal-le}
use Rattle.std.specs.List.{list_all}
use Rattle.std.specs.Char.{is_ascii_digit, digit_value}
use Rattle.std.specs.Str.Parse.{digits_value, digits_value_after}
use Rattle.fare_codes.specs.Numbers.{is_number, read_number}

-- the words in which a number's digits are tested
digits_test : IsDigitsTest (λ ds. list_all is_ascii_digit ds ≡ true)
digits_test = search rules

pub digits_model : IsNumeralModel (λ ds. list_all is_ascii_digit ds ≡ true) (digits_value 10)
digits_model = numerals_by_value _ digits_test

-- the value of a digit
pub digit_is : (c : ℕ) → is_ascii_digit c ≡ true → digit_value c ≡ c - 48
digit_is c h = grind (arith, nat_tests)

-- the range of a digit
pub digit_range : (c : ℕ) → is_ascii_digit c ≡ true → (48 ≤ c) × (c ≤ 57)
digit_range c h = (grind (arith, nat_tests), grind (arith, nat_tests))

-- the character of a digit
pub is_digit_of : (d : ℕ) → d < 10 → is_ascii_digit (48 + d) ≡ true
is_digit_of d h = grind (arith, nat_tests)

-- a number is digits
pub number_is_digits : (text : List ℕ) → is_number text ≡ true → list_all is_ascii_digit text ≡ true
unfolding is_number
number_is_digits text h = grind arith

-- what the tests of a number say
three_parts : (a b c d : Bool) → (a && b && (c || not d)) ≡ true → (a ≡ true) × (b ≡ true) × (d ≡ true → c ≡ true)
three_parts a b c d h = (grind arith, grind arith, λ k. grind arith)

-- a number has a digit, and no zero before others
number_parts : (text : List ℕ) → is_number text ≡ true → (0 < length text) × (get_or text 0 0 ≡ 48 → length text ≡ 1)
unfolding is_number
number_parts text h =
    let tests = three_parts (nat_lt 0 (length text)) (list_all is_ascii_digit text) (length text == 1) (slice_index text 0 == 48) h in
    (ltb-true 0 (length text) tests.0, λ first. eqb-true _ _ (tests.2 (eq-eqb _ _ first)))

-- digits that follow others
pub value_after_append : (n : ℕ) (xs ys : List ℕ) → digits_value_after 10 n (xs ++ ys) ≡ digits_value_after 10 (digits_value_after 10 n xs) ys
value_after_append n [] ys = refl
value_after_append n (x ∷ xs) ys = value_after_append (n * 10 + digit_value x) xs ys

-- more digits write no smaller number
pub value_after_ge : (n : ℕ) (ds : List ℕ) → n ≤ digits_value_after 10 n ds
value_after_ge n [] = omega arith
value_after_ge n (d ∷ ds) = omega (arith, value_after_ge (n * 10 + digit_value d) ds)

-- a number that is read is what is printed of it
pub only_decimal : (text : List ℕ) → is_number text ≡ true → digits_value 10 text < 2 ^ 64 → text ≡ decimal (digits_value 10 text)
only_decimal text h small =
    let parts = number_parts text h in
    sym (decimal-digits_value digits_model text (number_is_digits text h) parts.0 parts.1 small)

-- digits with no zero before others are a number
number_from : (text : List ℕ) → 0 < length text → list_all is_ascii_digit text ≡ true → (length text ≡ 1) ⊎ (48 < get_or text 0 0) → is_number text ≡ true
unfolding is_number
number_from text some digits first = grind (arith, nat_tests)

-- what is printed is one digit, or begins with a digit that is no zero
first_or_only : (n : ℕ) → n < 2 ^ 64 → (length (decimal n) ≡ 1) ⊎ (48 < get_or (decimal n) 0 0)
first_or_only zero small = inl (ap length (decimal_digit 0 (omega arith)))
first_or_only (suc n) small = inr (first_decimal (suc n) (omega arith) small)

-- what is printed is a number
pub decimal_is_number : (n : ℕ) → n < 2 ^ 64 → is_number (decimal n) ≡ true
decimal_is_number n small = number_from (decimal n) (decimal_nonempty n small) (digits_decimal digits_model n small) (first_or_only n small)

-- a number that is small enough is read
read_from : (text : List ℕ) (n most : ℕ) → is_number text ≡ true → digits_value 10 text ≡ n → n ≤ most → read_number most text ≡ Some n
unfolding read_number
read_from text n most number value bound = grind (arith, nat_tests)

-- what is printed is read back
pub number_read_back : (n most : ℕ) → n < 2 ^ 64 → n ≤ most → read_number most (decimal n) ≡ Some n
number_read_back n most small bound =
    let value : digits_value 10 (decimal n) ≡ n = digits_value-decimal digits_model n small in
    read_from (decimal n) n most (decimal_is_number n small) value bound

-- a number below 2 ^ 32 has at most ten digits
pub length_number : (n : ℕ) → n < 2 ^ 32 → length (decimal n) ≤ 10
length_number n small = length-decimal-le 10 n (omega arith) (omega arith) (omega arith)

-- a test that each of a text's bytes passes
pub test_at : (p : ℕ → Bool) (ds : List ℕ) (i : ℕ) → i < length ds → list_all p ds ≡ true → p (get_or ds i 0) ≡ true
test_at p ds i below all = grind (arith, common_steps, list_all_at p ds i 0)

-- one digit more of a text that is read from the left
pub value_after_more : (n : ℕ) (ds : List ℕ) (i : ℕ) → i < length ds → list_all is_ascii_digit ds ≡ true
    → digits_value_after 10 n (take (i + 1) ds) ≡ 10 * digits_value_after 10 n (take i ds) + (get_or ds i 0 - 48)
value_after_more n ds i below digits =
    let one : take (i + 1) ds ≡ take i ds ++ get_or ds i 0 ∷ [] = take_more ds i 0 below in
    let digit : digit_value (get_or ds i 0) ≡ get_or ds i 0 - 48 = digit_is _ (test_at is_ascii_digit ds i below digits) in
    let step = value_after_append n (take i ds) (get_or ds i 0 ∷ []) in
    rw one (step ∙ omega (arith, digit))

-- a text's front writes no greater number
pub value_after_take_le : (n : ℕ) (ds : List ℕ) (i : ℕ) → digits_value_after 10 n (take i ds) ≤ digits_value_after 10 n ds
value_after_take_le n ds i =
    let whole : digits_value_after 10 n ds ≡ digits_value_after 10 (digits_value_after 10 n (take i ds)) (drop i ds) = ap (digits_value_after 10 n) (sym (take-append-drop i ds)) ∙ value_after_append n (take i ds) (drop i ds) in
    rw whole (value_after_ge _ (drop i ds))

-- digits and further digits
pub value_after_joined : (xs ys : List ℕ) → (digits_value 10 (xs ++ ys) ≡ digits_value_after 10 (digits_value_after 10 0 xs) ys) × (digits_value_after 10 0 xs ≤ digits_value 10 (xs ++ ys))
value_after_joined xs ys = (value_after_append 0 xs ys, rw (value_after_append 0 xs ys) (value_after_ge _ ys))

-- what is above the most is not read
pub not_read : (value total most : ℕ) → most < value → value ≤ total → None ≡ (if nat_le total most then Some total else None)
not_read value total most above more = grind (arith, nat_tests)
