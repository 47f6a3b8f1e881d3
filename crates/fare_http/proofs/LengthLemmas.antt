-- Fields of one name, and numbers that are read from the left.
use Rattle.std.proofs.Common.{◌≡◌, ◌≢◌, ℕ, ◌+◌, ◌-◌, ◌*◌, ◌<◌, ◌≤◌, true, List, [], ◌∷◌, ◌++◌, length, take, map, get_or, None, refl, ap, ◌∙◌, arith, length-append}
use Rattle.std.specs.List.{list_all}
use Rattle.std.specs.Char.{is_ascii_digit, digit_value}
use Rattle.std.specs.Str.Parse.{digits_value}
use Rattle.std.proofs.lemmas.Bool.Decides.{nat_tests}
use Rattle.std.proofs.lemmas.List.{take_more, map-append}
use Rattle.std.proofs.lemmas.List.Elements.{filter-append}
use Rattle.std.proofs.lemmas.List.Folds.{list_all_at}
use Rattle.std.proofs.lemmas.Int.Digits.{digits_value_more}
use Rattle.httparse.specs.declared.spans.HeaderSpan.{HeaderSpan}
use Rattle.httparse.specs.Spans.{header_bytes}
use Rattle.fare_http.specs.Lengths.{has_name, values_named, number_up_to, AreNamed}
use Rattle.fare_http.specs.declared.lengths.Named.{Named}
use Rattle.fare_http.specs.declared.lengths.Named.TheVariants.{Absent, One, Several}

-- the values of some fields and of others
values_named-append : (name : List ℕ) (xs ys : List (List ℕ × List ℕ))
    → values_named name (xs ++ ys) ≡ values_named name xs ++ values_named name ys
values_named-append name xs ys =
    ap (map (λ field. field.1)) (filter-append (has_name name) xs ys) ∙ map-append (λ field. field.1) _ _

-- the values of one field more
pub values_named-more : (name taken : List ℕ) (fields : List HeaderSpan) (i : ℕ) (d : HeaderSpan) → i < length fields
    → values_named name (map (header_bytes taken) (take (i + 1) fields))
    ≡ values_named name (map (header_bytes taken) (take i fields)) ++ values_named name (header_bytes taken (get_or fields i d) ∷ [])
values_named-more name taken fields i d below =
    ap (λ some. values_named name (map (header_bytes taken) some)) (take_more fields i d below)
    ∙ ap (values_named name) (map-append (header_bytes taken) (take i fields) (get_or fields i d ∷ []))
    ∙ values_named-append name _ _

-- the value of a digit
digit_is : (c : ℕ) → is_ascii_digit c ≡ true → digit_value c ≡ c - 48
digit_is c h = grind (arith, nat_tests)

-- each of the digits is one
digit_at : (ds : List ℕ) (i : ℕ) → i < length ds → list_all is_ascii_digit ds ≡ true → is_ascii_digit (get_or ds i 0) ≡ true
digit_at ds i below all = grind (arith, list_all_at)

-- one digit more
pub number_more : (ds : List ℕ) (i : ℕ) → i < length ds → list_all is_ascii_digit ds ≡ true
    → digits_value 10 (take (i + 1) ds) ≡ 10 * digits_value 10 (take i ds) + (get_or ds i 0 - 48)
number_more ds i below digits =
    digits_value_more 10 ds i below ∙ omega (arith, digit_is (get_or ds i 0) (digit_at ds i below digits))

-- what is above the most isn't read
pub not_read : (value most : ℕ) (digits : List ℕ) → most < value → value ≤ digits_value 10 digits
    → None ≡ number_up_to most digits
not_read value most digits above more = grind (arith, nat_tests)

-- one field more of the name, where there is one already
pub with-one-more : (name taken : List ℕ) (found : Named) (values : List (List ℕ)) (field : List ℕ × List ℕ)
    → has_name name field ≡ true → found ≢ Absent → AreNamed taken found values
    → 1 < length (values ++ values_named name (field ∷ []))
with-one-more name taken Absent values field named there are = absurd (there refl)
with-one-more name taken (One value) values field named there are = rw (are, named) (omega arith)
with-one-more name taken Several values field named there are =
    omega (arith, are, length-append values (values_named name (field ∷ [])))
