-- What the records of a drill file.
use Rattle.std.proofs.Common.{◌≡◌, ℕ, zero, suc, ◌+◌, ◌<◌, ◌≤◌, Bool, true, false, List, [], ◌∷◌, ◌++◌, map, Option, Some, None, is_none, codes, ◌==◌, ◌%◌, if◌then◌else◌, refl, arith, inl, inr}
use Rattle.std.specs.List.{range_with_len}
use Rattle.std.specs.Option.{option_or}
use Rattle.std.proofs.lemmas.Bool.{cases_eq}
use Rattle.std.proofs.lemmas.Slice.Eq.{bytes_eq-Decides}
use Rattle.fare_codes.specs.declared.area.Area.{Area}
use Rattle.fare_records.specs.declared.record.Record.{Record}
use Rattle.fare_records.specs.declared.record.Record.TheVariants as filed
use Rattle.fare_tariff.specs.Lookup.{first_some, city_in, currency_in}
use Rattle.fare_tariff.specs.Check.{is_unknown_city, is_unknown_rule, is_one_unknown}
use Rattle.fare_drill.specs.Cities.{city, country_of}

-- one of two is there where the first is, or where the second is
later : {A : Type 0} (a b : Option A) → is_none b ≡ false → is_none (option_or a b) ≡ false
later None b h = h
later (Some v) b h = refl

either : {A : Type 0} (a b c : Option A) → (is_none b ≡ false → is_none c ≡ false) → is_none (option_or a b) ≡ false → is_none (option_or a c) ≡ false
either None b c f h = f h
either (Some v) b c f h = refl

-- what the front of a list answers the whole answers
pub known_front : {A : Type 0} (answer : Record → Option A) (xs ys : List Record) → is_none (first_some answer xs) ≡ false → is_none (first_some answer (xs ++ ys)) ≡ false
known_front answer [] ys h = cc
known_front answer (x ∷ xs) ys h =
    either (answer x) (first_some answer xs) (first_some answer (xs ++ ys)) (known_front answer xs ys) h

-- what the back of a list answers the whole answers
pub known_back : {A : Type 0} (answer : Record → Option A) (xs ys : List Record) → is_none (first_some answer ys) ≡ false → is_none (first_some answer (xs ++ ys)) ≡ false
known_back answer [] ys h = h
known_back answer (x ∷ xs) ys h = later (answer x) (first_some answer (xs ++ ys)) (known_back answer xs ys h)

-- what the record of a number answers a row with that number answers
pub known_row : {A : Type 0} (answer : Record → Option A) (f : ℕ → Record) (a n i : ℕ) → a ≤ i → i < a + n → is_none (answer (f i)) ≡ false → is_none (first_some answer (map f (range_with_len a n))) ≡ false
known_row answer f a zero i low high h = absurd (omega arith)
known_row answer f a (suc n) i low high h = elim (cases_eq a i) [
  | inl here ↦
      let first : is_none (answer (f a)) ≡ false = rw here h in
      either (answer (f a)) None (first_some answer (map f (range_with_len (a + 1) n))) (λ none. cc) (first_alone (answer (f a)) first)
  | inr after ↦ later (answer (f a)) (first_some answer (map f (range_with_len (a + 1) n))) (known_row answer f (a + 1) n i (omega arith) (omega arith) h)
]
  where
    first_alone : {A : Type 0} (o : Option A) → is_none o ≡ false → is_none (option_or o None) ≡ false
    first_alone None h = h
    first_alone (Some v) h = refl

-- a city's record is that of the city
pub city_itself : (code country : List ℕ) (area : Area) → is_none (city_in code (filed.City (record { code = code; country = country; area = area }))) ≡ false
city_itself code country area = rw ((bytes_eq-Decides code code).1 refl) refl

-- the currencies, the rule and so many cities of a drill are filed
pub record IsFiled (all : List Record) (count : ℕ) : Type 0 where
  pub city_known : (i : ℕ) → i < count → is_unknown_city all (city i) ≡ false
  pub first_country : is_none (first_some (currency_in (codes "XA")) all) ≡ false
  pub second_country : is_none (first_some (currency_in (codes "XB")) all) ≡ false
  pub rule_known : is_unknown_rule all (Some (codes "A")) ≡ false

-- so is the country of each city
pub country_known : (all : List Record) (count i : ℕ) → IsFiled all count → is_none (first_some (currency_in (country_of i)) all) ≡ false
country_known all count i filed = by_parity (i % 2 == 0)
  where
    by_parity : (even : Bool) → is_none (first_some (currency_in (if even then codes "XA" else codes "XB")) all) ≡ false
    by_parity true = filed.first_country
    by_parity false = filed.second_country

-- where both cities are known neither is unknown
pub both_known : (all : List Record) (a b : List ℕ) → is_unknown_city all a ≡ false → is_unknown_city all b ≡ false → is_one_unknown all a b None ≡ false
unfolding is_one_unknown
both_known all a b first second = rw (first, second) refl
