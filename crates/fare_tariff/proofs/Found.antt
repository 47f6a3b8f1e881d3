-- What is known of the record that a look-up finds in a list without a fault.
use Rattle.std.proofs.Common.{◌≡◌, ◌≢◌, ℕ, ◌<◌, Bool, true, false, cond, List, [], ◌∷◌, length, get_or, take, Option, Some, None, IsSome, is_none, bytes_eq, refl, sym, ◌∙◌, arith, rules, zero, suc, ◌⊎◌, inl, inr}
use Rattle.std.specs.Option.{option_or}
use Rattle.std.proofs.lemmas.Bool.{eqb-false, false≢true}
use Rattle.std.proofs.lemmas.Slice.Eq.{bytes_eq-Decides}
use Rattle.fare_codes.specs.declared.city.City.{City}
use Rattle.fare_codes.specs.declared.indicator.Indicator.{Indicator}
use Rattle.fare_records.specs.declared.record.Record.{Record}
use Rattle.fare_records.specs.declared.record.Record.TheVariants as filed
use Rattle.fare_records.specs.declared.city_record.CityRec.{CityRec}
use Rattle.fare_tariff.specs.Tariff.{Tariff}
use Rattle.fare_tariff.specs.Lookup.{first_some, city_in, currency_in, city_record, mpm_in, tpm_in}
use Rattle.fare_tariff.specs.Check.{first_fault}
use Rattle.fare_tariff.specs.Filed.{IsFiledCity}
use Rattle.fare_tariff.proofs.Validity.{HasNoKind, no_kind_at}

-- what a test admits
if_some : {A : Type 0} (test : Bool) (a b : A) → cond test (Some a) None ≡ Some b → (test ≡ true) × (a ≡ b)
if_some true a b h = (refl, cc)
if_some false a b h = cc

-- one of two is what there is
option_or-some : {A : Type 0} (a b : Option A) (v : A) → option_or a b ≡ Some v → (a ≡ Some v) ⊎ (b ≡ Some v)
option_or-some None b v h = inr h
option_or-some (Some x) b v h = inl h

-- where it isn't nothing there is something
pub some_there : {A : Type 0} (o : Option A) → is_none o ≡ false → IsSome o
some_there None h = cc
some_there (Some x) h = search rules

-- the place at which the first answer of a list is found
record Found {A : Type 0} (answer : Record → Option A) (all : List Record) (v : A) : Type 0 where
  place : ℕ
  within : place < length all
  at : (d : Record) → answer (get_or all place d) ≡ Some v

-- what is answered is answered at a place
first_some_found : {A : Type 0} (answer : Record → Option A) (all : List Record) (v : A) → first_some answer all ≡ Some v → Found answer all v
first_some_found answer [] v h = cc
first_some_found answer (x ∷ xs) v h =
    elim (option_or-some (answer x) (first_some answer xs) v h) [
      | inl here ↦ record { place = zero; within = omega arith; at = λ d. here }
      | inr later ↦
          let rest = first_some_found answer xs v later in
          record { place = suc rest.place; within = omega (arith, rest.within); at = λ d. rest.at d }
    ]

-- the record that is found has none of the kinds
found_record : {A : Type 0} (answer : Record → Option A) (all : List Record) (v : A) → is_none (first_fault all) ≡ true → first_some answer all ≡ Some v → (one : Record) × (earlier : List Record) × (answer one ≡ Some v) × HasNoKind all earlier one
found_record answer [] v valid h = cc
found_record answer (x ∷ xs) v valid h =
    let found = first_some_found answer (x ∷ xs) v h in
    (get_or (x ∷ xs) found.place x, take found.place (x ∷ xs), found.at x, no_kind_at (x ∷ xs) found.place x valid found.within)

-- equal by the test is equal
pub bytes_eq-true : (a b : List ℕ) → bytes_eq a b ≡ true → a ≡ b
bytes_eq-true a b h = (bytes_eq-Decides a b).0 h

-- different by the test is different
pub bytes_eq-false : (a b : List ℕ) → bytes_eq a b ≡ false → a ≢ b
bytes_eq-false a b h e = false≢true (sym h ∙ (bytes_eq-Decides a b).1 e)

-- a record that files a city without a kind
city_facts : (all earlier : List Record) (one : Record) (city : City) (r : CityRec) → city_in city one ≡ Some r → HasNoKind all earlier one → (r.code ≡ city) × IsSome (first_some (currency_in r.country) all)
city_facts all earlier (filed.City s) city r h kinds =
    let p = if_some (bytes_eq s.code city) s r h in
    let same : s ≡ r = p.1 in
    rw (← same) (bytes_eq-true _ _ p.0, some_there _ kinds.known_currency)
city_facts all earlier _ city r h kinds = cc

-- the record of a city in an edition
pub filed_city : (tariff : Tariff) (city : City) (r : CityRec) → is_none (first_fault tariff.records) ≡ true → city_record tariff city ≡ Some r → IsFiledCity tariff city r
filed_city tariff city r valid h =
    let w = found_record (city_in city) tariff.records r valid h in
    let facts = city_facts tariff.records w.1 w.0 city r w.2 w.3 in
    record { code = facts.0; currency = facts.1 }

-- a number that isn't 0 is above 0
above_zero : (n : ℕ) → (n ≡ 0 → ⊥) → 0 < n
above_zero zero h = absurd (h refl)
above_zero (suc n) h = omega arith

-- the miles of a record without a kind
mpm_facts : (all earlier : List Record) (one : Record) (a b : City) (ind : Indicator) (miles : ℕ) → mpm_in a b ind one ≡ Some miles → HasNoKind all earlier one → 0 < miles
mpm_facts all earlier (filed.Mpm s) a b ind miles h kinds =
    let p = if_some _ s.miles miles h in
    let same : s.miles ≡ miles = p.1 in
    rw (← same) (above_zero s.miles (eqb-false s.miles 0 kinds.above_zero))
mpm_facts all earlier _ a b ind miles h kinds = cc

tpm_facts : (all earlier : List Record) (one : Record) (a b : City) (miles : ℕ) → tpm_in a b one ≡ Some miles → HasNoKind all earlier one → 0 < miles
tpm_facts all earlier (filed.Tpm s) a b miles h kinds =
    let p = if_some _ s.miles miles h in
    let same : s.miles ≡ miles = p.1 in
    rw (← same) (above_zero s.miles (eqb-false s.miles 0 kinds.above_zero))
tpm_facts all earlier _ a b miles h kinds = cc

-- a permitted mileage in an edition is above 0
pub mpm_above_zero : (all : List Record) (a b : City) (ind : Indicator) (miles : ℕ) → is_none (first_fault all) ≡ true → first_some (mpm_in a b ind) all ≡ Some miles → 0 < miles
mpm_above_zero all a b ind miles valid h =
    let w = found_record (mpm_in a b ind) all miles valid h in
    mpm_facts all w.1 w.0 a b ind miles w.2 w.3

-- a ticketed point mileage in an edition is above 0
pub tpm_above_zero : (all : List Record) (a b : City) (miles : ℕ) → is_none (first_fault all) ≡ true → first_some (tpm_in a b) all ≡ Some miles → 0 < miles
tpm_above_zero all a b miles valid h =
    let w = found_record (tpm_in a b) all miles valid h in
    tpm_facts all w.1 w.0 a b miles w.2 w.3
