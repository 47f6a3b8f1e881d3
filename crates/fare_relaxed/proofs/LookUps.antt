-- Look-ups in relaxed records answer the same, but for those of a rule, which answer the relaxed rule.
use Rattle.std.proofs.Common.{◌≡◌, ℕ, ◌+◌, ◌-◌, Bool, true, false, cond, not, leb, List, [], ◌∷◌, map, length, refl, ap, max}
use Rattle.std.specs.Prelude.{Option, Some, None, option_map, option_and_then, position, slice_get, bytes_eq}
use Rattle.std.specs.List.{prefix_len}
use Rattle.std.specs.Option.{option_or}
use Rattle.std.proofs.lemmas.Option.{slice_get-map}
use Rattle.std.proofs.Math.ListN.{length-map}
use Rattle.fare_codes.specs.declared.city.City.{City}
use Rattle.fare_codes.specs.declared.month_day.MonthDay.{MonthDay}
use Rattle.fare_codes.specs.declared.indicator.Indicator.{Indicator}
use Rattle.fare_codes.specs.declared.rule_id.RuleId.{RuleId}
use Rattle.fare_records.specs.declared.record.Record.{Record}
use Rattle.fare_records.specs.declared.record.Record.TheVariants as filed
use Rattle.fare_records.specs.declared.fare_key.FareKey.{FareKey}
use Rattle.fare_records.specs.Record.{RuleRecord, FareRecord}
use Rattle.fare_tariff.specs.Tariff.{Tariff}
use Rattle.fare_tariff.specs.Lookup.{first_some, greatest, city_in, fare_in, is_fare_on, rule_in, mpm_in, tpm_in, allowance_in, number_at, city_record, fare_at, fare_number, mpm, tpm, allowance, rule_record}
use Rattle.fare_relaxed.specs.declared.term.Term.{Term}
use Rattle.fare_relaxed.specs.declared.term.Term.TheVariants.{Advance, Stay, Stopovers, Transfers, Surcharge, Units, Ends}
use Rattle.fare_relaxed.specs.Relax.{relaxed_rule, relaxed_record, relax}

-- the first answer of changed members, where the change leaves each answer
pub first_some_same : {A : Type 0} (answer : Record → Option A) (change : Record → Record)
    → ((one : Record) → answer (change one) ≡ answer one) → (xs : List Record)
    → first_some answer (map change xs) ≡ first_some answer xs
first_some_same answer change same [] = refl
first_some_same answer change same (x ∷ xs) = rw (same x, first_some_same answer change same xs)

greatest_same : (measure : Record → ℕ) (change : Record → Record)
    → ((one : Record) → measure (change one) ≡ measure one) → (xs : List Record)
    → greatest measure (map change xs) ≡ greatest measure xs
greatest_same measure change same [] = refl
greatest_same measure change same (x ∷ xs) = rw (same x, greatest_same measure change same xs)

prefix_len_same : (test : Record → Bool) (change : Record → Record)
    → ((one : Record) → test (change one) ≡ test one) → (xs : List Record)
    → prefix_len test (map change xs) ≡ prefix_len test xs
prefix_len_same test change same [] = refl
prefix_len_same test change same (x ∷ xs) = rw (same x, prefix_len_same test change same xs)

-- the first place of changed members, where the change leaves each test
pub position_same : (test : Record → Bool) (change : Record → Record)
    → ((one : Record) → test (change one) ≡ test one) → (xs : List Record)
    → position test (map change xs) ≡ position test xs
position_same test change same xs =
    rw (prefix_len_same (λ x. not (test x)) change (λ one. ap not (same one)) xs, length-map)

pub city_same : (term : Term) (city : City) (one : Record) → city_in city (relaxed_record term one) ≡ city_in city one
city_same term city (filed.Rule r) = refl
city_same term city _ = refl

fare_same : (term : Term) (one : Record) → fare_in (relaxed_record term one) ≡ fare_in one
fare_same term (filed.Rule r) = refl
fare_same term _ = refl

fare_on_same : (term : Term) (key : FareKey) (on : MonthDay) (one : Record)
    → is_fare_on key on (relaxed_record term one) ≡ is_fare_on key on one
fare_on_same term key on (filed.Rule r) = refl
fare_on_same term key on _ = refl

pub mpm_same : (term : Term) (a b : City) (ind : Indicator) (one : Record)
    → mpm_in a b ind (relaxed_record term one) ≡ mpm_in a b ind one
mpm_same term a b ind (filed.Rule r) = refl
mpm_same term a b ind _ = refl

pub tpm_same : (term : Term) (a b : City) (one : Record) → tpm_in a b (relaxed_record term one) ≡ tpm_in a b one
tpm_same term a b (filed.Rule r) = refl
tpm_same term a b _ = refl

allowance_same : (term : Term) (a b : City) (ind : Indicator) (cities : List City) (one : Record)
    → allowance_in a b ind cities (relaxed_record term one) ≡ allowance_in a b ind cities one
allowance_same term a b ind cities (filed.Rule r) = refl
allowance_same term a b ind cities _ = refl

-- a relaxed rule has its id
pub same_id : (term : Term) (r : RuleRecord) → (relaxed_rule term r).id ≡ r.id
same_id Advance r = refl
same_id Stay r = refl
same_id Stopovers r = refl
same_id Transfers r = refl
same_id Surcharge r = refl
same_id Units r = refl
same_id Ends r = refl

kept_if : {A B : Type 0} (change : A → B) (test : Bool) (one : A)
    → cond test (Some (change one)) None ≡ option_map change (cond test (Some one) None)
kept_if change true one = refl
kept_if change false one = refl

pub rule_relaxed : (term : Term) (id : RuleId) (one : Record)
    → rule_in id (relaxed_record term one) ≡ option_map (relaxed_rule term) (rule_in id one)
rule_relaxed term id (filed.Rule r) = rw (same_id term r) (kept_if (relaxed_rule term) (bytes_eq r.id id) r)
rule_relaxed term id _ = refl

or_changed : {A B : Type 0} (change : A → B) (a b : Option A)
    → option_or (option_map change a) (option_map change b) ≡ option_map change (option_or a b)
or_changed change None b = refl
or_changed change (Some one) b = refl

pub rules_relaxed : (term : Term) (id : RuleId) (xs : List Record)
    → first_some (rule_in id) (map (relaxed_record term) xs) ≡ option_map (relaxed_rule term) (first_some (rule_in id) xs)
rules_relaxed term id [] = refl
rules_relaxed term id (x ∷ xs) =
    rw (rule_relaxed term id x, rules_relaxed term id xs) (or_changed (relaxed_rule term) (rule_in id x) (first_some (rule_in id) xs))

fare_of_changed : (term : Term) (o : Option Record)
    → option_and_then fare_in (option_map (relaxed_record term) o) ≡ option_and_then fare_in o
fare_of_changed term None = refl
fare_of_changed term (Some one) = fare_same term one

module _ (term : Term) (tariff : Tariff) where
  pub city_record_same : (city : City) → city_record (relax term tariff) city ≡ city_record tariff city
  unfolding relax
  city_record_same city = first_some_same (city_in city) (relaxed_record term) (city_same term city) tariff.records

  pub fare_at_same : (number : ℕ) → fare_at (relax term tariff) number ≡ fare_at tariff number
  unfolding relax
  fare_at_same number =
      ap (λ o. cond (leb 2 number) o None) (rw (slice_get-map (relaxed_record term) tariff.records (number - 2)) (fare_of_changed term (slice_get tariff.records (number - 2))))

  pub fare_number_same : (key : FareKey) (on : MonthDay)
      → fare_number (relax term tariff) key on ≡ fare_number tariff key on
  unfolding relax
  fare_number_same key on =
      ap (option_map number_at) (position_same (is_fare_on key on) (relaxed_record term) (fare_on_same term key on) tariff.records)

  pub mpm_found_same : (a b : City) (ind : Indicator) → mpm (relax term tariff) a b ind ≡ mpm tariff a b ind
  unfolding relax
  mpm_found_same a b ind = first_some_same (mpm_in a b ind) (relaxed_record term) (mpm_same term a b ind) tariff.records

  pub tpm_found_same : (a b : City) → tpm (relax term tariff) a b ≡ tpm tariff a b
  unfolding relax
  tpm_found_same a b = first_some_same (tpm_in a b) (relaxed_record term) (tpm_same term a b) tariff.records

  pub allowance_found_same : (a b : City) (ind : Indicator) (cities : List City)
      → allowance (relax term tariff) a b ind cities ≡ allowance tariff a b ind cities
  unfolding relax
  allowance_found_same a b ind cities =
      greatest_same (allowance_in a b ind cities) (relaxed_record term) (allowance_same term a b ind cities) tariff.records

  pub rule_record_relaxed : (id : RuleId)
      → rule_record (relax term tariff) id ≡ option_map (relaxed_rule term) (rule_record tariff id)
  unfolding relax
  rule_record_relaxed id = rules_relaxed term id tariff.records
