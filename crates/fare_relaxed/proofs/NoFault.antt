-- No check looks at conditions: relaxed records have a check kind where the records do.
use Rattle.std.proofs.Common.{◌≡◌, ℕ, ◌+◌, Bool, true, false, cond, List, [], ◌∷◌, map, length, take, refl, ap, sym, ◌∙◌, ◌≢◌}
use Rattle.std.proofs.Math.Path.{fun_ext}
use Rattle.std.proofs.lemmas.List.{take-map, length-map}
use Rattle.std.specs.Prelude.{Option, Some, None, option_map, is_some, is_none, fold, count_by, position, nat_le, Result, Ok, Err}
use Rattle.std.specs.List.{list_any, list_all}
use Rattle.std.specs.Option.{option_or, option_to_list}
use Rattle.fare_codes.specs.declared.city.City.{City}
use Rattle.fare_codes.specs.declared.country.Country.{Country}
use Rattle.fare_codes.specs.declared.day.Day.{Day}
use Rattle.fare_codes.specs.declared.indicator.Indicator.{Indicator}
use Rattle.fare_codes.specs.declared.rule_id.RuleId.{RuleId}
use Rattle.fare_codes.specs.declared.season.Season.{Season}
use Rattle.fare_tariff.specs.declared.check.check_fault.CheckFault.{CheckFault}
use Rattle.fare_tariff.specs.declared.check.check_fault.CheckFault.TheVariants.{Memory, At}
use Rattle.fare_tariff.specs.declared.check.check_kind.CheckKind.{CheckKind}
use Rattle.fare_records.specs.declared.limits.TheConstants.{MOST_FARES_BETWEEN}
use Rattle.fare_records.specs.declared.fare_key.FareKey.{FareKey}
use Rattle.fare_records.specs.declared.record.Record.{Record}
use Rattle.fare_records.specs.declared.record.Record.TheVariants as filed
use Rattle.fare_tariff.specs.Tariff.{Tariff}
use Rattle.fare_tariff.specs.Lookup.{first_some, currency_in, city_in, rule_in, is_fare_between, number_at}
use Rattle.fare_tariff.specs.Check.{key_of, is_fare_of, is_allowance_of, has_key_of, first_number, is_unknown_city, is_one_unknown, names_unknown_city, is_unknown_rule, names_unknown_rule, names_unknown_currency, is_one_too_many, has_same_points, is_zero_mileage, is_out_of_limit, is_fare_over, overlap_of, kind_of, fault_at, first_fault_from, first_fault, unless, check_edition, IsEdition}
use Rattle.fare_records.specs.Keyed.{has_amount_in_range}
use Rattle.fare_relaxed.specs.declared.term.Term.{Term}
use Rattle.fare_relaxed.specs.Relax.{relaxed_rule, relaxed_record, relaxed_records, relax}
use Rattle.fare_relaxed.proofs.LookUps.{first_some_same, position_same, city_same, mpm_same, tpm_same, same_id, rule_relaxed, rules_relaxed}

currency_same : (term : Term) (country : Country) (one : Record)
    → currency_in country (relaxed_record term one) ≡ currency_in country one
currency_same term country (filed.Rule r) = refl
currency_same term country _ = refl

fare_of_same : (term : Term) (key : FareKey) (season : Season) (one : Record)
    → is_fare_of key season (relaxed_record term one) ≡ is_fare_of key season one
fare_of_same term key season (filed.Rule r) = refl
fare_of_same term key season _ = refl

fare_over_same : (term : Term) (key : FareKey) (season : Season) (one : Record)
    → is_fare_over key season (relaxed_record term one) ≡ is_fare_over key season one
fare_over_same term key season (filed.Rule r) = refl
fare_over_same term key season _ = refl

between_same : (term : Term) (a b : City) (ind : Indicator) (one : Record)
    → is_fare_between a b ind (relaxed_record term one) ≡ is_fare_between a b ind one
between_same term a b ind (filed.Rule r) = refl
between_same term a b ind _ = refl

allowance_of_same : (term : Term) (a b : City) (ind : Indicator) (via : Option City) (one : Record)
    → is_allowance_of a b ind via (relaxed_record term one) ≡ is_allowance_of a b ind via one
allowance_of_same term a b ind via (filed.Rule r) = refl
allowance_of_same term a b ind via _ = refl

there_changed : {A B : Type 0} (change : A → B) (o : Option A) → is_some (option_map change o) ≡ is_some o
there_changed change None = refl
there_changed change (Some one) = refl

none_changed : {A B : Type 0} (change : A → B) (o : Option A) → is_none (option_map change o) ≡ is_none o
none_changed change None = refl
none_changed change (Some one) = refl

-- a relaxed record has the key of the record
own_key_same : (term : Term) (one : Record) → has_key_of (relaxed_record term one) ≡ has_key_of one
own_key_same term (filed.Rule r) = fun_ext (λ other. ap (λ id. is_some (rule_in id other)) (same_id term r))
own_key_same term _ = refl

key_same : (term : Term) (one other : Record) → has_key_of one (relaxed_record term other) ≡ has_key_of one other
key_same term (filed.City r) other = ap is_some (city_same term r.code other)
key_same term (filed.Cur r) other = ap is_some (currency_same term r.country other)
key_same term (filed.Rule r) other =
    rw (rule_relaxed term r.id other) (there_changed (relaxed_rule term) (rule_in r.id other))
key_same term (filed.Fare r) other = fare_of_same term (key_of r) r.season other
key_same term (filed.Mpm r) other = ap is_some (mpm_same term r.from r.to r.ind other)
key_same term (filed.Tpm r) other = ap is_some (tpm_same term r.from r.to other)
key_same term (filed.Ema r) other = allowance_of_same term r.from r.to r.ind r.via other

number_same : (term : Term) (test : Record → Bool) → ((one : Record) → test (relaxed_record term one) ≡ test one)
    → (earlier : List Record) → first_number test (relaxed_records term earlier) ≡ first_number test earlier
number_same term test same earlier = ap (option_map number_at) (position_same test (relaxed_record term) same earlier)

duplicate_same : (term : Term) (earlier : List Record) (one : Record)
    → first_number (has_key_of (relaxed_record term one)) (relaxed_records term earlier)
    ≡ first_number (has_key_of one) earlier
duplicate_same term earlier one = rw (own_key_same term one) (number_same term (has_key_of one) (key_same term one) earlier)

unknown_function : (term : Term) (records : List Record)
    → is_unknown_city (relaxed_records term records) ≡ is_unknown_city records
unknown_function term records =
    fun_ext (λ city. ap is_none (first_some_same (city_in city) (relaxed_record term) (city_same term city) records))

one_unknown_same : (term : Term) (records : List Record) (a b : City) (via : Option City)
    → is_one_unknown (relaxed_records term records) a b via ≡ is_one_unknown records a b via
unfolding is_one_unknown
one_unknown_same term records a b via =
    ap (λ test. list_any test (a ∷ b ∷ option_to_list via)) (unknown_function term records)

city_known : (term : Term) (records : List Record) (one : Record)
    → names_unknown_city (relaxed_records term records) (relaxed_record term one) ≡ names_unknown_city records one
city_known term records (filed.City r) = refl
city_known term records (filed.Cur r) = refl
city_known term records (filed.Rule r) = refl
city_known term records (filed.Fare r) = one_unknown_same term records r.from r.to None
city_known term records (filed.Mpm r) = one_unknown_same term records r.from r.to None
city_known term records (filed.Tpm r) = one_unknown_same term records r.from r.to None
city_known term records (filed.Ema r) = one_unknown_same term records r.from r.to r.via

unknown_rule_same : (term : Term) (records : List Record) (rule : Option RuleId)
    → is_unknown_rule (relaxed_records term records) rule ≡ is_unknown_rule records rule
unknown_rule_same term records None = refl
unknown_rule_same term records (Some id) =
    rw (rules_relaxed term id records) (none_changed (relaxed_rule term) (first_some (rule_in id) records))

rule_known : (term : Term) (records : List Record) (one : Record)
    → names_unknown_rule (relaxed_records term records) (relaxed_record term one) ≡ names_unknown_rule records one
rule_known term records (filed.Fare r) = unknown_rule_same term records r.rule
rule_known term records _ = refl

currency_known : (term : Term) (records : List Record) (one : Record)
    → names_unknown_currency (relaxed_records term records) (relaxed_record term one) ≡ names_unknown_currency records one
currency_known term records (filed.City r) =
    ap is_none (first_some_same (currency_in r.country) (relaxed_record term) (currency_same term r.country) records)
currency_known term records _ = refl

fold_same : (step : ℕ → Record → ℕ) (change : Record → Record)
    → ((n : ℕ) (one : Record) → step n (change one) ≡ step n one) → (n : ℕ) (xs : List Record)
    → fold step n (map change xs) ≡ fold step n xs
fold_same step change same n [] = refl
fold_same step change same n (x ∷ xs) =
    ap (λ m. fold step m (map change xs)) (same n x) ∙ fold_same step change same (step n x) xs

count_same : (term : Term) (test : Record → Bool) → ((one : Record) → test (relaxed_record term one) ≡ test one)
    → (earlier : List Record) → count_by test (relaxed_records term earlier) ≡ count_by test earlier
count_same term test same earlier =
    fold_same (λ n one. n + cond (test one) 1 0) (relaxed_record term) (λ n one. ap (λ t. n + cond t 1 0) (same one)) 0 earlier

few_same : (term : Term) (earlier : List Record) (one : Record)
    → is_one_too_many (relaxed_records term earlier) (relaxed_record term one) ≡ is_one_too_many earlier one
few_same term earlier (filed.Fare r) =
    ap (nat_le MOST_FARES_BETWEEN) (count_same term (is_fare_between r.from r.to r.ind) (between_same term r.from r.to r.ind) earlier)
few_same term earlier _ = refl

points_same : (term : Term) (one : Record) → has_same_points (relaxed_record term one) ≡ has_same_points one
points_same term (filed.Rule r) = refl
points_same term (filed.City r) = refl
points_same term (filed.Cur r) = refl
points_same term (filed.Fare r) = refl
points_same term (filed.Mpm r) = refl
points_same term (filed.Tpm r) = refl
points_same term (filed.Ema r) = refl

miles_same : (term : Term) (one : Record) → is_zero_mileage (relaxed_record term one) ≡ is_zero_mileage one
miles_same term (filed.Rule r) = refl
miles_same term (filed.City r) = refl
miles_same term (filed.Cur r) = refl
miles_same term (filed.Fare r) = refl
miles_same term (filed.Mpm r) = refl
miles_same term (filed.Tpm r) = refl
miles_same term (filed.Ema r) = refl

limit_same : (term : Term) (earlier : List Record)
    → is_out_of_limit (relaxed_records term earlier) ≡ is_out_of_limit earlier
limit_same term earlier = rw length-map

overlap_same : (term : Term) (earlier : List Record) (one : Record)
    → overlap_of (relaxed_records term earlier) (relaxed_record term one) ≡ overlap_of earlier one
overlap_same term earlier (filed.Fare r) =
    number_same term (is_fare_over (key_of r) r.season) (fare_over_same term (key_of r) r.season) earlier
overlap_same term earlier _ = refl

kind_same : (term : Term) (records earlier : List Record) (one : Record)
    → kind_of (relaxed_records term records) (relaxed_records term earlier) (relaxed_record term one) ≡ kind_of records earlier one
unfolding kind_of
kind_same term records earlier one =
    rw (duplicate_same term earlier one, city_known term records one, rule_known term records one, currency_known term records one, few_same term earlier one, points_same term one, miles_same term one, limit_same term earlier, overlap_same term earlier one)

fault_same : (term : Term) (all : List Record) (place : ℕ) (one : Record)
    → fault_at (relaxed_records term all) place (relaxed_record term one) ≡ fault_at all place one
fault_same term all place one =
    rw (take-map (relaxed_record term) place all, kind_same term all (take place all) one)

faults_same : (term : Term) (all : List Record) (place : ℕ) (rest : List Record)
    → first_fault_from (relaxed_records term all) place (relaxed_records term rest) ≡ first_fault_from all place rest
unfolding first_fault_from
faults_same term all place [] = refl
faults_same term all place (x ∷ rest) = rw (fault_same term all place x, faults_same term all (place + 1) rest)

amount_same : (term : Term) (one : Record) → has_amount_in_range (relaxed_record term one) ≡ has_amount_in_range one
amount_same term (filed.Rule r) = refl
amount_same term _ = refl

all_same : (test : Record → Bool) (change : Record → Record) → ((one : Record) → test (change one) ≡ test one)
    → (xs : List Record) → list_all test (map change xs) ≡ list_all test xs
all_same test change same [] = refl
all_same test change same (x ∷ xs) = rw (same x, all_same test change same xs)

-- Relax of an edition is an edition
pub is_edition : (number : ℕ) (term : Term) (records : List Record) → IsEdition number records
    → IsEdition number (relaxed_records term records)
is_edition number term records valid = record {
  number_above_zero = valid.number_above_zero;
  number_in_range = valid.number_in_range;
  amounts_in_range = rw (all_same has_amount_in_range (relaxed_record term) (amount_same term) records) valid.amounts_in_range;
  no_fault = rw (faults_same term records 0 records) valid.no_fault;
}

no_fault : (fault : Option CheckFault) (tariff : Tariff) → is_none fault ≡ true → unless fault tariff ≡ Ok tariff
no_fault None tariff h = refl
no_fault (Some fault) tariff h = cc

-- the check of relaxed records answers the relaxed edition
pub check_answers : (number : ℕ) (effective : Day) (term : Term) (records : List Record) → IsEdition number records
    → check_edition number effective (relaxed_records term records)
    ≡ Ok (relax term (record { number = number; effective = effective; records = records }))
unfolding relax
check_answers number effective term records valid =
    no_fault (first_fault (relaxed_records term records)) (record { number = number; effective = effective; records = relaxed_records term records }) (is_edition number term records valid).no_fault

-- the check of an edition's records, relaxed, by what was read of the edition
pub relaxed_checked : (edition : Tariff) (term : Term) (number : ℕ) (effective : Day) (listed items : List Record)
    → number ≡ edition.number → effective ≡ edition.effective → listed ≡ edition.records
    → items ≡ relaxed_records term listed → IsEdition edition.number edition.records
    → check_edition number effective items ≡ Ok (relax term edition)
relaxed_checked edition term number effective listed items n d l i valid =
    rw (n, d, i, l) (check_answers edition.number edition.effective term edition.records valid)

-- where a check answers an edition, it answers no fault
pub never_at : (checked : Result Tariff CheckFault) (edition : Tariff) (fault : CheckFault) (n : ℕ) (kind : CheckKind)
    → checked ≡ Ok edition → fault ≡ At n kind → (fault ≢ Memory → checked ≡ Err fault) → ⊥
never_at checked edition fault n kind answers at refused =
    let wrong : checked ≡ Err fault = refused (λ e. at_memory n kind (sym at ∙ e)) in
    cc
  where
    at_memory : (n : ℕ) (kind : CheckKind) → At n kind ≡ Memory → ⊥
    at_memory n kind e = cc

pub ok_same : (made edition : Tariff) (checked : Result Tariff CheckFault) → checked ≡ Ok made → checked ≡ Ok edition
    → made ≡ edition
ok_same made edition checked e f = cc
