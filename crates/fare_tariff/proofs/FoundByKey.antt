-- Each kind of record is found by its key.
use Rattle.std.proofs.Common.{◌≡◌, ℕ, ◌+◌, Bool, true, false, cond, ◌&&◌, List, [], ◌∷◌, zero, suc, slice_get, Option, Some, None, is_some, is_none, not, Bor, option_and_then, find, bytes_eq, refl, ap, sym, ◌∙◌}
use Rattle.std.specs.List.{position_from}
use Rattle.std.specs.Option.{option_or, option_copied}
use Rattle.fare_codes.specs.declared.city.City.{City}
use Rattle.fare_codes.specs.declared.country.Country.{Country}
use Rattle.fare_codes.specs.declared.rule_id.RuleId.{RuleId}
use Rattle.fare_codes.specs.declared.indicator.Indicator.{Indicator}
use Rattle.fare_codes.specs.Same.{same_indicator}
use Rattle.fare_index.specs.declared.key.Key.{Key}
use Rattle.fare_index.specs.declared.key.Key.TheVariants as kind
use Rattle.fare_index.specs.Key.{same_key, same_via as same_via_key}
use Rattle.fare_index.specs.SameKeys.{same_key-IsEquivalence}
use Rattle.fare_index.specs.Pairs.{permitted_key, ticketed_key, extra_key}
use Rattle.fare_index.proofs.SamePairs.{unordered}
use Rattle.fare_records.specs.declared.record.Record.{Record}
use Rattle.fare_records.specs.declared.record.Record.TheVariants as filed
use Rattle.fare_tariff.specs.Lookup.{first_some, city_in, currency_in, rule_in, rule_of, mpm_in, tpm_in, is_fare_between}
use Rattle.fare_records.specs.Fields.{same_pair, same_via}
use Rattle.fare_tariff.specs.Check.{is_allowance_of}
use Rattle.fare_records.specs.Keyed.{own_key, has_own_key, IsAmong}

-- the first answer of a list is that of the first record that answers
pub first_some-find : {A : Type 0} (answer : Record → Option A) (test : Record → Bool) → ((one : Record) → test one ≡ is_some (answer one)) → (all : List Record) → first_some answer all ≡ option_and_then answer (find test all)
first_some-find answer test tells [] = refl
first_some-find {A} answer test tells (x ∷ xs) = go (answer x) (test x) refl (tells x) (first_some-find answer test tells xs)
  where
    go : (o : Option A) (t : Bool) → o ≡ answer x → t ≡ is_some o → first_some answer xs ≡ option_and_then answer (find test xs) → option_or o (first_some answer xs) ≡ option_and_then answer (cond t (Some x) (find test xs))
    go None true e h later = cc
    go None false e h later = later
    go (Some v) true e h later = e
    go (Some v) false e h later = cc

-- a list answers nothing exactly where no record of it has the key
pub first_some-none : {A : Type 0} (answer : Record → Option A) (test : Record → Bool) → ((one : Record) → test one ≡ is_some (answer one)) → (k : ℕ) (all : List Record) → is_none (first_some answer all) ≡ is_none (position_from test k all)
first_some-none answer test tells k [] = refl
first_some-none {A} answer test tells k (x ∷ xs) = go (answer x) (test x) (tells x) (first_some-none answer test tells (k + 1) xs)
  where
    go : (o : Option A) (t : Bool) → t ≡ is_some o → is_none (first_some answer xs) ≡ is_none (position_from test (k + 1) xs) → is_none (option_or o (first_some answer xs)) ≡ is_none (cond t (Some k) (position_from test (k + 1) xs))
    go None true h later = cc
    go None false h later = later
    go (Some v) true h later = refl
    go (Some v) false h later = cc

-- a list answers something where a record of it does
pub answered_at : {A : Type 0} (answer : Record → Option A) (all : List Record) (place : ℕ) (one : Record) → slice_get all place ≡ Some one → is_some (answer one) ≡ true → is_none (first_some answer all) ≡ false
answered_at answer [] place one h s = cc
answered_at {A} answer (x ∷ xs) zero one h s =
    let same : x ≡ one = cc in
    go (answer x) (ap (λ r. is_some (answer r)) same ∙ s)
  where
    go : (o : Option A) → is_some o ≡ true → is_none (option_or o (first_some answer xs)) ≡ false
    go None e = cc
    go (Some v) e = refl
answered_at {A} answer (x ∷ xs) (suc place) one h s = go (answer x) (answered_at answer xs place one h s)
  where
    go : (o : Option A) → is_none (first_some answer xs) ≡ false → is_none (option_or o (first_some answer xs)) ≡ false
    go None later = later
    go (Some v) later = refl

-- what is there in a borrowed answer is there
pub told_by : {T : Type 0} (o : Option (Bor T)) (v : Option T) (r : Bool) → option_copied o ≡ v → r ≡ is_some o → r ≡ true → is_some v ≡ true
told_by None v r h s told = cc
told_by (Some one) v r h s told = ap is_some (sym h)

pub city_known : (city : City) (all : List Record) (one : Record) → IsAmong all one → is_some (city_in city one) ≡ true → is_none (first_some (city_in city) all) ≡ false
city_known city all one at told = answered_at (city_in city) all at.0 one at.1 told

-- a test gives a value exactly where it is true
some_where : {A : Type 0} (t : Bool) (v : A) → t ≡ is_some (cond t (Some v) None)
some_where true v = refl
some_where false v = refl

-- a key has a record as the record has the key
turned : (key : Key) (one : Record) → has_own_key key one ≡ same_key (own_key one) key
turned key one = same_key-IsEquivalence.symm key (own_key one)

pub city_tells : (city : City) (one : Record) → has_own_key (kind.City city) one ≡ is_some (city_in city one)
city_tells city (filed.City r) = turned (kind.City city) (filed.City r) ∙ some_where (bytes_eq r.code city) r
city_tells city _ = refl

pub currency_tells : (country : Country) (one : Record) → has_own_key (kind.Currency country) one ≡ is_some (currency_in country one)
currency_tells country (filed.Cur r) = turned (kind.Currency country) (filed.Cur r) ∙ some_where (bytes_eq r.country country) r
currency_tells country _ = refl

pub rule_tells : (id : RuleId) (one : Record) → has_own_key (kind.Rule id) one ≡ is_some (rule_in id one)
rule_tells id (filed.Rule r) = turned (kind.Rule id) (filed.Rule r) ∙ some_where (bytes_eq r.id id) r
rule_tells id _ = refl

pub mpm_tells : (a b : City) (ind : Indicator) (one : Record) → has_own_key (permitted_key a b ind) one ≡ is_some (mpm_in a b ind one)
mpm_tells a b ind (filed.Mpm r) =
    turned (permitted_key a b ind) (filed.Mpm r)
    ∙ ap (λ t. t && same_indicator r.ind ind) (unordered r.from r.to a b)
    ∙ some_where (same_pair r.from r.to a b && same_indicator r.ind ind) r.miles
mpm_tells a b ind _ = refl

pub tpm_tells : (a b : City) (one : Record) → has_own_key (ticketed_key a b) one ≡ is_some (tpm_in a b one)
tpm_tells a b (filed.Tpm r) =
    turned (ticketed_key a b) (filed.Tpm r) ∙ unordered r.from r.to a b ∙ some_where (same_pair r.from r.to a b) r.miles
tpm_tells a b _ = refl

-- the two tests of via fields are one
vias_same : (v w : Option City) → same_via_key v w ≡ same_via v w
vias_same None None = refl
vias_same None (Some w) = refl
vias_same (Some v) None = refl
vias_same (Some v) (Some w) = refl

pub ema_tells : (a b : City) (ind : Indicator) (via : Option City) (one : Record) → has_own_key (extra_key a b ind via) one ≡ is_allowance_of a b ind via one
ema_tells a b ind via (filed.Ema r) =
    turned (extra_key a b ind via) (filed.Ema r)
    ∙ ap (λ t. t && same_indicator r.ind ind && same_via_key r.via via) (unordered r.from r.to a b)
    ∙ ap (λ t. same_pair r.from r.to a b && same_indicator r.ind ind && t) (vias_same r.via via)
ema_tells a b ind via _ = refl

pub fare_tells : (from to : City) (ind : Indicator) (one : Record) → has_own_key (kind.Fares from to ind) one ≡ is_fare_between from to ind one
fare_tells from to ind (filed.Fare r) = turned (kind.Fares from to ind) (filed.Fare r)
fare_tells from to ind _ = refl

pub city_found : (city : City) (all : List Record) → first_some (city_in city) all ≡ option_and_then (city_in city) (find (has_own_key (kind.City city)) all)
city_found city all = first_some-find (city_in city) (has_own_key (kind.City city)) (city_tells city) all

pub currency_found : (country : Country) (all : List Record) → first_some (currency_in country) all ≡ option_and_then (currency_in country) (find (has_own_key (kind.Currency country)) all)
currency_found country all = first_some-find (currency_in country) (has_own_key (kind.Currency country)) (currency_tells country) all

-- two answers that are one of each record with a key are one of the first
answers_alike : {A : Type 0} (f g : Record → Option A) (test : Record → Bool) → ((one : Record) → test one ≡ true → f one ≡ g one) → (all : List Record) → option_and_then f (find test all) ≡ option_and_then g (find test all)
answers_alike f g test same [] = refl
answers_alike f g test same (x ∷ xs) = go (test x) refl (answers_alike f g test same xs)
  where
    go : (t : Bool) → test x ≡ t → option_and_then f (find test xs) ≡ option_and_then g (find test xs) → option_and_then f (cond t (Some x) (find test xs)) ≡ option_and_then g (cond t (Some x) (find test xs))
    go true h later = same x h
    go false h later = later

-- a record with a rule's key files that rule
rule_of_key : (id : RuleId) (one : Record) → has_own_key (kind.Rule id) one ≡ true → rule_in id one ≡ rule_of one
rule_of_key id (filed.Rule r) h = ap (λ t. cond t (Some r) None) (sym (turned (kind.Rule id) (filed.Rule r)) ∙ h)
rule_of_key id _ h = cc

pub rule_found : (id : RuleId) (all : List Record) → first_some (rule_in id) all ≡ option_and_then rule_of (find (has_own_key (kind.Rule id)) all)
rule_found id all =
    first_some-find (rule_in id) (has_own_key (kind.Rule id)) (rule_tells id) all
    ∙ answers_alike (rule_in id) rule_of (has_own_key (kind.Rule id)) (rule_of_key id) all

pub mpm_found : (a b : City) (ind : Indicator) (all : List Record) → first_some (mpm_in a b ind) all ≡ option_and_then (mpm_in a b ind) (find (has_own_key (permitted_key a b ind)) all)
mpm_found a b ind all = first_some-find (mpm_in a b ind) (has_own_key (permitted_key a b ind)) (mpm_tells a b ind) all

pub tpm_found : (a b : City) (all : List Record) → first_some (tpm_in a b) all ≡ option_and_then (tpm_in a b) (find (has_own_key (ticketed_key a b)) all)
tpm_found a b all = first_some-find (tpm_in a b) (has_own_key (ticketed_key a b)) (tpm_tells a b) all

-- what isn't there is none
pub none_told : {A : Type 0} (o : Option A) (r : Bool) → is_some o ≡ not r → r ≡ is_none o
none_told None true h = refl
none_told None false h = cc
none_told (Some v) true h = cc
none_told (Some v) false h = refl

pub city_unknown : (city : City) (all : List Record) → is_none (first_some (city_in city) all) ≡ is_none (position_from (has_own_key (kind.City city)) 0 all)
city_unknown city all = first_some-none (city_in city) (has_own_key (kind.City city)) (city_tells city) 0 all

pub currency_unknown : (country : Country) (all : List Record) → is_none (first_some (currency_in country) all) ≡ is_none (position_from (has_own_key (kind.Currency country)) 0 all)
currency_unknown country all = first_some-none (currency_in country) (has_own_key (kind.Currency country)) (currency_tells country) 0 all

pub rule_unknown : (id : RuleId) (all : List Record) → is_none (first_some (rule_in id) all) ≡ is_none (position_from (has_own_key (kind.Rule id)) 0 all)
rule_unknown id all = first_some-none (rule_in id) (has_own_key (kind.Rule id)) (rule_tells id) 0 all
