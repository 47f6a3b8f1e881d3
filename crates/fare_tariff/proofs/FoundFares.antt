-- What is known of the fares that the look-ups of an edition find.
use Rattle.std.proofs.Common.{◌≡◌, ℕ, ◌+◌, ◌-◌, ◌<◌, ◌≤◌, Bool, true, false, cond, ◌&&◌, ◌||◌, List, [], ◌∷◌, get_or, take, Option, Some, None, IsSome, IsSomeAnd, option_map, option_and_then, is_none, slice_get, position, count_by, bytes_eq, leb, refl, ap, ◌∙◌, arith, rules, zero, suc}
use Rattle.std.specs.List.{list_all}
use Rattle.std.proofs.lemmas.Bool.{le-leb, leb-true, leb-false, ltb-true}
use Rattle.std.proofs.lemmas.Option.{slice_get_within, slice_get-get_or, get_or_from_slice_get}
use Rattle.std.proofs.lemmas.List.Quantifiers.{position-Some}
use Rattle.std.proofs.lemmas.List.Sums.{sum_by-append}
use Rattle.fare_codes.specs.declared.city.City.{City}
use Rattle.fare_codes.specs.declared.rule_id.RuleId.{RuleId}
use Rattle.fare_codes.specs.declared.indicator.Indicator.{Indicator}
use Rattle.fare_codes.specs.declared.indicator.Indicator.TheVariants.{WH, EH, AT, PA, AP}
use Rattle.fare_codes.specs.declared.month_day.MonthDay.{MonthDay}
use Rattle.fare_codes.specs.Same.{same_indicator}
use Rattle.fare_codes.specs.declared.nuc.TheConstants.{FARE_LIMIT}
use Rattle.fare_records.specs.declared.limits.TheConstants.{MOST_FARES_BETWEEN, MOST_RECORDS}
use Rattle.fare_records.specs.declared.record.Record.{Record}
use Rattle.fare_records.specs.declared.record.Record.TheVariants as filed
use Rattle.fare_records.specs.declared.fare_key.FareKey.{FareKey}
use Rattle.fare_records.specs.Record.{FareRecord}
use Rattle.fare_tariff.specs.Tariff.{Tariff}
use Rattle.fare_tariff.specs.Lookup.{first_some, city_in, fare_at, fare_in, fare_number, is_fare_on, is_fare_between, number_at, numbers_from, nth_fare, has_key, terms, terms_of}
use Rattle.fare_tariff.specs.Check.{IsEdition, first_fault, is_one_unknown, is_unknown_rule}
use Rattle.fare_records.specs.Keyed.{has_amount_in_range}
use Rattle.fare_tariff.specs.Filed.{IsFiledFare, IsFareOn, IsFareBetween}
use Rattle.fare_tariff.proofs.Validity.{HasNoKind, no_kind_at, place_in_limit}
use Rattle.fare_tariff.proofs.Found.{some_there, bytes_eq-true, bytes_eq-false}

-- neither of two tests of which not one is true
or_false : (p q : Bool) → (p || q) ≡ false → (p ≡ false) × (q ≡ false)
or_false true q h = cc
or_false false q h = (refl, h)

-- both of two tests that are true together
pub and_true : (p q : Bool) → (p && q) ≡ true → (p ≡ true) × (q ≡ true)
and_true true q h = (refl, h)
and_true false q h = cc

-- the two cities of a pair that has no unknown city
both_known : (all : List Record) (a b : City) → is_one_unknown all a b None ≡ false → IsSome (first_some (city_in a) all) × IsSome (first_some (city_in b) all)
unfolding is_one_unknown
both_known all a b h =
    let p = or_false _ _ h in
    let q = or_false _ _ p.1 in
    (some_there _ p.0, some_there _ q.0)

-- what has an image is there
some_mapped : {A B : Type 0} (f : A → B) (o : Option A) → IsSome o → IsSome (option_map f o)
some_mapped f None h = h
some_mapped f (Some x) h = h

-- a rule field that isn't unknown has terms
rule_known : (tariff : Tariff) (rule : Option RuleId) → is_unknown_rule tariff.records rule ≡ false → IsSome (terms tariff rule)
rule_known tariff None h = search rules
rule_known tariff (Some id) h = some_mapped terms_of _ (some_there _ h)

-- what all of a list pass, one of it passes
passes_at : (test : Record → Bool) (all : List Record) (place : ℕ) (one : Record) → list_all test all ≡ true → slice_get all place ≡ Some one → test one ≡ true
passes_at test [] place one h there = cc
passes_at test (x ∷ xs) zero one h there =
    let same : x ≡ one = cc in
    rw same at (and_true (test x) (list_all test xs) h).0
passes_at test (x ∷ xs) (suc place) one h there = passes_at test xs place one (and_true (test x) (list_all test xs) h).1 there

-- a fare in form without a kind
fare_facts : (tariff : Tariff) (earlier : List Record) (fare : FareRecord) → has_amount_in_range (filed.Fare fare) ≡ true → HasNoKind tariff.records earlier (filed.Fare fare) → IsFiledFare tariff fare
fare_facts tariff earlier fare form kinds =
    let known = both_known tariff.records fare.from fare.to kinds.known_city in
    record {
      in_form = ltb-true fare.amount FARE_LIMIT form;
      points_differ = bytes_eq-false _ _ kinds.points_differ;
      from_known = known.0;
      to_known = known.1;
      rule_known = rule_known tariff fare.rule kinds.known_rule;
    }

-- a record that is there and files a fare
fare_in-some : (o : Option Record) (fare : FareRecord) → option_and_then fare_in o ≡ Some fare → o ≡ Some (filed.Fare fare)
fare_in-some None fare h = cc
fare_in-some (Some (filed.Fare s)) fare h = cc
fare_in-some (Some _) fare h = cc

-- what is given where a test holds
given_where : {A : Type 0} (test : Bool) (o : Option A) (v : A) → cond test o None ≡ Some v → (test ≡ true) × (o ≡ Some v)
given_where true o v h = (refl, h)
given_where false o v h = cc

-- the record of a number that files a fare
pub fare_at-some : (tariff : Tariff) (number : ℕ) (fare : FareRecord) → fare_at tariff number ≡ Some fare → (2 ≤ number) × (slice_get tariff.records (number - 2) ≡ Some (filed.Fare fare))
fare_at-some tariff number fare h =
    let p = given_where (leb 2 number) _ fare h in
    (leb-true 2 number p.0, fare_in-some _ fare p.1)

-- the fare of a record number in an edition
pub filed_fare : (tariff : Tariff) (number : ℕ) (fare : FareRecord) → IsEdition tariff.number tariff.records → fare_at tariff number ≡ Some fare → IsFiledFare tariff fare × (number ≤ MOST_RECORDS + 1)
filed_fare tariff number fare edition h =
    let valid = edition.no_fault in
    let p = fare_at-some tariff number fare h in
    let within = slice_get_within tariff.records (number - 2) (filed.Fare fare) p.1 in
    let kinds = no_kind_at tariff.records (number - 2) (filed.Fare fare) valid within in
    let same = get_or_from_slice_get tariff.records (number - 2) (filed.Fare fare) (filed.Fare fare) p.1 in
    let limit = place_in_limit tariff.records (number - 2) (filed.Fare fare) valid within in
    (fare_facts tariff _ fare (passes_at has_amount_in_range tariff.records (number - 2) (filed.Fare fare) edition.amounts_in_range p.1) (rw same at kinds), omega (arith, limit, p.0))

-- the fare at a place of the list is that of its record number
fare_at-place : (tariff : Tariff) (place : ℕ) (fare : FareRecord) → slice_get tariff.records place ≡ Some (filed.Fare fare) → fare_at tariff (place + 2) ≡ Some fare
fare_at-place tariff place fare h =
    let back : (place + 2) - 2 ≡ place = omega arith in
    let late : leb 2 (place + 2) ≡ true = le-leb 2 (place + 2) (omega arith) in
    rw (late, back, h) refl

-- a record that files a fare that has a key on a day
is_fare_on-true : (key : FareKey) (on : MonthDay) (one : Record) → is_fare_on key on one ≡ true → (fare : FareRecord) × (one ≡ filed.Fare fare) × IsFareOn key on fare
is_fare_on-true key on (filed.Fare s) h =
    let p = and_true (has_key key s) _ h in
    (s, refl, record { of_key = p.0; in_season = p.1 })
is_fare_on-true key on _ h = cc

-- a fare that is at a number and of which something holds
at_number : (tariff : Tariff) (P : FareRecord → Type 0) (number : ℕ) (fare : FareRecord) → fare_at tariff number ≡ Some fare → P fare → IsSomeAnd (fare_at tariff number) P
at_number tariff P number fare h p = rw h p

-- the number of a place
pub number_of_place : (o : Option ℕ) (number : ℕ) → option_map number_at o ≡ Some number → (place : ℕ) × (o ≡ Some place) × (number ≡ place + 2)
number_of_place None number h = cc
number_of_place (Some place) number h = (place, refl, cc)

-- the first record that passes a test is a place of the list
first_place : (test : Record → Bool) (all : List Record) (place : ℕ) → position test all ≡ Some place → (one : Record) × (slice_get all place ≡ Some one) × (test one ≡ true)
first_place test [] place h = cc
first_place test (x ∷ xs) place h =
    let p = position-Some test (x ∷ xs) place x h in
    (get_or (x ∷ xs) place x, slice_get-get_or (x ∷ xs) place x p.0, p.1)

-- the number that a key and a day give is that of a fare with the key whose season holds the day
pub filed_on : (tariff : Tariff) (key : FareKey) (on : MonthDay) (number : ℕ) → fare_number tariff key on ≡ Some number → IsSomeAnd (fare_at tariff number) (IsFareOn key on)
filed_on tariff key on number h =
    let n = number_of_place (position (is_fare_on key on) tariff.records) number h in
    let first = first_place (is_fare_on key on) tariff.records n.0 n.1 in
    let fare = is_fare_on-true key on first.0 first.2 in
    let there : slice_get tariff.records n.0 ≡ Some (filed.Fare fare.0) = first.1 ∙ ap Some fare.1 in
    rw n.2 (at_number tariff (IsFareOn key on) (n.0 + 2) fare.0 (fare_at-place tariff n.0 fare.0 there) fare.2)

-- the same indicator by the test is the same
pub same_indicator-true : (a b : Indicator) → same_indicator a b ≡ true → a ≡ b
same_indicator-true WH WH h = refl
same_indicator-true EH EH h = refl
same_indicator-true AT AT h = refl
same_indicator-true PA PA h = refl
same_indicator-true AP AP h = refl
same_indicator-true _ _ h = cc

-- a record that files a fare between two cities for an indicator
is_fare_between-true : (from to : City) (ind : Indicator) (one : Record) → is_fare_between from to ind one ≡ true → (fare : FareRecord) × (one ≡ filed.Fare fare) × IsFareBetween from to ind fare
is_fare_between-true from to ind (filed.Fare s) h =
    let p = and_true (bytes_eq s.from from && bytes_eq s.to to) (same_indicator s.ind ind) h in
    let q = and_true (bytes_eq s.from from) (bytes_eq s.to to) p.0 in
    (s, refl, record { of_from = bytes_eq-true _ _ q.0; of_to = bytes_eq-true _ _ q.1; of_ind = same_indicator-true _ _ p.1 })
is_fare_between-true from to ind _ h = cc

-- the k-th number of a list that begins at a number: its place, its record, and how many pass before it
pub record IsNth (test : Record → Bool) (from : ℕ) (all : List Record) (k number : ℕ) : Type 0 where
  pub place : ℕ
  pub numbered : number ≡ from + place
  pub one : Record
  pub there : slice_get all place ≡ Some one
  pub passes : test one ≡ true
  pub before : count_by test (take place all) ≡ k

-- a count begins with the first record
pub count_cons : (test : Record → Bool) (x : Record) (xs : List Record) → count_by test (x ∷ xs) ≡ count_by test (x ∷ []) + count_by test xs
count_cons test x xs = sum_by-append (λ one. cond (test one) 1 0) (x ∷ []) xs

-- one record counts as one where it passes, and as none where it doesn't
pub counted : (test : Record → Bool) (x : Record) → test x ≡ true → count_by test (x ∷ []) ≡ 1
counted test x h = rw h refl

pub not_counted : (test : Record → Bool) (x : Record) → test x ≡ false → count_by test (x ∷ []) ≡ 0
not_counted test x h = rw h refl

-- one record further
nth_later : (test : Record → Bool) (from : ℕ) (x : Record) (xs : List Record) (j k number : ℕ) → count_by test (x ∷ []) + j ≡ k → IsNth test (from + 1) xs j number → IsNth test from (x ∷ xs) k number
nth_later test from x xs j k number h nth = record {
  place = suc nth.place;
  numbered = omega (arith, nth.numbered);
  one = nth.one;
  there = nth.there;
  passes = nth.passes;
  before = count_cons test x (take nth.place xs) ∙ ap (λ n. count_by test (x ∷ []) + n) nth.before ∙ h;
}

-- the k-th number, where the first record passes or not
nth_step : (test : Record → Bool) (from : ℕ) (x : Record) (xs : List Record) (k number : ℕ) (t : Bool) → test x ≡ t → slice_get (cond t (from ∷ numbers_from test (from + 1) xs) (numbers_from test (from + 1) xs)) k ≡ Some number → ((j : ℕ) → slice_get (numbers_from test (from + 1) xs) j ≡ Some number → IsNth test (from + 1) xs j number) → IsNth test from (x ∷ xs) k number
nth_step test from x xs zero number true passes h later =
    let same : from ≡ number = cc in
    record { place = zero; numbered = omega (arith, same); one = x; there = refl; passes = passes; before = refl }
nth_step test from x xs (suc j) number true passes h later =
    let one : count_by test (x ∷ []) ≡ 1 = counted test x passes in
    nth_later test from x xs j (suc j) number (omega (arith, one)) (later j h)
nth_step test from x xs k number false fails h later =
    let none : count_by test (x ∷ []) ≡ 0 = not_counted test x fails in
    nth_later test from x xs k k number (omega (arith, none)) (later k h)

-- each number of the list of those that pass is the k-th for some k
pub nth_at : (test : Record → Bool) (from : ℕ) (all : List Record) (k number : ℕ) → slice_get (numbers_from test from all) k ≡ Some number → IsNth test from all k number
nth_at test from [] k number h = cc
nth_at test from (x ∷ xs) k number h =
    nth_step test from x xs k number (test x) refl h (λ j later. nth_at test (from + 1) xs j number later)

-- fewer fares than there may be of a from, to and indicator stand before one without a kind
few_before : (all earlier : List Record) (from to : City) (ind : Indicator) (fare : FareRecord) → IsFareBetween from to ind fare → HasNoKind all earlier (filed.Fare fare) → count_by (is_fare_between from to ind) earlier < MOST_FARES_BETWEEN
few_before all earlier from to ind fare between kinds =
    let few = leb-false MOST_FARES_BETWEEN (count_by (is_fare_between fare.from fare.to fare.ind) earlier) kinds.not_too_many in
    rw (between.of_from, between.of_to, between.of_ind) at few

-- the k-th number of a from, to and indicator is that of a fare between them, and k is below the greatest number of them
pub filed_nth : (tariff : Tariff) (from to : City) (ind : Indicator) (k number : ℕ) → is_none (first_fault tariff.records) ≡ true → nth_fare tariff from to ind k ≡ Some number → IsSomeAnd (fare_at tariff number) (IsFareBetween from to ind) × (k < MOST_FARES_BETWEEN)
filed_nth tariff from to ind k number valid h =
    let nth = nth_at (is_fare_between from to ind) 2 tariff.records k number h in
    let fare = is_fare_between-true from to ind nth.one nth.passes in
    let there : slice_get tariff.records nth.place ≡ Some (filed.Fare fare.0) = nth.there ∙ ap Some fare.1 in
    let numbered : number ≡ nth.place + 2 = omega (arith, nth.numbered) in
    let within = slice_get_within tariff.records nth.place (filed.Fare fare.0) there in
    let same = get_or_from_slice_get tariff.records nth.place (filed.Fare fare.0) (filed.Fare fare.0) there in
    let kinds = no_kind_at tariff.records nth.place (filed.Fare fare.0) valid within in
    let few = few_before tariff.records (take nth.place tariff.records) from to ind fare.0 fare.2 (rw same at kinds) in
    (rw numbered (at_number tariff (IsFareBetween from to ind) (nth.place + 2) fare.0 (fare_at-place tariff nth.place fare.0 there) fare.2), omega (arith, few, nth.before))
