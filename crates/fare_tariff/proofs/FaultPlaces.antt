-- The first fault of a list is that of the first place at which a record has a kind.
use Rattle.std.proofs.Common.{◌≡◌, ℕ, ◌+◌, ◌<◌, ◌≤◌, Bool, true, false, cond, List, [], ◌∷◌, length, get_or, take, drop, Option, Some, None, is_some, option_map, option_and_then, slice_get, refl, ap, sym, ◌∙◌, arith, length-take-le, zero, suc, ◌⊎◌, inl, inr, ⊎_elim}
use Rattle.std.specs.List.{position_from, range_with_len}
use Rattle.std.specs.Option.{option_or}
use Rattle.std.proofs.lemmas.Bool.{lt-ltb, false≢true, cases_eq, cases_lt}
use Rattle.std.proofs.lemmas.Option.{slice_get-get_or}
use Rattle.fare_records.specs.declared.limits.TheConstants.{MOST_RECORDS}
use Rattle.fare_records.specs.declared.record.Record.{Record}
use Rattle.fare_tariff.specs.declared.check.check_kind.CheckKind.{CheckKind}
use Rattle.fare_tariff.specs.declared.check.check_fault.CheckFault.TheVariants.{At}
use Rattle.fare_tariff.specs.Lookup.{number_at}
use Rattle.fare_tariff.specs.Check.{kind_of, fault_at, first_fault, first_fault_from, is_out_of_limit}
use Rattle.fare_records.proofs.Chain.{tail_left}
use Rattle.fare_tariff.proofs.Validity.{no_kind-parts}
use Rattle.fare_tariff.specs.Faulty.{has_kind_at, fault_of, first_faulty}

-- what is not nothing is there
some_unless : {A : Type 0} (o : Option A) → (o ≡ None → ⊥) → is_some o ≡ true
some_unless None h = absurd (h refl)
some_unless (Some v) h = refl

-- a record out of the limit has a kind
out_has_kind : (all earlier : List Record) (one : Record) → is_out_of_limit earlier ≡ true → is_some (kind_of all earlier one) ≡ true
out_has_kind all earlier one h = some_unless _ (λ none. false≢true (sym (no_kind-parts all earlier one none).in_limit ∙ h))

-- the record at a place
at_place : (all : List Record) (place : ℕ) (one : Record) → place < length all → one ≡ get_or all place one → slice_get all place ≡ Some one
at_place all place one within read = slice_get-get_or all place one within ∙ ap Some (sym read)

pub kind_at : (all : List Record) (place : ℕ) (one : Record) → place < length all → one ≡ get_or all place one → has_kind_at all place ≡ is_some (kind_of all (take place all) one)
kind_at all place one within read = ap (λ o. is_some (option_and_then (kind_of all (take place all)) o)) (at_place all place one within read)

-- a list with a place has a record there
some_at : (all : List Record) (place : ℕ) → place < length all → (one : Record) × (slice_get all place ≡ Some one)
some_at [] place h = absurd (omega arith)
some_at (x ∷ xs) zero h = (x, refl)
some_at (x ∷ xs) (suc place) h = some_at xs place (omega arith)

pub out_at : (all : List Record) (place : ℕ) → place < length all → MOST_RECORDS ≤ place → has_kind_at all place ≡ true
out_at all place within out =
    let some = some_at all place within in
    let front : length (take place all) ≡ place = length-take-le place all (omega arith) in
    let above : MOST_RECORDS + 1 < length (take place all) + 2 = omega (arith, front, out) in
    ap (λ o. is_some (option_and_then (kind_of all (take place all)) o)) some.1
    ∙ out_has_kind all (take place all) some.0 (lt-ltb (MOST_RECORDS + 1) (length (take place all) + 2) above)

-- what is known of the first number of a range that passes
pub record IsFirstOf (test : ℕ → Bool) (from count place : ℕ) : Type 0 where
  pub behind : from ≤ place
  pub within : place < from + count
  pub passes : test place ≡ true
  pub earlier : (p : ℕ) → from ≤ p → p < place → test p ≡ false

pub first_of_range : (test : ℕ → Bool) (from count place : ℕ) → position_from test from (range_with_len from count) ≡ Some place → IsFirstOf test from count place
first_of_range test from zero place h = cc
first_of_range test from (suc count) place h = go (test from) refl h (first_of_range test (from + 1) count place)
  where
    cases : (p : ℕ) → from ≤ p → (p ≡ from) ⊎ (from + 1 ≤ p)
    cases p low = ⊎_elim (λ e. inl e) (λ ne. inr (omega (arith, ne))) (cases_eq p from)

    go : (t : Bool) → test from ≡ t → cond t (Some from) (position_from test (from + 1) (range_with_len (from + 1) count)) ≡ Some place → (position_from test (from + 1) (range_with_len (from + 1) count) ≡ Some place → IsFirstOf test (from + 1) count place) → IsFirstOf test from (suc count) place
    go true passes here further =
        let same : from ≡ place = cc in
        record {
          behind = omega (arith, same);
          within = omega (arith, same);
          passes = ap test (sym same) ∙ passes;
          earlier = λ p low high. absurd (omega (arith, same));
        }
    go false fails later further =
        let rest = further later in
        record {
          behind = omega (arith, rest.behind);
          within = omega (arith, rest.within);
          passes = rest.passes;
          earlier = λ p low high. ⊎_elim (λ e. ap test e ∙ fails) (λ above. rest.earlier p above high) (cases p low);
        }

-- the first place at which a record has a kind is a place of the list, and at most the limit
pub faulty_within : (all : List Record) (place : ℕ) → first_faulty all ≡ Some place → place < length all
faulty_within all place h = omega (arith, (first_of_range (has_kind_at all) 0 (length all) place h).within)

at_most : (n limit : ℕ) → (limit < n → ⊥) → n ≤ limit
at_most n limit h = ⊎_elim (λ lt. absurd (h lt)) (λ ge. ge) (cases_lt limit n)

pub faulty_in_limit : (all : List Record) (place : ℕ) → first_faulty all ≡ Some place → place ≤ MOST_RECORDS
faulty_in_limit all place h =
    let first = first_of_range (has_kind_at all) 0 (length all) place h in
    at_most place MOST_RECORDS (λ above.
    let within : MOST_RECORDS < length all = omega (arith, first.within) in
    false≢true (sym (first.earlier MOST_RECORDS (omega arith) above) ∙ out_at all MOST_RECORDS within (omega arith)))

-- the first of what is left after a place of a list stands at the place
head_left : (all : List Record) (k : ℕ) (x : Record) (xs : List Record) → x ∷ xs ≡ drop k all → slice_get all k ≡ Some x
head_left [] zero x xs h = cc
head_left [] (suc k) x xs h = cc
head_left (y ∷ ys) zero x xs h = cc
head_left (y ∷ ys) (suc k) x xs h = head_left ys k x xs h

-- the first fault of what is left of a list is that of the first place from there on
fault_left : (all : List Record) (k : ℕ) (xs : List Record) → xs ≡ drop k all → first_fault_from all k xs ≡ option_and_then (fault_of all) (position_from (has_kind_at all) k (range_with_len k (length xs)))
unfolding first_fault_from
fault_left all k [] left = refl
fault_left all k (x ∷ xs) left =
    let there = head_left all k x xs left in
    let tells : has_kind_at all k ≡ is_some (kind_of all (take k all) x) = ap (λ o. is_some (option_and_then (kind_of all (take k all)) o)) there in
    go (kind_of all (take k all) x) refl there (fault_left all (k + 1) xs (tail_left all k x xs left))
    ∙ ap (λ t. option_and_then (fault_of all) (cond t (Some k) (position_from (has_kind_at all) (k + 1) (range_with_len (k + 1) (length xs))))) (sym tells)
  where
    go : (kind : Option CheckKind) → kind ≡ kind_of all (take k all) x → slice_get all k ≡ Some x → first_fault_from all (k + 1) xs ≡ option_and_then (fault_of all) (position_from (has_kind_at all) (k + 1) (range_with_len (k + 1) (length xs))) → option_or (option_map (At (number_at k)) (kind_of all (take k all) x)) (first_fault_from all (k + 1) xs) ≡ option_and_then (fault_of all) (cond (is_some (kind_of all (take k all) x)) (Some k) (position_from (has_kind_at all) (k + 1) (range_with_len (k + 1) (length xs))))
    go None is there further =
        ap (λ o. option_or (option_map (At (number_at k)) o) (first_fault_from all (k + 1) xs)) (sym is)
        ∙ further
        ∙ ap (λ o. option_and_then (fault_of all) (cond (is_some o) (Some k) (position_from (has_kind_at all) (k + 1) (range_with_len (k + 1) (length xs))))) is
    go (Some kind) is there further =
        ap (λ o. option_or (option_map (At (number_at k)) o) (first_fault_from all (k + 1) xs)) (sym is)
        ∙ ap (option_map (At (number_at k))) is
        ∙ ap (option_and_then (fault_at all k)) (sym there)
        ∙ ap (λ o. option_and_then (fault_of all) (cond (is_some o) (Some k) (position_from (has_kind_at all) (k + 1) (range_with_len (k + 1) (length xs))))) is

pub fault_of_first : (all : List Record) → first_fault all ≡ option_and_then (fault_of all) (first_faulty all)
fault_of_first all = fault_left all 0 all refl
