-- What it gives that no record of a list has a kind.
use Rattle.std.proofs.Common.{◌≡◌, ℕ, ◌+◌, ◌<◌, ◌≤◌, Bool, true, false, List, [], ◌∷◌, length, get_or, take, drop, Option, Some, None, option_map, is_none, refl, sym, ◌∙◌, add-one, arith, length-take-le, zero, suc}
use Rattle.std.specs.Option.{option_or}
use Rattle.std.proofs.lemmas.Bool.{ltb-false}
use Rattle.fare_records.specs.declared.limits.TheConstants.{MOST_RECORDS}
use Rattle.fare_records.specs.declared.record.Record.{Record}
use Rattle.fare_tariff.specs.declared.check.check_kind.CheckKind.{CheckKind}
use Rattle.fare_tariff.specs.Check.{first_fault, first_fault_from, kind_of, kind_where, fault_at, first_number, has_key_of, names_unknown_city, names_unknown_rule, names_unknown_currency, is_one_too_many, has_same_points, is_zero_mileage, is_out_of_limit, overlap_of}
use Rattle.fare_tariff.proofs.Faults.{first_fault_more}

-- where neither of two is there, neither the first nor the second is
option_or-none : {A : Type 0} (a b : Option A) → option_or a b ≡ None → (a ≡ None) × (b ≡ None)
option_or-none None b h = (refl, h)
option_or-none (Some x) b h = cc

-- a kind that is not there is one whose test fails
kind_where-none : (there : Bool) (kind : CheckKind) → kind_where there kind ≡ None → there ≡ false
kind_where-none true kind h = cc
kind_where-none false kind h = refl

-- what has no image is not there
pub option_map-none : {A B : Type 0} (f : A → B) (o : Option A) → option_map f o ≡ None → o ≡ None
option_map-none f None h = refl
option_map-none f (Some x) h = cc

-- what is not there is nothing
is_none-none : {A : Type 0} (o : Option A) → is_none o ≡ true → o ≡ None
is_none-none None h = refl
is_none-none (Some x) h = cc

-- each kind that a record has not
pub record HasNoKind (all earlier : List Record) (one : Record) : Type 0 where
  pub no_duplicate : first_number (has_key_of one) earlier ≡ None
  pub known_city : names_unknown_city all one ≡ false
  pub known_rule : names_unknown_rule all one ≡ false
  pub known_currency : names_unknown_currency all one ≡ false
  pub not_too_many : is_one_too_many earlier one ≡ false
  pub points_differ : has_same_points one ≡ false
  pub above_zero : is_zero_mileage one ≡ false
  pub in_limit : is_out_of_limit earlier ≡ false
  pub no_overlap : overlap_of earlier one ≡ None

-- a record with no least kind has none of the kinds
pub no_kind-parts : (all earlier : List Record) (one : Record) → kind_of all earlier one ≡ None → HasNoKind all earlier one
unfolding kind_of
no_kind-parts all earlier one h =
    let a = option_or-none _ _ h in
    let b = option_or-none _ _ a.1 in
    let c = option_or-none _ _ b.1 in
    let d = option_or-none _ _ c.1 in
    let e = option_or-none _ _ d.1 in
    let f = option_or-none _ _ e.1 in
    let g = option_or-none _ _ f.1 in
    let i = option_or-none _ _ g.1 in
    record {
      no_duplicate = option_map-none _ _ a.0;
      known_city = kind_where-none _ _ b.0;
      known_rule = kind_where-none _ _ c.0;
      known_currency = kind_where-none _ _ d.0;
      not_too_many = kind_where-none _ _ e.0;
      points_differ = kind_where-none _ _ f.0;
      above_zero = kind_where-none _ _ g.0;
      in_limit = kind_where-none _ _ i.0;
      no_overlap = option_map-none _ _ i.1;
    }

-- what is left of a list without a fault has none
none_from : (all : List Record) (i : ℕ) (d : Record) → first_fault all ≡ None → i ≤ length all → first_fault_from all i (drop i all) ≡ None
none_from all zero d h l = h
none_from all (suc i) d h l =
    let before : first_fault_from all i (drop i all) ≡ None = none_from all i d h (omega arith) in
    let split : (fault_at all i (get_or all i d) ≡ None) × (first_fault_from all (i + 1) (drop (i + 1) all) ≡ None) = option_or-none _ _ (sym (first_fault_more all i d (omega arith)) ∙ before) in
    let after = split.1 in
    rw add-one at after

-- each record of a list without a fault has none of the kinds
pub no_kind_at : (all : List Record) (i : ℕ) (d : Record) → is_none (first_fault all) ≡ true → i < length all → HasNoKind all (take i all) (get_or all i d)
no_kind_at all i d h l =
    let before : first_fault_from all i (drop i all) ≡ None = none_from all i d (is_none-none _ h) (omega arith) in
    let split = option_or-none _ _ (sym (first_fault_more all i d l) ∙ before) in
    no_kind-parts _ _ _ (option_map-none _ _ split.0)

-- a place in a list without a fault is below the limit
pub place_in_limit : (all : List Record) (i : ℕ) (d : Record) → is_none (first_fault all) ≡ true → i < length all → i < MOST_RECORDS
place_in_limit all i d h l =
    let kinds = no_kind_at all i d h l in
    omega (arith, ltb-false (MOST_RECORDS + 1) (length (take i all) + 2) kinds.in_limit, length-take-le i all (omega arith))

-- a number that can't be above a limit is at most the limit
not_above : (n limit : ℕ) → (limit < n → limit < limit) → n ≤ limit
not_above n limit h = grind (arith, h)

-- a list without a fault is within the limit
pub length_in_limit : (all : List Record) → is_none (first_fault all) ≡ true → length all ≤ MOST_RECORDS
length_in_limit [] h = omega arith
length_in_limit (x ∷ xs) h = not_above _ _ (place_in_limit (x ∷ xs) MOST_RECORDS x h)
