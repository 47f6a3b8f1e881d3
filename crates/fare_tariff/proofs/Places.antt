-- Places in a list, and in the front of it.
use Rattle.std.proofs.Common.{◌≡◌, ℕ, ◌+◌, ◌<◌, ◌≤◌, Bool, true, false, cond, List, [], ◌∷◌, take, Option, Some, None, is_some, option_map, slice_get, position, count_by, nat_le, refl, ap, sym, ◌∙◌, arith, zero, suc}
use Rattle.std.specs.List.{position_from}
use Rattle.std.proofs.lemmas.Iterator.Adapters.{position_from-zero}
use Rattle.std.proofs.lemmas.Bool.{lt-ltb, le-ltb}
use Rattle.std.proofs.lemmas.Bool.Decides.{nat_tests}
use Rattle.fare_records.specs.declared.record.Record.{Record}
use Rattle.fare_tariff.specs.Lookup.{number_at, numbers_from}
use Rattle.fare_records.specs.Keyed.{before}
use Rattle.fare_records.proofs.Chain.{found_from}
use Rattle.fare_tariff.proofs.FoundFares.{count_cons, counted, not_counted, nth_at}

-- a place that stands before another, and one that doesn't
pub stands_before : (place first : ℕ) → first < place → before place (Some first) ≡ Some first
stands_before place first h = ap (λ t. cond t (Some first) None) (lt-ltb first place h)

stands_behind : (place first : ℕ) → place ≤ first → before place (Some first) ≡ None
stands_behind place first h = ap (λ t. cond t (Some first) None) (le-ltb first place h)

-- no place from a place on stands before it
pub none_from : (test : Record → Bool) (place from : ℕ) (xs : List Record) (o : Option ℕ) → place ≤ from → position_from test from xs ≡ o → before place o ≡ None
none_from test place from xs None low h = refl
none_from test place from xs (Some first) low h = stands_behind place first (omega (arith, (found_from test from xs first h).behind, low))

-- a place in the front of a list is one in the list that stands before the front's end
from_before : (test : Record → Bool) (from place : ℕ) (xs : List Record) → position_from test from (take place xs) ≡ before (from + place) (position_from test from xs)
from_before test from zero [] = refl
from_before test from (suc place) [] = refl
from_before test from zero (x ∷ xs) = sym (none_from test (from + 0) from (x ∷ xs) (position_from test from (x ∷ xs)) (omega arith) refl)
from_before test from (suc place) (x ∷ xs) = go (test x) (from_before test (from + 1) place xs)
  where
    go : (t : Bool) → position_from test (from + 1) (take place xs) ≡ before (from + 1 + place) (position_from test (from + 1) xs) → cond t (Some from) (position_from test (from + 1) (take place xs)) ≡ before (from + suc place) (cond t (Some from) (position_from test (from + 1) xs))
    go true further = sym (stands_before (from + suc place) from (omega arith))
    go false further =
        let same : from + 1 + place ≡ from + suc place = omega arith in
        further ∙ ap (λ n. before n (position_from test (from + 1) xs)) same

pub position_before : (test : Record → Bool) (place : ℕ) (all : List Record) → position test (take place all) ≡ before place (position test all)
position_before test place all =
    let start : 0 + place ≡ place = omega arith in
    position_from-zero test (take place all) ∙ from_before test 0 place all ∙ ap (λ n. before n (position_from test 0 all)) start ∙ ap (before place) (sym (position_from-zero test all))

-- the k-th number of a list that begins two later is two greater
two_later : (test : Record → Bool) (from k : ℕ) (xs : List Record) → slice_get (numbers_from test (from + 2) xs) k ≡ option_map number_at (slice_get (numbers_from test from xs) k)
two_later test from k [] = refl
two_later test from k (x ∷ xs) = go (test x) k (λ j. two_later test (from + 1) j xs)
  where
    go : (t : Bool) (k : ℕ) → ((j : ℕ) → slice_get (numbers_from test (from + 1 + 2) xs) j ≡ option_map number_at (slice_get (numbers_from test (from + 1) xs) j)) → slice_get (cond t ((from + 2) ∷ numbers_from test (from + 2 + 1) xs) (numbers_from test (from + 2 + 1) xs)) k ≡ option_map number_at (slice_get (cond t (from ∷ numbers_from test (from + 1) xs) (numbers_from test (from + 1) xs)) k)
    go true zero further = refl
    go true (suc k) further =
        let same : from + 2 + 1 ≡ from + 1 + 2 = omega arith in
        ap (λ n. slice_get (numbers_from test n xs) k) same ∙ further k
    go false k further =
        let same : from + 2 + 1 ≡ from + 1 + 2 = omega arith in
        ap (λ n. slice_get (numbers_from test n xs) k) same ∙ further k

-- the k-th number from 2 on is that of the k-th place
pub numbered : (test : Record → Bool) (k : ℕ) (all : List Record) → slice_get (numbers_from test 2 all) k ≡ option_map number_at (slice_get (numbers_from test 0 all) k)
numbered test k all = two_later test 0 k all

-- none of the numbers from a number on stands before it
none_numbered : (test : Record → Bool) (from k : ℕ) (xs : List Record) (o : Option ℕ) → slice_get (numbers_from test from xs) k ≡ o → is_some (before (from + 0) o) ≡ false
none_numbered test from k xs None h = refl
none_numbered test from k xs (Some number) h =
    ap is_some (stands_behind (from + 0) number (omega (arith, (nth_at test from xs k number h).numbered)))

-- more than k of none aren't there, and one more adds one
not_of_none : (k : ℕ) → nat_le (k + 1) 0 ≡ false
not_of_none k = grind (arith, nat_tests)

one_of_some : (c : ℕ) → nat_le (zero + 1) (1 + c) ≡ true
one_of_some c = grind (arith, nat_tests)

one_more : (k c : ℕ) → nat_le (suc k + 1) (1 + c) ≡ nat_le (k + 1) c
one_more k c = grind (arith, nat_tests)

-- more than k of the front of a list pass exactly where the k-th number stands before the front's end
more_than : (test : Record → Bool) (from k place : ℕ) (xs : List Record) → nat_le (k + 1) (count_by test (take place xs)) ≡ is_some (before (from + place) (slice_get (numbers_from test from xs) k))
more_than test from k zero [] = not_of_none k
more_than test from k (suc place) [] = not_of_none k
more_than test from k zero (x ∷ xs) = not_of_none k ∙ sym (none_numbered test from k (x ∷ xs) (slice_get (numbers_from test from (x ∷ xs)) k) refl)
more_than test from k (suc place) (x ∷ xs) = ap (nat_le (k + 1)) (count_cons test x (take place xs)) ∙ go (test x) refl k (λ j. more_than test (from + 1) j place xs)
  where
    same : from + 1 + place ≡ from + suc place
    same = omega arith

    go : (t : Bool) → test x ≡ t → (k : ℕ) → ((j : ℕ) → nat_le (j + 1) (count_by test (take place xs)) ≡ is_some (before (from + 1 + place) (slice_get (numbers_from test (from + 1) xs) j))) → nat_le (k + 1) (count_by test (x ∷ []) + count_by test (take place xs)) ≡ is_some (before (from + suc place) (slice_get (cond t (from ∷ numbers_from test (from + 1) xs) (numbers_from test (from + 1) xs)) k))
    go true passes zero further =
        ap (λ n. nat_le (zero + 1) (n + count_by test (take place xs))) (counted test x passes)
        ∙ one_of_some (count_by test (take place xs))
        ∙ sym (ap is_some (stands_before (from + suc place) from (omega arith)))
    go true passes (suc k) further =
        ap (λ n. nat_le (suc k + 1) (n + count_by test (take place xs))) (counted test x passes)
        ∙ one_more k (count_by test (take place xs))
        ∙ further k
        ∙ ap (λ n. is_some (before n (slice_get (numbers_from test (from + 1) xs) k))) same
    go false fails k further =
        let none : count_by test (x ∷ []) + count_by test (take place xs) ≡ count_by test (take place xs) = omega (arith, not_counted test x fails) in
        ap (nat_le (k + 1)) none ∙ further k ∙ ap (λ n. is_some (before n (slice_get (numbers_from test (from + 1) xs) k))) same

pub too_many : (test : Record → Bool) (k place : ℕ) (all : List Record) → nat_le (k + 1) (count_by test (take place all)) ≡ is_some (before place (slice_get (numbers_from test 0 all) k))
too_many test k place all =
    let start : 0 + place ≡ place = omega arith in
    more_than test 0 k place all ∙ ap (λ n. is_some (before n (slice_get (numbers_from test 0 all) k))) start
