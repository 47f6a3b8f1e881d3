-- The places of faulty records, one place further.
use Rattle.std.proofs.Common.{◌≡◌, ◌<◌, ◌≤◌, ℕ, zero, suc, ◌+◌, ◌-◌, Bool, true, false, cond, List, [], ◌∷◌, ◌++◌, length, take, drop, get_or, filter, Option, Some, None, is_some, option_map, option_and_then, slice_get, refl, ap, sym, ◌∙◌, arith, eq-eqb, length-drop}
use Rattle.std.specs.List.{range_with_len}
use Rattle.std.specs.Option.{option_or}
use Rattle.std.proofs.lemmas.Bool.{ne_eqb}
use Rattle.std.proofs.lemmas.Option.{slice_get-get_or}
use Rattle.fare_records.specs.declared.record.Record.{Record}
use Rattle.fare_tariff.specs.declared.check.check_kind.CheckKind.{CheckKind}
use Rattle.fare_tariff.specs.declared.check.check_fault.CheckFault.TheVariants.{At}
use Rattle.fare_tariff.specs.Check.{fault_at, first_fault, first_fault_from, kind_of}
use Rattle.fare_tariff.specs.Faulty.{fault_of, has_kind_at}
use Rattle.fare_tariff.specs.Lookup.{number_at}
use Rattle.fare_csv.specs.declared.text_fault.TextFault.{TextFault}
use Rattle.fare_csv.specs.CheckedFault.{checked_fault}
use Rattle.fare_csv.specs.Rows.{Fields}
use Rattle.fare_check.specs.Faults.{check_findings_from, faulty_from, of_row, stands_first}

-- the faulty places from one of the list on, and past its end
more : (all : List Record) (place : ℕ) → place < length all → faulty_from all place ≡ cond (has_kind_at all place) (place ∷ faulty_from all (place + 1)) (faulty_from all (place + 1))
unfolding faulty_from
more all place h =
    let count : length all - place ≡ suc (length all - (place + 1)) = omega arith in
    ap (λ n. filter (has_kind_at all) (range_with_len place n)) count

past : (all : List Record) (place : ℕ) → length all ≤ place → faulty_from all place ≡ []
unfolding faulty_from
past all place h =
    let count : length all - place ≡ 0 = omega arith in
    ap (λ n. filter (has_kind_at all) (range_with_len place n)) count

-- no place stands before those that are left
behind_first : (test : ℕ → Bool) (from count place : ℕ) → place < from → stands_first (filter test (range_with_len from count)) place ≡ false
behind_first test from zero place h = refl
behind_first test from (suc count) place h = go (test from) (behind_first test (from + 1) count place (omega arith))
  where
    go : (here : Bool) → stands_first (filter test (range_with_len (from + 1) count)) place ≡ false → stands_first (cond here (from ∷ filter test (range_with_len (from + 1) count)) (filter test (range_with_len (from + 1) count))) place ≡ false
    go true further = ne_eqb from place (λ e. omega (arith, e))
    go false further = further

behind_place : (all : List Record) (place : ℕ) → stands_first (faulty_from all (place + 1)) place ≡ false
unfolding faulty_from
behind_place all place = behind_first (has_kind_at all) (place + 1) (length all - (place + 1)) place (omega arith)

-- a place stands first among those that are left where its record is faulty
pub first_tells : (all : List Record) (left : List ℕ) (place : ℕ) → place < length all → left ≡ faulty_from all place → stands_first left place ≡ has_kind_at all place
first_tells all left place h e = ap (λ l. stands_first l place) (e ∙ more all place h) ∙ go (has_kind_at all place)
  where
    go : (here : Bool) → stands_first (cond here (place ∷ faulty_from all (place + 1)) (faulty_from all (place + 1))) place ≡ here
    go true = eq-eqb place place refl
    go false = behind_place all place

-- what is left behind a place
pub left_behind : (all : List Record) (left rest : List ℕ) (place : ℕ) → place < length all → left ≡ faulty_from all place → rest ≡ cond (stands_first left place) (drop 1 left) left → rest ≡ faulty_from all (place + 1)
left_behind all left rest place h e is =
    is ∙ ap (λ t. cond t (drop 1 left) left) (first_tells all left place h e)
    ∙ ap (λ l. cond (has_kind_at all place) (drop 1 l) l) (e ∙ more all place h) ∙ go (has_kind_at all place)
  where
    go : (here : Bool) → cond here (drop 1 (cond here (place ∷ faulty_from all (place + 1)) (faulty_from all (place + 1)))) (cond here (place ∷ faulty_from all (place + 1)) (faulty_from all (place + 1))) ≡ faulty_from all (place + 1)
    go true = refl
    go false = refl

-- whether a record has a fault, by the record at its place
tells_at : (all : List Record) (place : ℕ) (one : Record) → slice_get all place ≡ Some one → has_kind_at all place ≡ is_some (kind_of all (take place all) one)
tells_at all place one h = ap (λ o. is_some (option_and_then (kind_of all (take place all)) o)) h

-- a record that isn't faulty has no fault
pub faultless : (all : List Record) (place : ℕ) (one : Record) → place < length all → has_kind_at all place ≡ false → None ≡ option_map checked_fault (fault_at all place (get_or all place one))
faultless all place one h e = go (kind_of all (take place all) (get_or all place one)) (sym (tells_at all place (get_or all place one) (slice_get-get_or all place one h)) ∙ e)
  where
    go : (kind : Option CheckKind) → is_some kind ≡ false → None ≡ option_map checked_fault (option_map (At (number_at place)) kind)
    go None none = refl
    go (Some kind) none = cc

-- a record has a fault where it has a kind
pub same_tests : (all : List Record) (place : ℕ) → is_some (fault_of all place) ≡ has_kind_at all place
same_tests all place = go (slice_get all place)
  where
    of_kind : (kind : Option CheckKind) → is_some (option_map (At (number_at place)) kind) ≡ is_some kind
    of_kind None = refl
    of_kind (Some kind) = refl

    go : (one : Option Record) → is_some (option_and_then (fault_at all place) one) ≡ is_some (option_and_then (kind_of all (take place all)) one)
    go None = refl
    go (Some one) = of_kind (kind_of all (take place all) one)

-- the first of the faulty places is one of the list
first_within : (test : ℕ → Bool) (from count place : ℕ) → slice_get (filter test (range_with_len from count)) 0 ≡ Some place → place < from + count
first_within test from zero place h = cc h
first_within test from (suc count) place h = go (test from) h (λ e. first_within test (from + 1) count place e)
  where
    go : (here : Bool) → slice_get (cond here (from ∷ filter test (range_with_len (from + 1) count)) (filter test (range_with_len (from + 1) count))) 0 ≡ Some place
        → (slice_get (filter test (range_with_len (from + 1) count)) 0 ≡ Some place → place < (from + 1) + count) → place < from + suc count
    go true e further = let same : from ≡ place = cc e in omega (arith, same)
    go false e further = omega (arith, further e)

pub faulty_within : (all : List Record) (faulty : List ℕ) (place : ℕ) → faulty ≡ faulty_from all 0 → Some place ≡ slice_get faulty 0 → place < length all
unfolding faulty_from
faulty_within all faulty place e first =
    omega (arith, first_within (has_kind_at all) 0 (length all - 0) place (ap (λ l. slice_get l 0) (sym e) ∙ sym first))

-- what is left of a list, and its first record
left_length : (all rest : List Record) (place : ℕ) → rest ≡ drop place all → length rest ≡ length all - place
left_length all rest place e = ap length e ∙ length-drop place all

there : (all : List Record) (place : ℕ) (one : Record) (rest : List Record) → one ∷ rest ≡ drop place all → slice_get all place ≡ Some one
there [] zero one rest e = cc e
there [] (suc place) one rest e = cc e
there (x ∷ xs) zero one rest e = cc e
there (x ∷ xs) (suc place) one rest e = there xs place one rest e

left_further : (all : List Record) (place : ℕ) (one : Record) (rest : List Record) → one ∷ rest ≡ drop place all → rest ≡ drop (place + 1) all
left_further [] zero one rest e = cc e
left_further [] (suc place) one rest e = cc e
left_further (x ∷ xs) zero one rest e = cc e
left_further (x ∷ xs) (suc place) one rest e =
    let further : suc place + 1 ≡ suc (place + 1) = omega arith in
    rw further (left_further xs place one rest e)

-- the first fault of what is left of a list is that at the first faulty place
first_left : (all : List Record) (place : ℕ) (rest : List Record) → rest ≡ drop place all → first_fault_from all place rest ≡ option_and_then (fault_of all) (slice_get (faulty_from all place) 0)
unfolding first_fault_from
first_left all place [] e =
    let count = left_length all [] place e in
    ap (λ l. option_and_then (fault_of all) (slice_get l 0)) (sym (past all place (omega (arith, count))))
first_left all place (one ∷ rest) e =
    let count = left_length all (one ∷ rest) place e in
    let at = there all place one rest e in
    go (kind_of all (take place all) one) refl at (first_left all (place + 1) rest (left_further all place one rest e))
    ∙ ap (λ t. option_and_then (fault_of all) (slice_get (cond t (place ∷ faulty_from all (place + 1)) (faulty_from all (place + 1))) 0)) (sym (tells_at all place one at))
    ∙ ap (λ l. option_and_then (fault_of all) (slice_get l 0)) (sym (more all place (omega (arith, count))))
  where
    go : (kind : Option CheckKind) → kind ≡ kind_of all (take place all) one → slice_get all place ≡ Some one → first_fault_from all (place + 1) rest ≡ option_and_then (fault_of all) (slice_get (faulty_from all (place + 1)) 0)
        → option_or (option_map (At (number_at place)) (kind_of all (take place all) one)) (first_fault_from all (place + 1) rest) ≡ option_and_then (fault_of all) (slice_get (cond (is_some (kind_of all (take place all) one)) (place ∷ faulty_from all (place + 1)) (faulty_from all (place + 1))) 0)
    go None is at further =
        ap (λ k. option_or (option_map (At (number_at place)) k) (first_fault_from all (place + 1) rest)) (sym is)
        ∙ further
        ∙ ap (λ k. option_and_then (fault_of all) (slice_get (cond (is_some k) (place ∷ faulty_from all (place + 1)) (faulty_from all (place + 1))) 0)) is
    go (Some kind) is at further =
        ap (λ k. option_or (option_map (At (number_at place)) k) (first_fault_from all (place + 1) rest)) (sym is)
        ∙ ap (option_map (At (number_at place))) is
        ∙ ap (option_and_then (fault_at all place)) (sym at)
        ∙ ap (λ k. option_and_then (fault_of all) (slice_get (cond (is_some k) (place ∷ faulty_from all (place + 1)) (faulty_from all (place + 1))) 0)) is

pub first_of_places : (all : List Record) (faulty : List ℕ) → faulty ≡ faulty_from all 0 → first_fault all ≡ option_and_then (fault_of all) (slice_get faulty 0)
first_of_places all faulty e = first_left all 0 all refl ∙ ap (λ l. option_and_then (fault_of all) (slice_get l 0)) (sym e)

pub first_at : (all : List Record) (faulty : List ℕ) (place : ℕ) (found : Option TextFault) → faulty ≡ faulty_from all 0 → Some place ≡ slice_get faulty 0 → place < length all
    → ((one : Record) → found ≡ option_map checked_fault (fault_at all place (get_or all place one))) → found ≡ option_map checked_fault (first_fault all)
first_at [] faulty place found e first within is = absurd (omega (arith, within))
first_at (x ∷ xs) faulty place found e first within is =
    is x
    ∙ ap (λ o. option_map checked_fault (option_and_then (fault_at (x ∷ xs) place) o)) (sym (slice_get-get_or (x ∷ xs) place x within))
    ∙ ap (λ o. option_map checked_fault (option_and_then (fault_of (x ∷ xs)) o)) first
    ∙ ap (option_map checked_fault) (sym (first_of_places (x ∷ xs) faulty e))

-- with enough rows there are as many check findings as faulty places
as_many : (all : List Record) (place : ℕ) (rest : List Record) (rows : List Fields) → rest ≡ drop place all → length rest ≤ length rows → length (check_findings_from all place rest rows) ≡ length (faulty_from all place)
unfolding check_findings_from
as_many all place [] [] e h = let count = left_length all [] place e in ap length (sym (past all place (omega (arith, count))))
as_many all place [] (row ∷ rows) e h = let count = left_length all [] place e in ap length (sym (past all place (omega (arith, count))))
as_many all place (one ∷ rest) [] e h = absurd (omega arith)
as_many all place (one ∷ rest) (row ∷ rows) e h =
    let count = left_length all (one ∷ rest) place e in
    go (kind_of all (take place all) one) (as_many all (place + 1) rest rows (left_further all place one rest e) (omega arith))
    ∙ ap (λ t. length (cond t (place ∷ faulty_from all (place + 1)) (faulty_from all (place + 1)))) (sym (tells_at all place one (there all place one rest e)))
    ∙ ap length (sym (more all place (omega (arith, count))))
  where
    go : (kind : Option CheckKind) → length (check_findings_from all (place + 1) rest rows) ≡ length (faulty_from all (place + 1))
        → length (of_row row (option_map checked_fault (option_map (At (number_at place)) kind)) ++ check_findings_from all (place + 1) rest rows) ≡ length (cond (is_some kind) (place ∷ faulty_from all (place + 1)) (faulty_from all (place + 1)))
    go None further = further
    go (Some kind) further = ap suc further

pub as_many_left : (all : List Record) (left : List ℕ) (place : ℕ) (rows : List Fields) → left ≡ faulty_from all place → length all ≤ place + length rows → length (check_findings_from all place (drop place all) rows) ≡ length left
as_many_left all left place rows e h = as_many all place (drop place all) rows refl (omega (arith, length-drop place all)) ∙ ap length (sym e)
