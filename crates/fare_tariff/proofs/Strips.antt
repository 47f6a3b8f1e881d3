-- No record has a kind where no group has one, and each group begins in a block of some strip.
use Rattle.std.proofs.Common.{◌≡◌, ◌⊎◌, ℕ, All, ◌+◌, ◌-◌, ◌*◌, ◌/◌, ◌%◌, ◌<◌, ◌≤◌, ◌==◌, Bool, true, false, cond, List, [], ◌∷◌, length, get_or, Some, None, option_and_then, refl, ap, subst, sym, ◌∙◌, arith, zero, suc, inl, inr, ⊎_elim}
use Rattle.std.specs.Prelude.{MatchBool, not}
use Rattle.std.specs.List.{position_from, range_with_len}
use Rattle.std.proofs.lemmas.Bool.{cases_lt, eqb-true, eq-eqb}
use Rattle.std.proofs.lemmas.List.FromFn.{get_or-range_with_len, length-range_with_len}
use Rattle.fare_index.specs.Groups.{Grouped, group_of}
use Rattle.fare_records.specs.declared.record.Record.{Record}
use Rattle.fare_records.specs.Keyed.{own_key}
use Rattle.fare_records.proofs.Chain.{found_from, some_there}
use Rattle.fare_tariff.specs.Check.{first_fault}
use Rattle.fare_tariff.specs.Faulty.{fault_of, first_faulty, has_kind_at, is_of, IsClearAt}
use Rattle.fare_tariff.proofs.FaultPlaces.{fault_of_first}

-- a test that is passed at a place is first passed somewhere
found_up : (test : Record → Bool) (k : ℕ) (xs : List Record) (place : ℕ) (d : Record) → place < length xs → test (get_or xs place d) ≡ true → (first : ℕ) × (position_from test k xs ≡ Some first)
found_up test k [] place d within passes = absurd (omega (arith, within))
found_up test k (x ∷ xs) zero d within passes = (k, ap (λ t. cond t (Some k) (position_from test (k + 1) xs)) passes)
found_up test k (x ∷ xs) (suc place) d within passes = go (test x) (found_up test (k + 1) xs place d (omega (arith, within)) passes)
  where
    go : (t : Bool) → (first : ℕ) × (position_from test (k + 1) xs ≡ Some first) → (first : ℕ) × (cond t (Some k) (position_from test (k + 1) xs) ≡ Some first)
    go true later = (k, refl)
    go false later = later

-- no record has a kind where no group that begins somewhere has one
pub clear_everywhere : (all : List Record) (grouped : Grouped) → ((place : ℕ) → place < length all → IsClearAt all grouped place) → (place : ℕ) → place < length all → has_kind_at all place ≡ false
clear_everywhere all grouped each place within =
    let some = some_there all place within in
    let one = some.0 in
    let own : is_of grouped (own_key some.0) (get_or all place some.0) ≡ true = ap (is_of grouped (own_key some.0)) (sym some.1) ∙ eq-eqb _ _ refl in
    let found = found_up (is_of grouped (own_key some.0)) 0 all place some.0 within own in
    let there = found_from (is_of grouped (own_key some.0)) 0 all found.0 found.1 in
    let whole : found.0 - 0 ≡ found.0 = omega arith in
    let same : group_of grouped (own_key (get_or all found.0 some.0)) ≡ group_of grouped (own_key some.0) =
    ap (λ i. group_of grouped (own_key (get_or all i some.0))) (sym whole) ∙ eqb-true _ _ (there.passes some.0) in
    let first : position_from (is_of grouped (own_key (get_or all found.0 some.0))) 0 all ≡ Some found.0 =
    ap (λ n. position_from (λ x. group_of grouped (own_key x) == n) 0 all) same ∙ found.1 in
    let also : is_of grouped (own_key (get_or all found.0 some.0)) (get_or all place some.0) ≡ true =
    ap (λ n. group_of grouped (own_key (get_or all place some.0)) == n) same ∙ own in
    each found.0 (omega (arith, there.within)) some.0 first place some.0 within also

-- of the numbers of a range each passes where none is found that doesn't
pub each_of_range : (A : Type 0) (P : ℕ → Type 0) (n : ℕ) (strips : List ℕ) (some : Bool) → MatchBool some A (All (λ strip. false ≡ false → P strip) strips) → strips ≡ range_with_len 0 n → not some ≡ true → (strip : ℕ) → strip < n → P strip
each_of_range A P n strips true each are none = cc
each_of_range A P n strips false each are none = λ strip within.
    let start : 0 + strip ≡ strip = omega arith in
    let long : strip < length strips = omega (arith, within, ap length are, length-range_with_len 0 n) in
    let there : get_or strips strip 0 ≡ strip = ap (λ l. get_or l strip 0) are ∙ get_or-range_with_len 0 n strip 0 within ∙ start in
    subst P there (each strip 0 long refl)

-- a strip is at one of its blocks, or past the end
pub record IsAtBlock (all : List Record) (grouped : Grouped) (strip start : ℕ) : Type 0 where
  pub aligned : (start % 4096 ≡ strip * 64) ⊎ (length all ≤ start)
  pub clear : (place : ℕ) → place / 64 % 64 ≡ strip → place < length all → place < start → IsClearAt all grouped place

pub strip_first : (all : List Record) (grouped : Grouped) (strip start : ℕ) → strip < 64 → start ≡ strip * 64 → IsAtBlock all grouped strip start
strip_first all grouped strip start few is = record {
  aligned = inl (omega (arith, few, is));
  clear = λ place of_strip within low. absurd (omega (arith, of_strip, low, is, few));
}

pub strip_next : (all : List Record) (grouped : Grouped) (strip start next : ℕ) → start < length all → strip < 64 → ((place : ℕ) → start ≤ place → place < start + 64 → place < length all → IsClearAt all grouped place) → ((next ≡ start + 4096) ⊎ (length all ≤ next) × (length all ≤ start + 4096)) → IsAtBlock all grouped strip start → IsAtBlock all grouped strip next
strip_next all grouped strip start next before_end few block further at = record {
  aligned = ⊎_elim (λ one. inl (omega (arith, one, aligned))) (λ over. inr over.0) further;
  clear = λ place of_strip within low. ⊎_elim
      (λ lt. at.clear place of_strip within lt)
      (λ ge. block place ge (in_block place of_strip ge (up_to place low within)) within)
      (cases_lt place start);
}
  where
    aligned : start % 4096 ≡ strip * 64
    aligned = ⊎_elim (λ same. same) (λ past. absurd (omega (arith, past, before_end))) at.aligned

    up_to : (place : ℕ) → place < next → place < length all → place < start + 4096
    up_to place low within = ⊎_elim (λ one. omega (arith, one, low)) (λ over. omega (arith, over.1, within)) further

    in_block : (place : ℕ) → place / 64 % 64 ≡ strip → start ≤ place → place < start + 4096 → place < start + 64
    in_block place of_strip ge high = omega (arith, of_strip, ge, high, aligned, few)

-- a test that no number of a range passes is passed at none
none_of_range : (test : ℕ → Bool) (from count : ℕ) → ((p : ℕ) → p < from + count → test p ≡ false) → position_from test from (range_with_len from count) ≡ None
none_of_range test from zero h = refl
none_of_range test from (suc count) h =
    ap (λ t. cond t (Some from) (position_from test (from + 1) (range_with_len (from + 1) count))) (h from (omega arith))
    ∙ none_of_range test (from + 1) count (λ p low. h p (omega (arith, low)))

-- and there is no fault
pub no_fault : (all : List Record) → ((place : ℕ) → place < length all → has_kind_at all place ≡ false) → None ≡ first_fault all
no_fault all none =
    let faulty : first_faulty all ≡ None = none_of_range (has_kind_at all) 0 (length all) (λ p low. none p (omega (arith, low))) in
    sym (fault_of_first all ∙ ap (option_and_then (fault_of all)) faulty)
