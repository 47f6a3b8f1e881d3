-- No edition holds a record twice: a later one of two equal records would have the key of the earlier.
use Rattle.std.proofs.Common.{◌≡◌, ℕ, zero, suc, ◌+◌, ◌<◌, Bool, true, false, cond, ◌||◌, List, [], ◌∷◌, length, get_or, take, Some, None, is_none, position, refl, ap, sym, ◌∙◌, arith, length-take-le}
use Rattle.std.specs.List.{position_from}
use Rattle.std.proofs.lemmas.Iterator.Adapters.{position_from-zero}
use Rattle.std.proofs.lemmas.List.{get_or-take}
use Rattle.fare_records.specs.declared.record.Record.{Record}
use Rattle.fare_records.specs.declared.record.Record.TheVariants as filed
use Rattle.fare_tariff.specs.Check.{first_fault, has_key_of}
use Rattle.fare_tariff.specs.Lookup.{number_at}
use Rattle.fare_tariff.proofs.Validity.{no_kind_at, option_map-none}
use Rattle.fare_changes.specs.SameRecord.{same_record}
use Rattle.fare_changes.specs.Diff.{is_in}
use Rattle.fare_changes.proofs.SameRecords.{record_true, text_refl, indicator_refl, cabin_refl, kind_refl, rule_refl, via_refl, season_refl}
use Rattle.fare_changes.proofs.Shuffled.{StandOnce}

-- a record has the key of one that equals it
own_key_of : (one : Record) → has_key_of one one ≡ true
own_key_of (filed.City r) = rw (text_refl r.code) refl
own_key_of (filed.Cur r) = rw (text_refl r.country) refl
own_key_of (filed.Rule r) = rw (text_refl r.id) refl
own_key_of (filed.Fare r) = rw (text_refl r.from, text_refl r.to, indicator_refl r.ind, text_refl r.carrier, cabin_refl r.class, kind_refl r.kind, rule_refl r.rule, season_refl r.season) refl
own_key_of (filed.Mpm r) = rw (text_refl r.from, text_refl r.to, indicator_refl r.ind) refl
own_key_of (filed.Tpm r) = rw (text_refl r.from, text_refl r.to) refl
own_key_of (filed.Ema r) = rw (text_refl r.from, text_refl r.to, indicator_refl r.ind, via_refl r.via) refl

-- where no place is found no record passes the test
none_passes : (test : Record → Bool) (from : ℕ) (xs : List Record) → position_from test from xs ≡ None → (i : ℕ) (d : Record) → i < length xs → test (get_or xs i d) ≡ false
none_passes test from [] h i d l = absurd (omega arith)
none_passes test from (x ∷ xs) h i d l = go (test x) refl h (none_passes test (from + 1) xs) i l
  where
    go : (t : Bool) → test x ≡ t → cond t (Some from) (position_from test (from + 1) xs) ≡ None → (position_from test (from + 1) xs ≡ None → (i : ℕ) (d : Record) → i < length xs → test (get_or xs i d) ≡ false) → (i : ℕ) → i < suc (length xs) → test (get_or (x ∷ xs) i d) ≡ false
    go true passes found rest i l = cc
    go false fails none rest zero l = fails
    go false fails none rest (suc i) l = rest none i d (omega arith)

-- a record before another in a list without a fault isn't equal to it
apart : (all : List Record) → is_none (first_fault all) ≡ true → (i j : ℕ) (d : Record) → i < j → j < length all → get_or all i d ≡ get_or all j d → true ≡ false
apart all valid i j d before within same =
    let later : Record = get_or all j d in
    let kinds = no_kind_at all j d valid within in
    let none : position_from (has_key_of later) 0 (take j all) ≡ None =
    sym (position_from-zero (has_key_of later) (take j all)) ∙ option_map-none number_at (position (has_key_of later) (take j all)) kinds.no_duplicate in
    let long : length (take j all) ≡ j = length-take-le j all (omega arith) in
    let fails : has_key_of later (get_or (take j all) i d) ≡ false = none_passes (has_key_of later) 0 (take j all) none i d (omega arith) in
    let there : get_or (take j all) i d ≡ get_or all i d = get_or-take j all i d before in
    sym (own_key_of later) ∙ ap (has_key_of later) (sym (there ∙ same)) ∙ fails

contradicts : true ≡ false → ⊥
contradicts h = cc

-- of two numbers neither of which is less they are one
between : (i j : ℕ) → (i < j → ⊥) → (j < i → ⊥) → i ≡ j
between i j less more = grind (arith, less, more)

-- equal records are at one place
pub stands_once : (all : List Record) → is_none (first_fault all) ≡ true → (i j : ℕ) (d : Record) → i < length all → j < length all → get_or all i d ≡ get_or all j d → i ≡ j
stands_once all valid i j d below within same =
    between i j (λ h. contradicts (apart all valid i j d h within same)) (λ h. contradicts (apart all valid j i d h below (sym same)))

-- a record that is in a list stands at a place of it
found_place : (xs : List Record) (x : Record) → is_in xs x ≡ true → (j : ℕ) × (j < length xs) × ((d : Record) → get_or xs j d ≡ x)
found_place [] x h = cc
found_place (y ∷ ys) x h = go (same_record x y) refl h (found_place ys x)
  where
    go : (t : Bool) → same_record x y ≡ t → (t || is_in ys x) ≡ true → (is_in ys x ≡ true → (j : ℕ) × (j < length ys) × ((d : Record) → get_or ys j d ≡ x)) → (j : ℕ) × (j < length (y ∷ ys)) × ((d : Record) → get_or (y ∷ ys) j d ≡ x)
    go true here there rest = (zero, omega arith, λ d. sym (record_true x y here))
    go false other there rest = let f = rest there in (suc f.0, omega (arith, f.1), λ d. f.2 d)

-- where equal records are at one place none comes again
once_each : (xs : List Record) → ((i j : ℕ) (d : Record) → i < length xs → j < length xs → get_or xs i d ≡ get_or xs j d → i ≡ j) → StandOnce xs
once_each [] places = tt
once_each (x ∷ xs) places = (
  go (is_in xs x) refl,
  once_each xs (λ i j d h k same. less i j (places (suc i) (suc j) d (omega arith) (omega arith) same)),
)
  where
    less : (i j : ℕ) → suc i ≡ suc j → i ≡ j
    less i j e = omega (arith, e)

    go : (t : Bool) → is_in xs x ≡ t → t ≡ false
    go true there =
        let f = found_place xs x there in
        let wrong : 0 ≡ suc f.0 = places 0 (suc f.0) x (omega arith) (omega (arith, f.1)) (sym (f.2 x)) in
        cc
    go false missing = refl

-- no record of a list without a fault comes again in it
pub edition_once : (all : List Record) → is_none (first_fault all) ≡ true → StandOnce all
edition_once all valid = once_each all (stands_once all valid)
