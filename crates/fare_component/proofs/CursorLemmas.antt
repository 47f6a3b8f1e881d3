-- The numbers of the records that pass a test, one after another, and a cursor over them.
use Rattle.std.proofs.Common.{◌≡◌, refl, ℕ, zero, suc, ◌+◌, ◌<◌, ◌≤◌, Bool, false, List, [], ◌∷◌, length, ap, sym, subst, ◌∙◌, arith, inl, inr, add-one}
use Rattle.std.specs.Prelude.{Option, Some, None, IfSome, OnSome, slice_get}
use Rattle.std.proofs.lemmas.Bool.{cases_Bool, cases_eq}
use Rattle.std.proofs.lemmas.Option.{same_Some, none-some}
use Rattle.fare_codes.specs.declared.city.City.{City}
use Rattle.fare_codes.specs.declared.indicator.Indicator.{Indicator}
use Rattle.fare_records.specs.declared.limits.TheConstants.{MOST_FARES_BETWEEN}
use Rattle.fare_records.specs.declared.record.Record.{Record}
use Rattle.fare_tariff.specs.Tariff.{Tariff}
use Rattle.fare_tariff.specs.Lookup.{numbers_from, is_fare_between, nth_fare, number_at}
use Rattle.fare_component.specs.declared.table.cursor.Cursor.{Cursor}
use Rattle.fare_component.specs.Candidates.{holds_at, StandsAt}

-- what holds of the value that there may be
pub of_value : (o : Option ℕ) (P : ℕ → Type 0) → ((n : ℕ) → o ≡ Some n → P n) → IfSome o P
of_value None P h = tt
of_value (Some n) P h = h n refl

module _ (test : Record → Bool) where
  -- no number is below the first
  pub number_low : (first : ℕ) (records : List Record) (k number : ℕ)
      → slice_get (numbers_from test first records) k ≡ Some number → first ≤ number
  number_low first [] k number e = absurd (none-some number e)
  number_low first (one ∷ records) zero number e =
      elim (cases_Bool (test one)) [
        | inl t ↦ let s : Some first ≡ Some number = rw t at e in omega (arith, same_Some first number s)
        | inr f ↦ omega (arith, number_low (first + 1) records zero number (rw f at e))
      ]
  number_low first (one ∷ records) (suc k) number e =
      elim (cases_Bool (test one)) [
        | inl t ↦ omega (arith, number_low (first + 1) records k number (rw t at e))
        | inr f ↦ omega (arith, number_low (first + 1) records (suc k) number (rw f at e))
      ]

  -- each is one of a record
  pub number_high : (first : ℕ) (records : List Record) (k number : ℕ)
      → slice_get (numbers_from test first records) k ≡ Some number → number < first + length records
  number_high first [] k number e = absurd (none-some number e)
  number_high first (one ∷ records) zero number e =
      elim (cases_Bool (test one)) [
        | inl t ↦ let s : Some first ≡ Some number = rw t at e in omega (arith, same_Some first number s)
        | inr f ↦ omega (arith, number_high (first + 1) records zero number (rw f at e))
      ]
  number_high first (one ∷ records) (suc k) number e =
      elim (cases_Bool (test one)) [
        | inl t ↦ omega (arith, number_high (first + 1) records k number (rw t at e))
        | inr f ↦ omega (arith, number_high (first + 1) records (suc k) number (rw f at e))
      ]

  -- they rise
  pub number_rises : (first : ℕ) (records : List Record) (k number next : ℕ)
      → slice_get (numbers_from test first records) k ≡ Some number
      → slice_get (numbers_from test first records) (suc k) ≡ Some next → number < next
  number_rises first [] k number next e n = absurd (none-some number e)
  number_rises first (one ∷ records) zero number next e n =
      elim (cases_Bool (test one)) [
        | inl t ↦ let s : Some first ≡ Some number = rw t at e in omega (arith, same_Some first number s, number_low (first + 1) records zero next (rw t at n))
        | inr f ↦ number_rises (first + 1) records zero number next (rw f at e) (rw f at n)
      ]
  number_rises first (one ∷ records) (suc k) number next e n =
      elim (cases_Bool (test one)) [
        | inl t ↦ number_rises (first + 1) records k number next (rw t at e) (rw t at n)
        | inr f ↦ number_rises (first + 1) records (suc k) number next (rw f at e) (rw f at n)
      ]

  -- no record before that of the first number passes
  pub none_before : (first : ℕ) (records : List Record) (place number : ℕ) → number ≡ first + place
      → IfSome (slice_get (numbers_from test first records) 0) (λ shown. number < shown)
      → holds_at test (slice_get records place) ≡ false
  none_before first [] place number e h = refl
  none_before first (one ∷ records) zero number e h =
      elim (cases_Bool (test one)) [
        | inl t ↦ let below : number < first = rw t at h in absurd (omega arith)
        | inr f ↦ f
      ]
  none_before first (one ∷ records) (suc place) number e h =
      elim (cases_Bool (test one)) [
        | inl t ↦ let below : number < first = rw t at h in absurd (omega arith)
        | inr f ↦ none_before (first + 1) records place number (omega arith) (rw f at h)
      ]

  -- nor does one between those of two numbers that follow each other
  pub none_between : (first : ℕ) (records : List Record) (k number place between : ℕ) → between ≡ first + place
      → slice_get (numbers_from test first records) k ≡ Some number → number < between
      → IfSome (slice_get (numbers_from test first records) (suc k)) (λ shown. between < shown)
      → holds_at test (slice_get records place) ≡ false
  none_between first [] k number place between e n low h = refl
  none_between first (one ∷ records) zero number zero between e n low h =
      elim (cases_Bool (test one)) [
        | inl t ↦ let s : Some first ≡ Some number = rw t at n in absurd (omega (arith, same_Some first number s))
        | inr f ↦ f
      ]
  none_between first (one ∷ records) zero number (suc place) between e n low h =
      elim (cases_Bool (test one)) [
        | inl t ↦ none_before (first + 1) records place between (omega arith) (rw t at h)
        | inr f ↦ none_between (first + 1) records zero number place between (omega arith) (rw f at n) low (rw f at h)
      ]
  none_between first (one ∷ records) (suc k) number zero between e n low h =
      elim (cases_Bool (test one)) [
        | inl t ↦ absurd (omega (arith, number_low (first + 1) records k number (rw t at n)))
        | inr f ↦ f
      ]
  none_between first (one ∷ records) (suc k) number (suc place) between e n low h =
      elim (cases_Bool (test one)) [
        | inl t ↦ none_between (first + 1) records k number place between (omega arith) (rw t at n) low (rw t at h)
        | inr f ↦ none_between (first + 1) records (suc k) number place between (omega arith) (rw f at n) low (rw f at h)
      ]

-- the cursor before the first fare stands at the first record number
pub stands_at_first : (tariff : Tariff) (from to : City) (ind : Indicator) (cursor : Cursor) → cursor.place ≡ 0
    → cursor.next ≡ nth_fare tariff from to ind 0 → OnSome cursor.next (0 < MOST_FARES_BETWEEN)
    → StandsAt tariff from to ind 2 cursor
stands_at_first tariff from to ind cursor p e more =
    let test = is_fare_between from to ind in
    record {
      next = e ∙ ap (nth_fare tariff from to ind) (sym p);
      few = omega arith;
      more = subst (λ k. OnSome cursor.next (k < MOST_FARES_BETWEEN)) (sym p) more;
      ahead = of_value cursor.next (λ shown. 2 ≤ shown) (λ shown s. number_low test 2 tariff.records 0 shown (sym e ∙ s));
      none_between = λ place low h. none_before test 2 tariff.records place (number_at place) (omega arith) (subst (λ o. IfSome o (λ shown. number_at place < shown)) e h);
    }

-- a cursor whose next fare has another number stands at the next number too
pub stands_on : (tariff : Tariff) (from to : City) (ind : Indicator) (number : ℕ) (cursor : Cursor)
    → StandsAt tariff from to ind number cursor → (cursor.next ≡ Some number → ⊥)
    → StandsAt tariff from to ind (number + 1) cursor
stands_on tariff from to ind number cursor s other =
    record {
      next = s.next;
      few = s.few;
      more = s.more;
      ahead = further cursor.next number s.ahead other;
      none_between = λ place low h. s.none_between place (omega arith) h;
    }
  where
    further : (o : Option ℕ) (number : ℕ) → IfSome o (λ shown. number ≤ shown) → (o ≡ Some number → ⊥)
        → IfSome o (λ shown. number + 1 ≤ shown)
    further None number h other = tt
    further (Some shown) number h other =
        elim (cases_eq shown number) [
          | inl same ↦ absurd (other (ap Some same))
          | inr differs ↦ omega arith
        ]

-- the cursor behind the fare that one shows next stands at the number behind it
pub stands_behind : (tariff : Tariff) (from to : City) (ind : Indicator) (number : ℕ) (cursor behind : Cursor)
    → StandsAt tariff from to ind number cursor → cursor.next ≡ Some number → behind.place ≡ cursor.place + 1
    → behind.next ≡ nth_fare tariff from to ind (cursor.place + 1)
    → OnSome behind.next (cursor.place + 1 < MOST_FARES_BETWEEN) → StandsAt tariff from to ind (number + 1) behind
stands_behind tariff from to ind number cursor behind s shown p e more =
    let test = is_fare_between from to ind in
    let here : slice_get (numbers_from test 2 tariff.records) cursor.place ≡ Some number = sym s.next ∙ shown in
    let after : behind.next ≡ slice_get (numbers_from test 2 tariff.records) (suc cursor.place) =
    e ∙ ap (nth_fare tariff from to ind) (add-one cursor.place) in
    let room : cursor.place < MOST_FARES_BETWEEN = subst (λ o. OnSome o (cursor.place < MOST_FARES_BETWEEN)) shown s.more in
    record {
      next = e ∙ ap (nth_fare tariff from to ind) (sym p);
      few = omega arith;
      more = subst (λ k. OnSome behind.next (k < MOST_FARES_BETWEEN)) (sym p) more;
      ahead = of_value behind.next (λ next. number + 1 ≤ next) (λ next n. omega (arith, number_rises test 2 tariff.records cursor.place number next here (sym after ∙ n)));
      none_between = λ place low h. none_between test 2 tariff.records cursor.place number place (number_at place) (omega arith) here (omega arith) (subst (λ o. IfSome o (λ next. number_at place < next)) after h);
    }
