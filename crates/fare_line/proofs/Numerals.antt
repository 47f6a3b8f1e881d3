-- Numbers, amounts and rates, as they are read.
use Rattle.std.proofs.Common.{◌≡◌, ◌∙◌, ◌<◌, ◌≤◌, ◌+◌, ◌-◌, ◌*◌, ◌/◌, ◌%◌, ◌^◌, ℕ, zero, suc, Bool, true, false, ◌&&◌, List, [], ◌∷◌, ◌++◌, length, get_or, nat_lt, nat_le, Option, Some, None, Result, Ok, Err, inl, inr, decimal, codes, refl, sym, ap, subst, arith, rules}
use Rattle.std.specs.Prelude.{IfOk}
use Rattle.std.proofs.lemmas.Bool.Decides.{nat_tests}
use Rattle.std.proofs.lemmas.Bool.{ltb-true, lt-ltb}
use Rattle.std.proofs.lemmas.Str.Parse.{IsNumeralModel, IsDigitsTest, numerals_by_value}
use Rattle.std.proofs.lemmas.Fmt.{digits_decimal, digits_value-decimal, decimal-digits_value, decimal_digit, decimal_nonempty, first_decimal}
use Rattle.std.specs.List.{list_all}
use Rattle.std.specs.Char.{is_ascii_digit, digit_value}
use Rattle.std.specs.Str.Parse.{digits_value, digits_value_after}
use Rattle.fare_line.specs.declared.reading.byte_kind.ByteKind.TheVariants.{Digit, Among}
use Rattle.fare_line.specs.reader.Reading.{◌>>=◌, Gives, byte_at, scan, word_at, with_digit, counted_at, nought_at, whole_at, hundredths_at}
use Rattle.fare_line.proofs.Readers.{Reads, Joined, IsByte, Or, joined, same, reads_byte, reads_either}
use Rattle.fare_line.proofs.Words.{IsWord, Mapped, both_tests, IsScanned, EndsAt, steps, steps_go, steps_none, none_is_not_some, some_is, mapped, reads_word, reads_scanned}

-- the words in which a number's digits are tested
digits_test : IsDigitsTest (λ ds. list_all is_ascii_digit ds ≡ true)
digits_test = search rules

pub digits_model : IsNumeralModel (λ ds. list_all is_ascii_digit ds ≡ true) (digits_value 10)
digits_model = numerals_by_value _ digits_test

-- the value of a digit
digit_is : (c : ℕ) → is_ascii_digit c ≡ true → digit_value c ≡ c - 48
digit_is c h = grind (arith, nat_tests)

pub digit_range : (c : ℕ) → is_ascii_digit c ≡ true → (48 ≤ c) × (c ≤ 57)
digit_range c h = (grind (arith, nat_tests), grind (arith, nat_tests))

pub is_digit : (c : ℕ) → 48 ≤ c → c ≤ 57 → is_ascii_digit c ≡ true
is_digit c low high = grind (arith, nat_tests)

-- more digits write no smaller number
value_after_ge : (n : ℕ) (ds : List ℕ) → n ≤ digits_value_after 10 n ds
value_after_ge n [] = omega arith
value_after_ge n (d ∷ ds) = omega (arith, value_after_ge (n * 10 + digit_value d) ds)

-- one digit more
digit_taken : (limit number byte : ℕ) → is_ascii_digit byte ≡ true → number < limit → with_digit limit number byte ≡ Some (10 * number + (byte - 48))
digit_taken limit number byte digit below = rw (digit, lt-ltb number limit below) refl

-- what a step says
digit_parts : (limit number byte next : ℕ) → with_digit limit number byte ≡ Some next → (is_ascii_digit byte ≡ true) × (number < limit) × (next ≡ 10 * number + (byte - 48))
digit_parts limit number byte next h = go (is_ascii_digit byte) refl (nat_lt number limit) refl
  where
    go : (a : Bool) → is_ascii_digit byte ≡ a → (b : Bool) → nat_lt number limit ≡ b → (is_ascii_digit byte ≡ true) × (number < limit) × (next ≡ 10 * number + (byte - 48))
    go true e true f = (e, ltb-true number limit f, sym (some_is (10 * number + (byte - 48)) next (rw (e, f) at h)))
    go true e false f = absurd (none_is_not_some next (rw (e, f) at h))
    go false e b f = absurd (none_is_not_some next (rw e at h))

-- digits that lead from one number to another
digits_lead : (limit : ℕ) (ds : List ℕ) (v w : ℕ) → steps (with_digit limit) v ds ≡ Some w
    → (list_all is_ascii_digit ds ≡ true) × (w ≡ digits_value_after 10 v ds) × (v < 10 * limit → w < 10 * limit)
digits_lead limit [] v w h = (refl, sym (some_is v w h), λ small. (let same_number = some_is v w h in omega arith))
digits_lead limit (d ∷ ds) v w h = go (λ next e. digits_lead limit ds next w (sym (steps_go (with_digit limit) v d next ds e) ∙ h)) (with_digit limit v d) refl
  where
    go : ((next : ℕ) → with_digit limit v d ≡ Some next → (list_all is_ascii_digit ds ≡ true) × (w ≡ digits_value_after 10 next ds) × (next < 10 * limit → w < 10 * limit))
        → (o : Option ℕ) → with_digit limit v d ≡ o → (list_all is_ascii_digit (d ∷ ds) ≡ true) × (w ≡ digits_value_after 10 v (d ∷ ds)) × (v < 10 * limit → w < 10 * limit)
    go others None e = absurd (none_is_not_some w (sym (steps_none (with_digit limit) v d ds e) ∙ h))
    go others (Some next) e =
        let parts = digit_parts limit v d next e in
        let rest = others next e in
        let digit = digit_is d parts.0 in
        let range = digit_range d parts.0 in
        let value : next ≡ v * 10 + digit_value d = (let n = parts.2 in omega arith) in
        let all : list_all is_ascii_digit (d ∷ ds) ≡ true = rw (parts.0, rest.0) refl in
        (all, rest.1 ∙ ap (λ (k : ℕ). digits_value_after 10 k ds) value, λ small. rest.2 (let n = parts.2 in let below = parts.1 in omega arith))

-- digits of a number that is small enough lead to it
lead_digits : (limit : ℕ) (ds : List ℕ) (v : ℕ) → list_all is_ascii_digit ds ≡ true → digits_value_after 10 v ds < 10 * limit → steps (with_digit limit) v ds ≡ Some (digits_value_after 10 v ds)
lead_digits limit [] v all small = refl
lead_digits limit (d ∷ ds) v all small =
    let tests = both_tests (is_ascii_digit d) (list_all is_ascii_digit ds) all in
    let digit = digit_is d tests.0 in
    let more : v * 10 + digit_value d ≤ digits_value_after 10 (v * 10 + digit_value d) ds = value_after_ge (v * 10 + digit_value d) ds in
    let value : 10 * v + (d - 48) ≡ v * 10 + digit_value d = omega arith in
    let below : v < limit = omega arith in
    steps_go (with_digit limit) v d (v * 10 + digit_value d) ds (digit_taken limit v d tests.0 below ∙ ap (λ (k : ℕ). Some k) value)
    ∙ lead_digits limit ds (v * 10 + digit_value d) tests.1 small

-- the point leads nowhere
point_ends : (limit : ℕ) → EndsAt (with_digit limit) 46
point_ends limit value = refl

-- ---- a number and its point

pub record IsWhole (limit number : ℕ) (text : List ℕ) : Type 0 where
  pub below : number < 10 * limit
  pub spelled : text ≡ decimal number ++ 46 ∷ []

record IsCounted (limit number : ℕ) (text : List ℕ) : Type 0 where
  some : 1 ≤ number
  whole : IsWhole limit number text

abbrev Counted : ℕ → ℕ → List ℕ → Type 0
Counted limit = Joined (IsByte (Among 49 57)) (λ (first : ℕ). IsScanned (with_digit limit) 46 (first - 48))

among : (c : ℕ) → (nat_le 49 c && nat_le c 57) ≡ true → (49 ≤ c) × (c ≤ 57)
among c h = (grind (arith, nat_tests), grind (arith, nat_tests))

in_range : (c : ℕ) → 49 ≤ c → c ≤ 57 → (nat_le 49 c && nat_le c 57) ≡ true
in_range c low high = grind (arith, nat_tests)

-- the value of a first digit and others
first_value : (c : ℕ) (ds : List ℕ) → is_ascii_digit c ≡ true → digits_value 10 (c ∷ ds) ≡ digits_value_after 10 (c - 48) ds
first_value c ds h = let digit = digit_is c h in ap (λ (k : ℕ). digits_value_after 10 k ds) (omega arith)

counted_to : (limit number : ℕ) (text : List ℕ) → 1 ≤ limit → limit ≤ 10 ^ 9 → Counted limit number text → IsCounted limit number text
counted_to limit number text least most j =
    let c = j.first in
    let ds = j.behind_is.bytes in
    let range = among c j.front_is.of_kind in
    let digit : is_ascii_digit c ≡ true = is_digit c (omega (arith, range.0)) (omega (arith, range.1)) in
    let lead = digits_lead limit ds (c - 48) number j.behind_is.leads in
    let all : list_all is_ascii_digit (c ∷ ds) ≡ true = rw (digit, lead.0) refl in
    let value : number ≡ digits_value 10 (c ∷ ds) = lead.1 ∙ sym (first_value c ds digit) in
    let below : number < 10 * limit = lead.2 (omega (arith, range.1)) in
    let small : digits_value 10 (c ∷ ds) < 2 ^ 64 = subst (λ (k : ℕ). k < 2 ^ 64) value (omega arith) in
    let written : decimal (digits_value 10 (c ∷ ds)) ≡ c ∷ ds = decimal-digits_value digits_model (c ∷ ds) all (omega arith) (λ (zero_first : c ≡ 48). absurd (omega (arith, range.0))) small in
    let is : decimal number ≡ c ∷ ds = ap decimal value ∙ written in
    record {
      some = omega (arith, lead.1, value_after_ge (c - 48) ds, range.0);
      whole = record {
        below = below;
        spelled = j.whole ∙ ap (λ (t : List ℕ). t ++ j.behind) j.front_is.alone ∙ ap (λ (t : List ℕ). c ∷ t) j.behind_is.whole ∙ ap (λ (t : List ℕ). t ++ 46 ∷ []) (sym is);
      };
    }

counted_from : (limit number : ℕ) (text : List ℕ) → limit ≤ 10 ^ 9 → IsCounted limit number text → Counted limit number text
counted_from limit number text most h = go (decimal number) refl
  where
    go : (ds : List ℕ) → decimal number ≡ ds → Counted limit number text
    go [] e = (let below = h.whole.below in absurd (omega (arith, decimal_nonempty number (omega arith), ap length e)))
    go (c ∷ ds) e =
        let below = h.whole.below in
        let some = h.some in
        let small : number < 2 ^ 64 = omega arith in
        let head : get_or (decimal number) 0 0 ≡ c = ap (λ (t : List ℕ). get_or t 0 0) e in
        let first : 48 < get_or (decimal number) 0 0 = first_decimal number some small in
        let all : list_all is_ascii_digit (c ∷ ds) ≡ true = subst (λ (t : List ℕ). list_all is_ascii_digit t ≡ true) e (digits_decimal digits_model number small) in
        let tests = both_tests (is_ascii_digit c) (list_all is_ascii_digit ds) all in
        let range = digit_range c tests.0 in
        let value : digits_value_after 10 (c - 48) ds ≡ number = sym (first_value c ds tests.0) ∙ ap (digits_value 10) (sym e) ∙ digits_value-decimal digits_model number small in
        record {
          first = c;
          front = c ∷ [];
          behind = ds ++ 46 ∷ [];
          front_is = record { of_kind = in_range c (omega arith) range.1; alone = refl };
          behind_is = record { bytes = ds; leads = lead_digits limit ds (c - 48) tests.1 (omega (arith, value, below)) ∙ ap (λ (k : ℕ). Some k) value; whole = refl };
          whole = h.whole.spelled ∙ ap (λ (t : List ℕ). t ++ 46 ∷ []) e;
        }

abbrev Nought : ℕ → List ℕ → Type 0
Nought = Mapped (IsWord (codes "0.")) (λ (u : Unit {0}). 0)

nought_is : decimal 0 ++ 46 ∷ [] ≡ codes "0."
nought_is = ap (λ (t : List ℕ). t ++ 46 ∷ []) (decimal_digit 0 (omega arith))

reads_counted : (limit : ℕ) → Reads (Counted limit) (counted_at limit)
unfolding counted_at
reads_counted limit =
    joined (IsByte (Among 49 57)) (λ (first : ℕ). IsScanned (with_digit limit) 46 (first - 48)) (byte_at (Among 49 57)) (λ (first : ℕ). scan (with_digit limit) 46 (first - 48))
    (reads_byte (Among 49 57) 49 refl) (λ a text h. reads_scanned (with_digit limit) 46 (point_ends limit) (a - 48))
    (λ a text h. (a - 48, 46 ∷ [], record { bytes = []; leads = refl; whole = refl }))

reads_nought : Reads Nought nought_at
unfolding nought_at
reads_nought = mapped (IsWord (codes "0.")) (λ (u : Unit {0}). 0) (word_at (codes "0.")) (reads_word (codes "0."))

pub reads_whole : (limit : ℕ) → 1 ≤ limit → limit ≤ 10 ^ 9 → Reads (IsWhole limit) (whole_at limit)
unfolding whole_at
reads_whole limit least most =
    same (Or (Counted limit) Nought) (IsWhole limit) (whole_at limit)
    (reads_either (Counted limit) Nought (counted_at limit) nought_at (reads_counted limit) reads_nought
    (λ a b s t x y p q e.
    let range = among p.first p.front_is.of_kind in
    let cells : p.first ∷ (p.behind ++ x) ≡ 48 ∷ (46 ∷ y) = ap (λ (u : List ℕ). u ++ x) (sym (p.whole ∙ ap (λ (u : List ℕ). u ++ p.behind) p.front_is.alone)) ∙ e ∙ ap (λ (u : List ℕ). u ++ y) q.is in
    let heads : p.first ≡ 48 = cc in
    absurd (omega (arith, range.0, heads))))
    (λ number text o. elim o [
      | inl j ↦ (counted_to limit number text least most j).whole
      | inr m ↦ record { below = omega (arith, m.value); spelled = m.is ∙ sym nought_is ∙ ap (λ (k : ℕ). decimal k ++ 46 ∷ []) (sym m.value) }
    ])
    (λ number text h. whole_from limit number text most h)
  where
    whole_from : (limit number : ℕ) (text : List ℕ) → limit ≤ 10 ^ 9 → IsWhole limit number text → Or (Counted limit) Nought number text
    whole_from limit zero text most h = inr (record { origin = tt; is = h.spelled ∙ nought_is; value = refl })
    whole_from limit (suc n) text most h = inl (counted_from limit (suc n) text most (record { some = omega arith; whole = h }))

-- ---- two digits

pub record IsHundredths (number : ℕ) (text : List ℕ) : Type 0 where
  pub below : number < 100
  pub spelled : text ≡ (48 + number / 10) ∷ (48 + number % 10) ∷ []

pub reads_hundredths : Reads IsHundredths hundredths_at
unfolding hundredths_at
reads_hundredths =
    same (Joined (IsByte Digit) (λ (a : ℕ). Mapped (IsByte Digit) (λ (b : ℕ). 10 * (a - 48) + (b - 48)))) IsHundredths hundredths_at
    (joined (IsByte Digit) (λ (a : ℕ). Mapped (IsByte Digit) (λ (b : ℕ). 10 * (a - 48) + (b - 48))) (byte_at Digit) (λ (a : ℕ) (rest : List ℕ). byte_at Digit rest >>= λ x. Ok (10 * (a - 48) + (x.0 - 48), x.1))
    (reads_byte Digit 48 refl) (λ a text h. mapped (IsByte Digit) (λ (b : ℕ). 10 * (a - 48) + (b - 48)) (byte_at Digit) (reads_byte Digit 48 refl))
    (λ a text h. (10 * (a - 48) + (48 - 48), 48 ∷ [], record { origin = 48; is = record { of_kind = refl; alone = refl }; value = refl })))
    (λ number text j.
    let a = j.first in
    let b = j.behind_is.origin in
    let tens = digit_range a j.front_is.of_kind in
    let ones = digit_range b j.behind_is.is.of_kind in
    let value = j.behind_is.value in
    let first : a ≡ 48 + number / 10 = omega arith in
    let second : b ≡ 48 + number % 10 = omega arith in
    record {
      below = omega arith;
      spelled = j.whole ∙ ap (λ (t : List ℕ). t ++ j.behind) j.front_is.alone ∙ ap (λ (t : List ℕ). a ∷ t) j.behind_is.is.alone
          ∙ ap (λ (k : ℕ). k ∷ b ∷ []) first ∙ ap (λ (k : ℕ). (48 + number / 10) ∷ k ∷ []) second;
    })
    (λ number text h.
    let below = h.below in
    record {
      first = 48 + number / 10;
      front = (48 + number / 10) ∷ [];
      behind = (48 + number % 10) ∷ [];
      front_is = record { of_kind = is_digit (48 + number / 10) (omega arith) (omega arith); alone = refl };
      behind_is = record { origin = 48 + number % 10; is = record { of_kind = is_digit (48 + number % 10) (omega arith) (omega arith); alone = refl }; value = omega arith };
      whole = h.spelled;
    })

-- a number that is read stays below ten times the limit
pub whole_below : (limit : ℕ) (bytes rest : List ℕ) (found : Result ℕ ℕ) → 1 ≤ limit → limit ≤ 10 ^ 9
    → Gives found rest (whole_at limit bytes) → IfOk found (λ (number : ℕ). number < 10 * limit)
whole_below limit bytes rest (Ok number) least most gives = ((reads_whole limit least most).found bytes rest number gives).1.below
whole_below limit bytes rest (Err left) least most gives = tt
