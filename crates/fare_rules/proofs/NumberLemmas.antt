-- Ranges of numbers one step at a time, and what a search over one says of each of its members.
use Rattle.std.proofs.Common.{◌≡◌, refl, ℕ, zero, suc, ◌+◌, ◌-◌, ◌<◌, ◌≤◌, Bool, true, false, cond, ◌&&◌, ◌||◌, [], ◌∷◌, ◌++◌, ap, sym, subst, ◌∙◌, arith, inl, inr}
use Rattle.std.specs.Prelude.{Option, Some, None, find, filter, sum_by}
use Rattle.std.specs.List.{range_with_len, list_any, list_all}
use Rattle.std.proofs.lemmas.Bool.{cases_Bool, cases_eq}
use Rattle.std.proofs.lemmas.List.Sums.{sum_by-cons}
use Rattle.fare_codes.specs.Amounts.{greater}
use Rattle.fare_rules.specs.Numbers.{numbers, greatest_of}

-- a range that is not empty is its first number and the rest
pub numbers_next : (first past : ℕ) → first < past → numbers first past ≡ first ∷ numbers (first + 1) past
numbers_next first past h =
    let e : past - first ≡ suc (past - (first + 1)) = omega arith in
    ap (range_with_len first) e

-- and else there is nothing in it
pub numbers_none : (first past : ℕ) → past ≤ first → numbers first past ≡ []
numbers_none first past h =
    let e : past - first ≡ 0 = omega arith in
    ap (range_with_len first) e

-- a range that is one longer
pub range_more : (first n : ℕ) → range_with_len first (suc n) ≡ range_with_len first n ++ (first + n) ∷ []
range_more first zero = ap (λ k. k ∷ []) (omega arith)
range_more first (suc n) =
    let e : (first + 1) + n ≡ first + suc n = omega arith in
    ap (λ rest. first ∷ rest) (subst (λ k. range_with_len (first + 1) (suc n) ≡ range_with_len (first + 1) n ++ k ∷ []) e (range_more (first + 1) n))

pub numbers_more : (first past : ℕ) → first ≤ past → numbers first (past + 1) ≡ numbers first past ++ past ∷ []
numbers_more first past h =
    let e : (past + 1) - first ≡ suc (past - first) = omega arith in
    let f : first + (past - first) ≡ past = omega arith in
    ap (range_with_len first) e ∙ subst (λ k. range_with_len first (suc (past - first)) ≡ numbers first past ++ k ∷ []) f (range_more first (past - first))

-- what is looked for, counted, summed or gathered over a range, by its first number and the rest
pub find_next : (test : ℕ → Bool) (first past : ℕ) → first < past
    → find test (numbers first past) ≡ cond (test first) (Some first) (find test (numbers (first + 1) past))
find_next test first past h = ap (find test) (numbers_next first past h)

pub find_done : (test : ℕ → Bool) (first past : ℕ) → past ≤ first → find test (numbers first past) ≡ None
find_done test first past h = ap (find test) (numbers_none first past h)

pub any_next : (test : ℕ → Bool) (first past : ℕ) → first < past
    → list_any test (numbers first past) ≡ (test first || list_any test (numbers (first + 1) past))
any_next test first past h = ap (list_any test) (numbers_next first past h)

pub any_done : (test : ℕ → Bool) (first past : ℕ) → past ≤ first → list_any test (numbers first past) ≡ false
any_done test first past h = ap (list_any test) (numbers_none first past h)

pub all_next : (test : ℕ → Bool) (first past : ℕ) → first < past
    → list_all test (numbers first past) ≡ (test first && list_all test (numbers (first + 1) past))
all_next test first past h = ap (list_all test) (numbers_next first past h)

pub all_done : (test : ℕ → Bool) (first past : ℕ) → past ≤ first → list_all test (numbers first past) ≡ true
all_done test first past h = ap (list_all test) (numbers_none first past h)

pub filter_next : (test : ℕ → Bool) (first past : ℕ) → first < past
    → filter test (numbers first past) ≡ cond (test first) (first ∷ filter test (numbers (first + 1) past))
    (filter test (numbers (first + 1) past))
filter_next test first past h = ap (filter test) (numbers_next first past h)

pub filter_done : (test : ℕ → Bool) (first past : ℕ) → past ≤ first → filter test (numbers first past) ≡ []
filter_done test first past h = ap (filter test) (numbers_none first past h)

pub sum_next : (amount : ℕ → ℕ) (first past : ℕ) → first < past
    → sum_by amount (numbers first past) ≡ amount first + sum_by amount (numbers (first + 1) past)
sum_next amount first past h =
    ap (sum_by amount) (numbers_next first past h) ∙ sum_by-cons amount first (numbers (first + 1) past)

pub sum_done : (amount : ℕ → ℕ) (first past : ℕ) → past ≤ first → sum_by amount (numbers first past) ≡ 0
sum_done amount first past h = ap (sum_by amount) (numbers_none first past h)

pub greatest_next : (amount : ℕ → Option ℕ) (first past : ℕ) → first < past
    → greatest_of amount (numbers first past) ≡ greater (amount first) (greatest_of amount (numbers (first + 1) past))
greatest_next amount first past h = ap (greatest_of amount) (numbers_next first past h)

pub greatest_done : (amount : ℕ → Option ℕ) (first past : ℕ) → past ≤ first
    → greatest_of amount (numbers first past) ≡ None
greatest_done amount first past h = ap (greatest_of amount) (numbers_none first past h)

-- the greater of three amounts, whichever two come first
pub greater_grouped : (a b c : Option ℕ) → greater (greater a b) c ≡ greater a (greater b c)
greater_grouped None b c = refl
greater_grouped (Some a) None c = refl
greater_grouped (Some a) (Some b) None = refl
greater_grouped (Some a) (Some b) (Some c) = ap Some (omega arith)

some_none : (k : ℕ) → Some k ≡ None → ⊥
some_none k e = cc

-- where nothing is found in a range, each of its members fails the test
found_none : (test : ℕ → Bool) (first n : ℕ) → find test (range_with_len first n) ≡ None → (k : ℕ) → first ≤ k
    → k < first + n → test k ≡ false
found_none test first zero e k low high = absurd (omega arith)
found_none test first (suc n) e k low high =
    elim (cases_Bool (test first)) [
      | inl t ↦ absurd (some_none first (rw t at e))
      | inr f ↦ elim (cases_eq k first) [
        | inl same ↦ subst (λ i. test i ≡ false) (sym same) f
        | inr other ↦ found_none test (first + 1) n (rw f at e) k (omega arith) (omega arith)
      ]
    ]

pub find_none : (test : ℕ → Bool) (first past : ℕ) → find test (numbers first past) ≡ None → (k : ℕ) → first ≤ k
    → k < past → test k ≡ false
find_none test first past e k low high = found_none test first (past - first) e k low (omega arith)

true_false : true ≡ false → ⊥
true_false e = cc

neither_true : (a b : Bool) → (a || b) ≡ false → (a ≡ false) × (b ≡ false)
neither_true false b e = (refl, e)
neither_true true b e = absurd (true_false e)

rest_none : (p test : ℕ → Bool) (first n : ℕ) → list_any test (filter p (range_with_len first (suc n))) ≡ false
    → list_any test (filter p (range_with_len (first + 1) n)) ≡ false
rest_none p test first n e =
    elim (cases_Bool (p first)) [
      | inl t ↦ (neither_true (test first) (list_any test (filter p (range_with_len (first + 1) n))) (rw t at e)).1
      | inr f ↦ rw f at e
    ]

-- where no member of a range that passes one test passes another, each member that passes the first fails the other
kept_none : (p test : ℕ → Bool) (first n : ℕ) → list_any test (filter p (range_with_len first n)) ≡ false → (k : ℕ)
    → first ≤ k → k < first + n → p k ≡ true → test k ≡ false
kept_none p test first zero e k low high h = absurd (omega arith)
kept_none p test first (suc n) e k low high h =
    elim (cases_eq k first) [
      | inl same ↦
          let here : p first ≡ true = subst (λ i. p i ≡ true) same h in
          let parts = neither_true (test first) (list_any test (filter p (range_with_len (first + 1) n))) (rw here at e) in
          subst (λ i. test i ≡ false) (sym same) parts.0
      | inr other ↦ kept_none p test (first + 1) n (rest_none p test first n e) k (omega arith) (omega arith) h
    ]

pub any_kept_none : (p test : ℕ → Bool) (first past : ℕ) → list_any test (filter p (numbers first past)) ≡ false
    → (k : ℕ) → first ≤ k → k < past → p k ≡ true → test k ≡ false
any_kept_none p test first past e k low high h = kept_none p test first (past - first) e k low (omega arith) h
