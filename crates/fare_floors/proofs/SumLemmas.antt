-- Sums over ranges of numbers, and over those of their members that pass a test.
use Rattle.std.proofs.Common.{◌≡◌, ℕ, zero, suc, ◌+◌, ◌<◌, ◌≤◌, Bool, true, false, cond, eqb, List, [], ◌∷◌, ◌++◌, refl, ap, sym, subst, ◌∙◌, inl, inr, arith}
use Rattle.std.specs.Prelude.{filter, sum_by}
use Rattle.std.specs.List.{range_with_len}
use Rattle.std.proofs.lemmas.Bool.{cases_Bool, cases_eq, eq-eqb, ne_eqb}
use Rattle.std.proofs.lemmas.List.Sums.{sum_by-cons}
use Rattle.fare_rules.specs.declared.part.Part.{Part}
use Rattle.fare_rules.specs.Construction.{is_own, unit_of, greatest_unit}
use Rattle.fare_rules.specs.Numbers.{numbers}
use Rattle.fare_rules.proofs.NumberLemmas.{numbers_next, numbers_none}
use Rattle.fare_rules.proofs.MemberLemmas.{Member}

-- a sum of lesser amounts is less
pub sum_up : (f g : ℕ → ℕ) (first n : ℕ) → ((u : ℕ) → first ≤ u → u < first + n → f u ≤ g u) → sum_by f (range_with_len first n) ≤ sum_by g (range_with_len first n)
sum_up f g first zero h = omega arith
sum_up f g first (suc n) h =
    let a : sum_by f (range_with_len first (suc n)) ≡ f first + sum_by f (range_with_len (first + 1) n) = sum_by-cons f first (range_with_len (first + 1) n) in
    let b : sum_by g (range_with_len first (suc n)) ≡ g first + sum_by g (range_with_len (first + 1) n) = sum_by-cons g first (range_with_len (first + 1) n) in
    let here : f first ≤ g first = h first (omega arith) (omega arith) in
    let more : sum_by f (range_with_len (first + 1) n) ≤ sum_by g (range_with_len (first + 1) n) = sum_up f g (first + 1) n (λ u low high. h u (omega arith) (omega arith)) in
    omega arith

pub sum_up_members : (f g : ℕ → ℕ) (xs : List ℕ) → ((k : ℕ) → Member k xs → f k ≤ g k) → sum_by f xs ≤ sum_by g xs
sum_up_members f g [] h = omega arith
sum_up_members f g (x ∷ xs) h =
    let a : sum_by f (x ∷ xs) ≡ f x + sum_by f xs = sum_by-cons f x xs in
    let b : sum_by g (x ∷ xs) ≡ g x + sum_by g xs = sum_by-cons g x xs in
    let here : f x ≤ g x = h x (inl refl) in
    let more : sum_by f xs ≤ sum_by g xs = sum_up_members f g xs (λ k m. h k (inr m)) in
    omega arith

pub sum_plus : (f g : ℕ → ℕ) (xs : List ℕ) → sum_by (λ x. f x + g x) xs ≡ sum_by f xs + sum_by g xs
sum_plus f g [] = refl
sum_plus f g (x ∷ xs) =
    let e : sum_by (λ y. f y + g y) (x ∷ xs) ≡ (f x + g x) + sum_by (λ y. f y + g y) xs = sum_by-cons (λ y. f y + g y) x xs in
    let more : sum_by (λ y. f y + g y) xs ≡ sum_by f xs + sum_by g xs = sum_plus f g xs in
    let a : sum_by f (x ∷ xs) ≡ f x + sum_by f xs = sum_by-cons f x xs in
    let b : sum_by g (x ∷ xs) ≡ g x + sum_by g xs = sum_by-cons g x xs in
    omega arith

-- a sum over fewer numbers is less
pub sum_fewer : (f : ℕ → ℕ) (first n m : ℕ) → n ≤ m → sum_by f (range_with_len first n) ≤ sum_by f (range_with_len first m)
sum_fewer f first zero m h = omega arith
sum_fewer f first (suc n) zero h = absurd (omega arith)
sum_fewer f first (suc n) (suc m) h =
    let a : sum_by f (range_with_len first (suc n)) ≡ f first + sum_by f (range_with_len (first + 1) n) = sum_by-cons f first (range_with_len (first + 1) n) in
    let b : sum_by f (range_with_len first (suc m)) ≡ f first + sum_by f (range_with_len (first + 1) m) = sum_by-cons f first (range_with_len (first + 1) m) in
    let more : sum_by f (range_with_len (first + 1) n) ≤ sum_by f (range_with_len (first + 1) m) = sum_fewer f (first + 1) n m (omega arith) in
    omega arith

-- a number of a range counts once at least
once : (w x first n : ℕ) → first ≤ w → w < first + n → x ≤ sum_by (λ u. cond (eqb w u) x 0) (range_with_len first n)
once w x first zero low high = absurd (omega arith)
once w x first (suc n) low high =
    let e : sum_by (λ u. cond (eqb w u) x 0) (range_with_len first (suc n)) ≡ cond (eqb w first) x 0 + sum_by (λ u. cond (eqb w u) x 0) (range_with_len (first + 1) n) = sum_by-cons (λ u. cond (eqb w u) x 0) first (range_with_len (first + 1) n) in
    elim (cases_eq w first) [
      | inl same ↦
          let here : sum_by (λ u. cond (eqb w u) x 0) (range_with_len first (suc n)) ≡ x + sum_by (λ u. cond (eqb w u) x 0) (range_with_len (first + 1) n) = rw (eq-eqb w first same) at e in
          omega arith
      | inr other ↦
          let more : x ≤ sum_by (λ u. cond (eqb w u) x 0) (range_with_len (first + 1) n) = once w x (first + 1) n (omega arith) (omega arith) in
          omega arith
    ]

split_own : (parts : List Part) (f : ℕ → ℕ) (x : ℕ) (xs : List ℕ) (u : ℕ) → cond (eqb (unit_of parts x) u) (f x) 0 + sum_by f (filter (is_own parts u) xs) ≤ sum_by f (filter (is_own parts u) (x ∷ xs))
split_own parts f x xs u =
    elim (cases_Bool (eqb (unit_of parts x) u)) [
      | inl t ↦
          let e : sum_by f (x ∷ filter (is_own parts u) xs) ≡ f x + sum_by f (filter (is_own parts u) xs) = sum_by-cons f x (filter (is_own parts u) xs) in
          rw t (omega arith)
      | inr n ↦ rw n (omega arith)
    ]

-- each of some places counts in the unit to which it belongs
pub sum_by_units : (parts : List Part) (f : ℕ → ℕ) (most : ℕ) (xs : List ℕ) → ((k : ℕ) → Member k xs → (1 ≤ unit_of parts k) × (unit_of parts k ≤ most)) → sum_by f xs ≤ sum_by (λ u. sum_by f (filter (is_own parts u) xs)) (range_with_len 1 most)
sum_by_units parts f most [] h = omega arith
sum_by_units parts f most (x ∷ xs) h =
    let mine : ℕ → ℕ = λ u. cond (eqb (unit_of parts x) u) (f x) 0 in
    let others : ℕ → ℕ = λ u. sum_by f (filter (is_own parts u) xs) in
    let here : (1 ≤ unit_of parts x) × (unit_of parts x ≤ most) = h x (inl refl) in
    let low : 1 ≤ unit_of parts x = here.0 in
    let high : unit_of parts x ≤ most = here.1 in
    let one : f x ≤ sum_by (λ u. cond (eqb (unit_of parts x) u) (f x) 0) (range_with_len 1 most) = once (unit_of parts x) (f x) 1 most low (omega arith) in
    let more : sum_by f xs ≤ sum_by (λ u. sum_by f (filter (is_own parts u) xs)) (range_with_len 1 most) = sum_by_units parts f most xs (λ k m. h k (inr m)) in
    let both : sum_by (λ u. cond (eqb (unit_of parts x) u) (f x) 0 + sum_by f (filter (is_own parts u) xs)) (range_with_len 1 most) ≡ sum_by (λ u. cond (eqb (unit_of parts x) u) (f x) 0) (range_with_len 1 most) + sum_by (λ u. sum_by f (filter (is_own parts u) xs)) (range_with_len 1 most) = sum_plus (λ u. cond (eqb (unit_of parts x) u) (f x) 0) (λ u. sum_by f (filter (is_own parts u) xs)) (range_with_len 1 most) in
    let up : sum_by (λ u. cond (eqb (unit_of parts x) u) (f x) 0 + sum_by f (filter (is_own parts u) xs)) (range_with_len 1 most) ≤ sum_by (λ u. sum_by f (filter (is_own parts u) (x ∷ xs))) (range_with_len 1 most) = sum_up (λ u. cond (eqb (unit_of parts x) u) (f x) 0 + sum_by f (filter (is_own parts u) xs)) (λ u. sum_by f (filter (is_own parts u) (x ∷ xs))) 1 most (λ u low high. split_own parts f x xs u) in
    let all : sum_by f (x ∷ xs) ≡ f x + sum_by f xs = sum_by-cons f x xs in
    omega arith

-- a range in two
pub range_in_two : (first n m : ℕ) → range_with_len first (n + m) ≡ range_with_len first n ++ range_with_len (first + n) m
range_in_two first zero m =
    let a : zero + m ≡ m = omega arith in
    let b : first + zero ≡ first = omega arith in
    rw (a, b) refl
range_in_two first (suc n) m =
    let a : suc n + m ≡ suc (n + m) = omega arith in
    let b : first + 1 + n ≡ first + suc n = omega arith in
    let P : ℕ → Type 0 = λ k. range_with_len (first + 1) (n + m) ≡ range_with_len (first + 1) n ++ range_with_len k m in
    rw a (ap (λ rest. first ∷ rest) (subst P b (range_in_two (first + 1) n m)))

-- the same members of a range, with the same amounts
pub sum_same : (p q : ℕ → Bool) (f g : ℕ → ℕ) (first n : ℕ) → ((k : ℕ) → first ≤ k → k < first + n → (p k ≡ q k) × (f k ≡ g k)) → sum_by f (filter p (range_with_len first n)) ≡ sum_by g (filter q (range_with_len first n))
sum_same p q f g first zero h = refl
sum_same p q f g first (suc n) h =
    let here = h first (omega arith) (omega arith) in
    let more : sum_by f (filter p (range_with_len (first + 1) n)) ≡ sum_by g (filter q (range_with_len (first + 1) n)) = sum_same p q f g (first + 1) n (λ k low high. h k (omega arith) (omega arith)) in
    let a : sum_by f (first ∷ filter p (range_with_len (first + 1) n)) ≡ f first + sum_by f (filter p (range_with_len (first + 1) n)) = sum_by-cons f first (filter p (range_with_len (first + 1) n)) in
    let b : sum_by g (first ∷ filter q (range_with_len (first + 1) n)) ≡ g first + sum_by g (filter q (range_with_len (first + 1) n)) = sum_by-cons g first (filter q (range_with_len (first + 1) n)) in
    let amount : f first ≡ g first = here.1 in
    elim (cases_Bool (q first)) [
      | inl t ↦ rw (here.0, t) (omega arith)
      | inr n ↦ rw (here.0, n) more
    ]

-- a member of what is kept of a range
pub kept_member : (p : ℕ → Bool) (first n k : ℕ) → Member k (filter p (range_with_len first n)) → (first ≤ k) × (k < first + n) × (p k ≡ true)
kept_member p first zero k m = absurd m
kept_member p first (suc n) k m =
    elim (cases_Bool (p first)) [
      | inl t ↦
          let here : Member k (first ∷ filter p (range_with_len (first + 1) n)) = rw t at m in
          elim here [
            | inl e ↦ let P : ℕ → Type 0 = λ j. p j ≡ true in (omega arith, omega arith, subst P (sym e) t)
            | inr later ↦ next (kept_member p (first + 1) n k later)
          ]
      | inr f ↦ next (kept_member p (first + 1) n k (rw f at m))
    ]
  where
    next : (first + 1 ≤ k) × (k < first + 1 + n) × (p k ≡ true) → (first ≤ k) × (k < first + suc n) × (p k ≡ true)
    next h = let low : first + 1 ≤ k = h.0 in let high : k < first + 1 + n = h.1 in (omega arith, omega arith, h.2)

-- the greatest unit of more places is greater
pub greatest_fewer : (parts : List Part) (first n m : ℕ) → n ≤ m → greatest_unit parts (range_with_len first n) ≤ greatest_unit parts (range_with_len first m)
greatest_fewer parts first zero m h = omega arith
greatest_fewer parts first (suc n) zero h = absurd (omega arith)
greatest_fewer parts first (suc n) (suc m) h =
    let more : greatest_unit parts (range_with_len (first + 1) n) ≤ greatest_unit parts (range_with_len (first + 1) m) = greatest_fewer parts (first + 1) n m (omega arith) in
    omega arith

pub unit_up_to : (parts : List Part) (first n k : ℕ) → first ≤ k → k < first + n → unit_of parts k ≤ greatest_unit parts (range_with_len first n)
unit_up_to parts first zero k low high = absurd (omega arith)
unit_up_to parts first (suc n) k low high =
    elim (cases_eq k first) [
      | inl e ↦ let same : unit_of parts k ≡ unit_of parts first = ap (unit_of parts) e in omega arith
      | inr other ↦ let more : unit_of parts k ≤ greatest_unit parts (range_with_len (first + 1) n) = unit_up_to parts (first + 1) n k (omega arith) (omega arith) in omega arith
    ]

pub range_member : (first n k : ℕ) → Member k (range_with_len first n) → (first ≤ k) × (k < first + n)
range_member first zero k m = absurd m
range_member first (suc n) k (inl e) = (omega arith, omega arith)
range_member first (suc n) k (inr m) =
    let h = range_member (first + 1) n k m in
    let low : first + 1 ≤ k = h.0 in
    let high : k < first + 1 + n = h.1 in
    (omega arith, omega arith)

-- the parts of a unit among some places, by the first place and the rest
pub own_sum_next : (parts : List Part) (f : ℕ → ℕ) (unit first past : ℕ) → first < past → unit_of parts first ≡ unit → sum_by f (filter (is_own parts unit) (numbers first past)) ≡ f first + sum_by f (filter (is_own parts unit) (numbers (first + 1) past))
own_sum_next parts f unit first past h own =
    let here : is_own parts unit first ≡ true = eq-eqb (unit_of parts first) unit own in
    ap (λ xs. sum_by f (filter (is_own parts unit) xs)) (numbers_next first past h) ∙ (rw here (sum_by-cons f first (filter (is_own parts unit) (numbers (first + 1) past))))

pub own_sum_over : (parts : List Part) (f : ℕ → ℕ) (unit first past : ℕ) → first < past → (unit_of parts first ≡ unit → ⊥) → sum_by f (filter (is_own parts unit) (numbers first past)) ≡ sum_by f (filter (is_own parts unit) (numbers (first + 1) past))
own_sum_over parts f unit first past h other =
    let here : is_own parts unit first ≡ false = ne_eqb (unit_of parts first) unit other in
    ap (λ xs. sum_by f (filter (is_own parts unit) xs)) (numbers_next first past h) ∙ (rw here refl)

pub own_sum_done : (parts : List Part) (f : ℕ → ℕ) (unit first past : ℕ) → past ≤ first → sum_by f (filter (is_own parts unit) (numbers first past)) ≡ 0
own_sum_done parts f unit first past h = ap (λ xs. sum_by f (filter (is_own parts unit) xs)) (numbers_none first past h)
