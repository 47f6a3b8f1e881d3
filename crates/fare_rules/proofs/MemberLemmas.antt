-- Members of lists: what a map, a filter and a chain of lists keep.
use Rattle.std.proofs.Common.{◌≡◌, ℕ, zero, suc, ◌+◌, ◌-◌, ◌<◌, ◌≤◌, ◌⊎◌, Bool, true, List, [], ◌∷◌, ◌++◌, map, ap, sym, subst, inl, inr, arith}
use Rattle.std.specs.Prelude.{filter, flat_map, Contains}
use Rattle.std.specs.List.{range_with_len}
use Rattle.std.proofs.lemmas.Bool.{cases_Bool, cases_eq}
use Rattle.fare_rules.specs.Numbers.{numbers, numbers_down}

-- x is a member of a list
abbrev pub Member : {A : Type 0} → A → List A → Type 0
Member x [] = ⊥
Member x (y ∷ ys) = (x ≡ y) ⊎ Member x ys

pub contains : {A : Type 0} (x : A) (xs : List A) → Member x xs → Contains xs x
contains x [] h = absurd h
contains x (y ∷ ys) (inl e) = (0, omega arith, sym e)
contains x (y ∷ ys) (inr h) = let c = contains x ys h in (suc c.0, omega arith, c.2)

pub member_left : {A : Type 0} (x : A) (xs ys : List A) → Member x xs → Member x (xs ++ ys)
member_left x [] ys h = absurd h
member_left x (z ∷ xs) ys (inl e) = inl e
member_left x (z ∷ xs) ys (inr h) = inr (member_left x xs ys h)

pub member_right : {A : Type 0} (x : A) (xs ys : List A) → Member x ys → Member x (xs ++ ys)
member_right x [] ys h = h
member_right x (z ∷ xs) ys h = inr (member_right x xs ys h)

pub member_map : {A B : Type 0} (f : A → B) (x : A) (xs : List A) → Member x xs → Member (f x) (map f xs)
member_map f x [] h = absurd h
member_map f x (y ∷ ys) (inl e) = inl (ap f e)
member_map f x (y ∷ ys) (inr h) = inr (member_map f x ys h)

pub member_filter : {A : Type 0} (test : A → Bool) (x : A) (xs : List A) → test x ≡ true → Member x xs
    → Member x (filter test xs)
member_filter test x [] t h = absurd h
member_filter test x (y ∷ ys) t (inl e) =
    let here : test y ≡ true = subst (λ z. test z ≡ true) e t in
    rw here (inl e)
member_filter test x (y ∷ ys) t (inr h) =
    elim (cases_Bool (test y)) [
      | inl passes ↦ rw passes (inr (member_filter test x ys t h))
      | inr fails ↦ rw fails (member_filter test x ys t h)
    ]

pub member_flat_map : {A B : Type 0} (f : A → List B) (x : A) (y : B) (xs : List A) → Member x xs → Member y (f x)
    → Member y (flat_map f xs)
member_flat_map f x y [] h k = absurd h
member_flat_map f x y (z ∷ zs) (inl e) k = member_left y (f z) (flat_map f zs) (subst (λ w. Member y (f w)) e k)
member_flat_map f x y (z ∷ zs) (inr h) k = member_right y (f z) (flat_map f zs) (member_flat_map f x y zs h k)

member_range : (first n k : ℕ) → first ≤ k → k < first + n → Member k (range_with_len first n)
member_range first zero k low high = absurd (omega arith)
member_range first (suc n) k low high =
    elim (cases_eq k first) [
      | inl e ↦ inl e
      | inr other ↦ inr (member_range (first + 1) n k (omega arith) (omega arith))
    ]

pub member_numbers : (first past k : ℕ) → first ≤ k → k < past → Member k (numbers first past)
member_numbers first past k low high = member_range first (past - first) k low (omega arith)

pub member_down : (n k : ℕ) → 1 ≤ k → k ≤ n → Member k (numbers_down n)
member_down zero k low high = absurd (omega arith)
member_down (suc n) k low high =
    elim (cases_eq k (suc n)) [
      | inl e ↦ inl e
      | inr other ↦ inr (member_down n k low (omega arith))
    ]
