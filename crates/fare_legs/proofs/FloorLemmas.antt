-- Numbers that are up to others: where they stand in a row, and the lesser and the sum of two.
use Rattle.std.proofs.Common.{◌≡◌, ℕ, zero, suc, ◌+◌, ◌<◌, ◌≤◌, true, false, List, [], ◌∷◌, length, replicate, refl, sym, subst, ◌∙◌, inl, inr, arith}
use Rattle.std.specs.Prelude.{Option, Some, None, is_some, slice_index_or}
use Rattle.std.proofs.lemmas.Bool.{cases_lt}
use Rattle.std.proofs.lemmas.Option.{none-some}
use Rattle.fare_bounds.specs.Covers.{lesser, rest_at}
use Rattle.fare_legs.specs.Costs.{IsUpTo}
use Rattle.fare_legs.specs.Floor.{added}
use Rattle.fare_legs.proofs.ReachLemmas.{added_up, up_first, up_more, up_second}

true_false : true ≡ false → ⊥
true_false e = cc

pub none_at : {A : Type 0} (n i : ℕ) → slice_index_or {A = Option A} (replicate n None) i None ≡ None
none_at zero i = refl
none_at (suc n) zero = refl
none_at (suc n) (suc i) = none_at n i

-- a number that stands in a row stands before its end
pub stands_before : (row : List (Option ℕ)) (j y : ℕ) → IsUpTo y (rest_at row j) → j < length row
stands_before row j y up = elim (cases_lt j (length row)) [
  | inl less ↦ less
  | inr past ↦ absurd (none-some up.0 (sym (get_past row j past) ∙ up.1))
]
  where
    get_past : (xs : List (Option ℕ)) (k : ℕ) → length xs ≤ k → slice_index_or xs k None ≡ None
    get_past [] k past = refl
    get_past (x ∷ xs) zero past = absurd (omega arith)
    get_past (x ∷ xs) (suc k) past = get_past xs k (omega arith)

-- a number that isn't there is up to nothing
pub not_there : (x : Option ℕ) (n : ℕ) → is_some x ≡ false → IsUpTo n x → ⊥
not_there None n none up = none-some up.0 up.1
not_there (Some y) n none up = true_false none

-- the sum of two numbers is no more than what both are up to
pub both_up : (a b found : Option ℕ) → found ≡ added a b → (x y : ℕ) → IsUpTo x a → IsUpTo y b → IsUpTo (x + y) found
both_up a b found is x y up more =
    let low : up.0 ≤ x = up.2 in
    let rest : more.0 ≤ y = more.2 in
    up_more (up.0 + more.0) (x + y) found (omega arith) (added_up a b found is up.0 more.0 up.1 more.1)

-- the lesser of a least number and a sum is up to either
pub lesser_sum : (least a b found : Option ℕ) → found ≡ lesser least (added a b) → (x y : ℕ) → IsUpTo x a → IsUpTo y b → IsUpTo (x + y) found
lesser_sum least a b found is x y up more = subst (IsUpTo (x + y)) (sym is) (up_second least (added a b) (x + y) (both_up a b (added a b) refl x y up more))

pub lesser_kept : (least here found : Option ℕ) → found ≡ lesser least here → (most : ℕ) → IsUpTo most least → IsUpTo most found
lesser_kept least here found is most up = subst (IsUpTo most) (sym is) (up_first least here most up)
