-- The earliest of results, one by one.
use Rattle.std.proofs.Common.{◌≡◌, ℕ, zero, suc, ◌+◌, ◌<◌, true, List, [], ◌∷◌, ◌++◌, take, length, get_or, Option, Some, None, refl, sym, subst, inl, inr, arith}
use Rattle.std.specs.Prelude.{All, Contains, slice_index_or}
use Rattle.std.proofs.lemmas.Bool.{cases_Bool, both_ways}
use Rattle.std.proofs.lemmas.List.{take_more}
use Rattle.fare_rules.specs.declared.part.Part.{Part}
use Rattle.fare_rules.specs.Order.{is_before}
use Rattle.fare_rules.proofs.BestLemmas.{irreflexive, transitive}
use Rattle.fare_split.specs.Rows.{IsEarliest, IsNotAfter, earlier_of}

abbrev Found : Type 0
Found = Option (List Part × ℕ)

module _ {A : Type 0} where
  pub all_none : (P : A → Type 0) → All P []
  all_none P k d low = absurd (omega arith)

  -- all of a list with one more at its end
  pub all_last : (P : A → Type 0) (xs : List A) (x : A) → All P xs → P x → All P (xs ++ x ∷ [])
  all_last P [] x h p zero d low = p
  all_last P [] x h p (suc k) d low = absurd (omega arith)
  all_last P (y ∷ ys) x h p zero d low = h zero d (omega arith)
  all_last P (y ∷ ys) x h p (suc k) d low = all_last P ys x (λ j e l. h (suc j) e (omega arith)) p k d (omega arith)

  among_more : (xs : List A) (x y : A) → Contains xs y → Contains (xs ++ x ∷ []) y
  among_more [] x y (k, low, e) = absurd (omega arith)
  among_more (z ∷ zs) x y (zero, low, e) = (zero, omega arith, e)
  among_more (z ∷ zs) x y (suc k, low, e) =
      let more = among_more zs x y (k, omega arith, e) in
      let within : more.0 < length (zs ++ x ∷ []) = more.1 in
      (suc more.0, omega arith, more.2)

  is_last : (xs : List A) (x : A) → Contains (xs ++ x ∷ []) x
  is_last [] x = (zero, omega arith, refl)
  is_last (z ∷ zs) x =
      let more = is_last zs x in
      let within : more.0 < length (zs ++ x ∷ []) = more.1 in
      (suc more.0, omega arith, more.2)

-- what is not after one that comes first is not after one before that
not_after : (found best : List Part × ℕ) → is_before found.0 found.1 best.0 best.1 ≡ true → (other : Found) → IsNotAfter best other → IsNotAfter found other
not_after found best h None n = tt
not_after found best h (Some other) n =
    elim (cases_Bool (is_before other.0 other.1 found.0 found.1)) [
      | inl t ↦ absurd (both_ways (is_before other.0 other.1 best.0 best.1) n (transitive other.0 found.0 best.0 other.1 found.1 best.1 t h))
      | inr f ↦ f
    ]

none_after : (found : List Part × ℕ) (other : Found) → other ≡ None → IsNotAfter found other
none_after found other e = subst (IsNotAfter found) (sym e) tt

earliest_last : (results : List Found) (best found : Found) → IsEarliest results best → IsEarliest (results ++ found ∷ []) (earlier_of best found)
earliest_last results None None h = all_last (λ result. result ≡ None) results None h refl
earliest_last results (Some best) None h = (among_more results None (Some best) h.0, all_last (IsNotAfter best) results None h.1 tt)
earliest_last results None (Some found) h = (
  is_last results (Some found),
  all_last (IsNotAfter found) results (Some found) (λ k d low. none_after found (slice_index_or results k d) (h k d low)) (irreflexive found.0 found.1),
)
earliest_last results (Some best) (Some found) h =
    elim (cases_Bool (is_before found.0 found.1 best.0 best.1)) [
      | inl t ↦ rw t (is_last results (Some found), all_last (IsNotAfter found) results (Some found) (λ k d low. not_after found best t (slice_index_or results k d) (h.1 k d low)) (irreflexive found.0 found.1))
      | inr f ↦ rw f (among_more results (Some found) (Some best) h.0, all_last (IsNotAfter best) results (Some found) h.1 f)
    ]

pub earliest_more : (results : List Found) (k : ℕ) (d best : Found) → k < length results
    → IsEarliest (take k results) best → IsEarliest (take (k + 1) results) (earlier_of best (get_or results k d))
earliest_more results k d best low h =
    let P : List Found → Type 0 = λ firsts. IsEarliest firsts (earlier_of best (get_or results k d)) in
    subst P (sym (take_more results k d low)) (earliest_last (take k results) best (get_or results k d) h)

pub earliest_none : (results : List Found) → IsEarliest (take 0 results) None
earliest_none results = all_none (λ result. result ≡ None)
