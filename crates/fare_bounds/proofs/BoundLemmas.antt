-- The rests from the trip's end back, one point on, and their bounds.
use Rattle.std.proofs.Common.{◌≡◌, refl, ℕ, zero, suc, ◌+◌, ◌-◌, ◌*◌, ◌<◌, ◌≤◌, List, [], ◌∷◌, length, get_or, set, replicate, ap, sym, subst, ◌∙◌, arith, inl, inr}
use Rattle.std.specs.Prelude.{Option, Some, None, IfSome, Contains}
use Rattle.std.proofs.lemmas.Bool.{cases_eq, cond_both}
use Rattle.std.proofs.lemmas.List.{get_or-set_same, get_or-set_other, length-replicate}
use Rattle.fare_trip.specs.Itinerary.{Itinerary, count}
use Rattle.fare_tariff.specs.Tariff.{Tariff}
use Rattle.fare_rules.specs.Construction.{begin_after}
use Rattle.fare_rules.specs.Span.{is_surface}
use Rattle.fare_codes.specs.declared.limits.TheConstants.{MOST_SECTORS}
use Rattle.fare_rules.specs.declared.limits.TheConstants.{PRICE_LIMIT}
use Rattle.fare_bounds.specs.declared.limits.TheConstants.{COST_LIMIT}
use Rattle.fare_bounds.specs.Covers.{Leg, IsCover, IsLeast, rest_at}
use Rattle.fare_bounds.specs.Search.{AreRestsFrom, AreInBounds, sum_of}
use Rattle.fare_bounds.proofs.CoverLemmas.{EntriesAreOfFares}

-- a rest with the cost of a leg before it
pub sum_bound : (cost rest : Option ℕ) (i b : ℕ) → i < b → b ≤ MOST_SECTORS → IfSome cost (λ x. x < COST_LIMIT)
    → IfSome rest (λ x. x ≤ (MOST_SECTORS - b) * COST_LIMIT) → IfSome (sum_of cost rest) (λ x. x ≤ (MOST_SECTORS - i) * COST_LIMIT)
sum_bound None rest i b rises within hc hr = tt
sum_bound (Some cost) None i b rises within hc hr = tt
sum_bound (Some cost) (Some rest) i b rises within hc hr = omega arith

-- a rest is below every price's limit
pub below_limit : (rest : Option ℕ) (i : ℕ) → IfSome rest (λ x. x ≤ (MOST_SECTORS - i) * COST_LIMIT)
    → IfSome rest (λ x. x < PRICE_LIMIT)
below_limit None i h = tt
below_limit (Some rest) i h = omega arith

-- a rest that is put at its point
pub put_rest : (tariff : Tariff) (trip : Itinerary) (rests : List (Option ℕ)) (i : ℕ) (rest : Option ℕ)
    → i < length rests → AreRestsFrom tariff trip (i + 1) rests → IsLeast (IsCover tariff trip i) rest
    → AreRestsFrom tariff trip i (set rests i rest)
put_rest tariff trip rests i rest within known here k low =
    elim (cases_eq k i) [
      | inl same ↦
          subst (λ j. IsLeast (IsCover tariff trip j) (rest_at (set rests i rest) j)) (sym same)
          (subst (IsLeast (IsCover tariff trip i)) (sym (get_or-set_same rests i rest None within)) here)
      | inr other ↦
          subst (IsLeast (IsCover tariff trip k)) (sym (get_or-set_other rests i k rest None other)) (known k (omega arith))
    ]

pub put_bound : (rests : List (Option ℕ)) (i : ℕ) (rest : Option ℕ) → i < length rests → AreInBounds rests
    → IfSome rest (λ x. x ≤ (MOST_SECTORS - i) * COST_LIMIT) → AreInBounds (set rests i rest)
put_bound rests i rest within known here k =
    elim (cases_eq k i) [
      | inl same ↦
          subst (λ j. IfSome (rest_at (set rests i rest) j) (λ x. x ≤ (MOST_SECTORS - j) * COST_LIMIT)) (sym same)
          (subst (λ o. IfSome o (λ x. x ≤ (MOST_SECTORS - i) * COST_LIMIT)) (sym (get_or-set_same rests i rest None within)) here)
      | inr other ↦
          subst (λ o. IfSome o (λ x. x ≤ (MOST_SECTORS - k) * COST_LIMIT)) (sym (get_or-set_other rests i k rest None other)) (known k)
    ]

nothing_at : (n k : ℕ) → rest_at (replicate n None) k ≡ None
nothing_at zero k = refl
nothing_at (suc n) zero = refl
nothing_at (suc n) (suc k) = nothing_at n k

begin_low : (trip : Itinerary) (i : ℕ) → i ≤ begin_after trip i
begin_low trip i = cond_both (is_surface trip (i + 1)) (i + 1) i (λ a. i ≤ a) (λ _. omega arith) (λ _. omega arith)

-- nothing covers what is behind a point past the trip's end
none_behind : (tariff : Tariff) (trip : Itinerary) (i : ℕ) → EntriesAreOfFares → count trip < i → (legs : List Leg)
    → IsCover tariff trip i legs → ⊥
none_behind tariff trip i law past [] e = omega arith
none_behind tariff trip i law past (leg ∷ rest) h =
    let entry = law tariff trip (begin_after trip i) leg.end h.0.entry h.0.there in
    omega (arith, entry.rises, entry.within, begin_low trip i)

-- at the trip's end there is nothing to cover
least_at_end : (tariff : Tariff) (trip : Itinerary) → IsLeast (IsCover tariff trip (count trip)) (Some 0)
least_at_end tariff trip = record { legs = []; meets = refl; reached = refl; lowest = λ others h. omega arith }

-- the rests from the trip's end on
pub rests_at_end : (tariff : Tariff) (trip : Itinerary) (n : ℕ) → EntriesAreOfFares → count trip < n
    → AreRestsFrom tariff trip (count trip) (set (replicate n None) (count trip) (Some 0))
rests_at_end tariff trip n law within k low =
    elim (cases_eq k (count trip)) [
      | inl same ↦
          let is = get_or-set_same (replicate n None) (count trip) (Some 0) None (omega (arith, length-replicate {A = Option ℕ} n None)) in
          subst (λ j. IsLeast (IsCover tariff trip j) (rest_at (set (replicate n None) (count trip) (Some 0)) j)) (sym same)
          (subst (IsLeast (IsCover tariff trip (count trip))) (sym is) (least_at_end tariff trip))
      | inr other ↦
          let is = get_or-set_other (replicate n None) (count trip) k (Some 0) None other ∙ nothing_at n k in
          subst (IsLeast (IsCover tariff trip k)) (sym is) (none_behind tariff trip k law (omega arith))
    ]

pub bounds_at_end : (last n : ℕ) → last < n → AreInBounds (set (replicate n None) last (Some 0))
bounds_at_end last n within k =
    elim (cases_eq k last) [
      | inl same ↦
          let is = get_or-set_same (replicate n None) last (Some 0) None (omega (arith, length-replicate {A = Option ℕ} n None)) in
          subst (λ j. IfSome (rest_at (set (replicate n None) last (Some 0)) j) (λ x. x ≤ (MOST_SECTORS - j) * COST_LIMIT)) (sym same)
          (subst (λ o. IfSome o (λ x. x ≤ (MOST_SECTORS - last) * COST_LIMIT)) (sym is) (omega arith))
      | inr other ↦
          let is = get_or-set_other (replicate n None) last k (Some 0) None other ∙ nothing_at n k in
          subst (λ o. IfSome o (λ x. x ≤ (MOST_SECTORS - k) * COST_LIMIT)) (sym is) tt
    ]
