-- What is behind each point from one on, where some fares are barred.
use Rattle.std.proofs.Common.{◌≡◌, ℕ, ◌+◌, ◌<◌, ◌≤◌, true, false, List, length, set, refl, sym, subst, ◌∙◌, inl, inr, arith}
use Rattle.std.specs.Prelude.{◌==◌, Option, Some, None, if◌then◌else◌}
use Rattle.std.proofs.lemmas.Bool.{cases_eq}
use Rattle.std.proofs.lemmas.List.{get_or-set_same, get_or-set_other}
use Rattle.fare_trip.specs.Itinerary.{Itinerary, count}
use Rattle.fare_tariff.specs.Tariff.{Tariff}
use Rattle.fare_bounds.specs.Covers.{rest_at}
use Rattle.fare_legs.specs.Costs.{IsUpTo}
use Rattle.fare_homing.specs.HomingRows.{AreRests, AreWholes, IsOnward}

module _ (tariff : Tariff) (trip : Itinerary) (barred : List ℕ) (begun jaw : ℕ → ℕ → ℕ → Option ℕ) where
  -- the numbers are known from a point on
  pub record AreRestsFrom (p : ℕ) (whole : ℕ → ℕ → Option ℕ) (rest : List (Option ℕ)) : Type 0 where
    pub wholes : (i : ℕ) → p ≤ i → i < count trip → AreWholes tariff trip barred begun jaw i (whole i)
    pub onward : (i : ℕ) → p ≤ i → i < count trip → IsOnward trip (whole i) (rest_at rest) i (rest_at rest i)
    pub nothing : rest_at rest (count trip) ≡ Some 0

  pub all_rests : (whole : ℕ → ℕ → Option ℕ) (rest : List (Option ℕ)) → AreRestsFrom 0 whole rest → AreRests tariff trip barred begun jaw whole (rest_at rest)
  all_rests whole rest known = record {
    wholes = λ i high. known.wholes i (omega arith) high;
    onward = λ i high. known.onward i (omega arith) high;
    nothing = known.nothing;
  }

  pub no_rests : (whole : ℕ → ℕ → Option ℕ) (rest : List (Option ℕ)) → rest_at rest (count trip) ≡ Some 0 → AreRestsFrom (count trip) whole rest
  no_rests whole rest end = record {
    wholes = λ i low high. absurd (omega arith);
    onward = λ i low high. absurd (omega arith);
    nothing = end;
  }

  -- one point more
  module _ (p : ℕ) (before : p < count trip) (whole : ℕ → ℕ → Option ℕ) (rest row : List (Option ℕ)) (number : Option ℕ) (long : p < length rest) (known : AreRestsFrom (p + 1) whole rest)
      (wholes_here : AreWholes tariff trip barred begun jaw p (rest_at row)) (onward_here : IsOnward trip (rest_at row) (rest_at rest) p number) where
    abbrev with_row : ℕ → ℕ → Option ℕ
    with_row i = if i == p then rest_at row else whole i

    this_row : with_row p ≡ rest_at row
    this_row = let same : (p == p) ≡ true = grind arith in rw same refl

    other_row : (i : ℕ) → (i ≡ p → ⊥) → with_row i ≡ whole i
    other_row i other = let differs : (i == p) ≡ false = grind arith in rw differs refl

    other_rest : (i : ℕ) → (i ≡ p → ⊥) → rest_at (set rest p number) i ≡ rest_at rest i
    other_rest i other = get_or-set_other rest p i number None other

    pub put_rests : (new : ℕ → ℕ → Option ℕ) × AreRestsFrom p new (set rest p number)
    put_rests = (
      with_row,
      record {
        wholes = λ i low high. elim (cases_eq i p) [
          | inl same ↦
              let P : ℕ → Type 0 = λ k. AreWholes tariff trip barred begun jaw k (with_row k) in
              let W : (ℕ → Option ℕ) → Type 0 = λ here. AreWholes tariff trip barred begun jaw p here in
              subst P (sym same) (subst W (sym this_row) wholes_here)
          | inr other ↦
              let W : (ℕ → Option ℕ) → Type 0 = λ here. AreWholes tariff trip barred begun jaw i here in
              subst W (sym (other_row i other)) (known.wholes i (omega arith) high)
        ];
        onward = λ i low high b x y past within up more.
            let kept : rest_at (set rest p number) b ≡ rest_at rest b = other_rest b (λ e. omega arith) in
            elim (cases_eq i p) [
              | inl same ↦
                  let N : ℕ → Type 0 = λ k. IsUpTo (x + y) (rest_at (set rest p number) k) in
                  let U : ℕ → Type 0 = λ k. IsUpTo x (with_row k b) in
                  let L : ℕ → Type 0 = λ k. k < b in
                  let here : IsUpTo x (rest_at row b) = subst (λ (steps : ℕ → Option ℕ). IsUpTo x (steps b)) this_row (subst U same up) in
                  subst N (sym same) (subst (IsUpTo (x + y)) (sym (get_or-set_same rest p number None long)) (onward_here b x y (subst L same past) within here (subst (IsUpTo y) kept more)))
              | inr other ↦
                  let here : IsUpTo x (whole i b) = subst (λ (steps : ℕ → Option ℕ). IsUpTo x (steps b)) (other_row i other) up in
                  subst (IsUpTo (x + y)) (sym (other_rest i other)) (known.onward i (omega arith) high b x y past within here (subst (IsUpTo y) kept more))
            ];
        nothing = other_rest (count trip) (λ e. omega arith) ∙ known.nothing;
      },
    )
