-- A row of what is owed, lowered at each point of a city.
use Rattle.std.proofs.Common.{◌≡◌, ℕ, ◌+◌, ◌<◌, ◌≤◌, Bool, true, false, List, length, length-set, set, sym, subst, ◌∙◌, inl, inr, arith}
use Rattle.std.specs.Prelude.{Option, None}
use Rattle.std.proofs.lemmas.Bool.{both_ways, cases_Bool, cases_eq}
use Rattle.std.proofs.lemmas.List.{get_or-set_same, get_or-set_other}
use Rattle.fare_trip.specs.Itinerary.{Itinerary}
use Rattle.fare_bounds.specs.Covers.{lesser, rest_at}
use Rattle.fare_legs.specs.Costs.{IsUpTo, is_same_city}
use Rattle.fare_legs.proofs.FloorLemmas.{lesser_kept}
use Rattle.fare_legs.proofs.ReachLemmas.{up_second}

-- the numbers of a row are no more than they were, and before a point no more than a number wherever the city comes again
pub record IsLowered (trip : Itinerary) (row : List (Option ℕ)) (a stand past : ℕ) (number : Option ℕ) (lowered : List (Option ℕ)) : Type 0 where
  pub long : length lowered ≡ 17
  pub kept : (home most : ℕ) → IsUpTo most (rest_at row home) → IsUpTo most (rest_at lowered home)
  pub here : (home most : ℕ) → stand < home → home < past → is_same_city trip a home ≡ true → IsUpTo most number → IsUpTo most (rest_at lowered home)

module _ (trip : Itinerary) (row : List (Option ℕ)) (a stand past : ℕ) (number : Option ℕ) (lowered : List (Option ℕ)) (are : IsLowered trip row a stand past number lowered) where
  pub lowered_here : (new : Option ℕ) → past < 17 → new ≡ lesser (rest_at lowered past) number → IsLowered trip row a stand (past + 1) number (set lowered past new)
  lowered_here new short is =
      let long : past < length lowered = omega (arith, are.long) in
      let same : rest_at (set lowered past new) past ≡ new = get_or-set_same lowered past new None long in
      record {
        long = length-set lowered past new ∙ are.long;
        kept = λ home most up. elim (cases_eq home past) [
          | inl e ↦
              let P : ℕ → Type 0 = λ k. IsUpTo most (rest_at (set lowered past new) k) in
              let Q : ℕ → Type 0 = λ k. IsUpTo most (rest_at lowered k) in
              subst P (sym e) (subst (IsUpTo most) (sym same) (lesser_kept (rest_at lowered past) number new is most (subst Q e (are.kept home most up))))
          | inr other ↦ subst (IsUpTo most) (sym (get_or-set_other lowered past home new None other)) (are.kept home most up)
        ];
        here = λ home most low high city up. elim (cases_eq home past) [
          | inl e ↦
              let P : ℕ → Type 0 = λ k. IsUpTo most (rest_at (set lowered past new) k) in
              subst P (sym e) (subst (IsUpTo most) (sym same) (subst (IsUpTo most) (sym is) (up_second (rest_at lowered past) number most up)))
          | inr other ↦ subst (IsUpTo most) (sym (get_or-set_other lowered past home new None other)) (are.here home most low (omega arith) city up)
        ];
      }

  pub lowered_over : is_same_city trip a past ≡ false → IsLowered trip row a stand (past + 1) number lowered
  lowered_over elsewhere = record {
    long = are.long;
    kept = are.kept;
    here = λ home most low high city up. elim (cases_eq home past) [
      | inl e ↦ let P : ℕ → Type 0 = λ k. is_same_city trip a k ≡ true in absurd (both_ways (is_same_city trip a past) elsewhere (subst P e city))
      | inr other ↦ are.here home most low (omega arith) city up
    ];
  }
