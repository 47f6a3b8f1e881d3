-- The mileages that are known, one more of them.
use Rattle.std.proofs.Common.{ℕ, ◌≤◌, List, length, set, sym, subst, arith, inl, inr}
use Rattle.std.specs.Prelude.{Option, None, IfSome}
use Rattle.std.proofs.lemmas.Bool.{cases_eq, cases_lt}
use Rattle.std.proofs.lemmas.Grind.{get_or-set_at}
use Rattle.std.proofs.lemmas.List.{get_or-set_other, get_or_past, length-set}
use Rattle.fare_records.specs.declared.limits.TheConstants.{MOST_MILES}
use Rattle.fare_mileage.specs.Miles.{AreInRange}

-- what is written in its range leaves all in their range
pub in_range_put : (miles : List (Option ℕ)) (place : ℕ) (found : Option ℕ) → AreInRange miles
    → IfSome found (λ m. m ≤ MOST_MILES) → AreInRange (set miles place found)
in_range_put miles place found all one =
    λ at. elim (cases_eq at place) [
      | inr other ↦ subst (λ (o : Option ℕ). IfSome o (λ m. m ≤ MOST_MILES)) (sym (get_or-set_other miles place at found None other)) (all at)
      | inl same ↦
          elim (cases_lt place (length miles)) [
            | inl within ↦ subst (λ (o : Option ℕ). IfSome o (λ m. m ≤ MOST_MILES)) (sym (get_or-set_at miles place at found None same within)) one
            | inr past ↦
                subst (λ (o : Option ℕ). IfSome o (λ m. m ≤ MOST_MILES))
                (sym (get_or_past (set miles place found) at None (omega (arith, length-set miles place found, past, same)))) tt
          ]
    ]
