-- What is behind each point by what is barred, as it is put together.
use Rattle.std.proofs.Common.{◌≡◌, ℕ, Bool, true, false, not, ◌||◌, List, [], ◌∷◌, refl, subst, inl, inr}
use Rattle.std.specs.Prelude.{Option, Some, None, ◌⊎◌}
use Rattle.std.specs.List.{list_all, list_any}
use Rattle.std.proofs.lemmas.Bool.{and_parts, cases_Bool}
use Rattle.fare_codes.specs.declared.rule_id.RuleId.{RuleId}
use Rattle.fare_tariff.specs.Record.{FareRecord}
use Rattle.fare_tariff.specs.Tariff.{Tariff}
use Rattle.fare_tariff.specs.Lookup.{ends_ok, fare_at}
use Rattle.fare_legs.specs.Barred.{IsStep, has_this_rule, is_among, is_of_rule}
use Rattle.fare_homing.specs.Barring.{may_bar}
use Rattle.fare_legs.proofs.RuleLemmas.{same_rule_is}

false_true : false ≡ true → ⊥
false_true e = cc

module _ (tariff : Tariff) (before : List ℕ) (rule : Option RuleId) where
  abbrev MayBar : Option RuleId → Type 0
  MayBar other = (is_among tariff before other ≡ true) ⊎ (ends_ok tariff rule other ≡ false)

  was_or_clashes : (was ends : Bool) → (was || not ends) ≡ true → (was ≡ true) ⊎ (ends ≡ false)
  was_or_clashes true ends e = inl refl
  was_or_clashes false true e = absurd (false_true e)
  was_or_clashes false false e = inr refl

  may_bar_rule : (found : Option FareRecord) (other : Option RuleId) → may_bar tariff before rule found ≡ true → has_this_rule other found ≡ true → MayBar other
  may_bar_rule None other may has = absurd (false_true has)
  may_bar_rule (Some fare) other may has =
      let same : fare.rule ≡ other = same_rule_is fare.rule other has in
      subst MayBar same (was_or_clashes (is_among tariff before fare.rule) (ends_ok tariff rule fare.rule) may)

  abbrev MayBarAt : ℕ → Bool
  MayBarAt number = may_bar tariff before rule (fare_at tariff number)

  pub step_of_all : (after : List ℕ) → list_all MayBarAt after ≡ true → IsStep tariff before rule after
  step_of_all [] all other has = absurd (false_true has)
  step_of_all (number ∷ after) all other has =
      let parts = and_parts (MayBarAt number) (list_all MayBarAt after) all in
      elim (cases_Bool (is_of_rule tariff other number)) [
        | inl t ↦ may_bar_rule (fare_at tariff number) other parts.0 t
        | inr f ↦ let later : list_any (is_of_rule tariff other) after ≡ true = rw f at has in step_of_all after parts.1 other later
      ]
