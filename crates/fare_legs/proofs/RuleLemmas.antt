-- Rules that are told to be the same.
use Rattle.std.proofs.Common.{◌≡◌, true, false, refl, ap}
use Rattle.std.specs.Prelude.{Option, Some, None}
use Rattle.std.proofs.lemmas.Slice.Eq.{bytes_eq-Decides}
use Rattle.fare_codes.specs.declared.rule_id.RuleId.{RuleId}
use Rattle.fare_legs.specs.Barred.{same_rule}

false_true : false ≡ true → ⊥
false_true e = cc

-- rules that are told to be the same are
pub same_rule_is : (one other : Option RuleId) → same_rule one other ≡ true → one ≡ other
same_rule_is None None e = refl
same_rule_is None (Some other) e = absurd (false_true e)
same_rule_is (Some id) None e = absurd (false_true e)
same_rule_is (Some id) (Some other) e = ap Some ((bytes_eq-Decides id other).0 e)
