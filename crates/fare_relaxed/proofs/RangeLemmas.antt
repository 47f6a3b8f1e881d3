-- A rule that is found in a list is in its ranges, where each record of the list is.
use Rattle.std.proofs.Common.{◌≡◌, ℕ, zero, suc, ◌<◌, Bool, true, false, cond, List, [], ◌∷◌, length, get_or, refl, arith, sym, subst}
use Rattle.std.specs.Prelude.{Option, Some, None, bytes_eq}
use Rattle.std.specs.Option.{option_or}
use Rattle.fare_codes.specs.declared.rule_id.RuleId.{RuleId}
use Rattle.fare_records.specs.declared.record.Record.{Record}
use Rattle.fare_records.specs.declared.record.Record.TheVariants as filed
use Rattle.fare_records.specs.Record.{RuleRecord, IsRule}
use Rattle.fare_tariff.specs.Lookup.{first_some, rule_in}
use Rattle.fare_relaxed.specs.Ranges.{IsRuleInRange}

none_some : {A : Type 0} (x : A) → None ≡ Some x → ⊥
none_some x e = cc

some_same : {A : Type 0} (x y : A) → Some x ≡ Some y → x ≡ y
some_same x y e = cc

kept_where : (test : Bool) (r rule : RuleRecord) → IsRule r → cond test (Some r) None ≡ Some rule → IsRule rule
kept_where true r rule h e = subst IsRule (some_same r rule e) h
kept_where false r rule h e = absurd (none_some rule e)

one_in_range : (id : RuleId) (one : Record) (rule : RuleRecord) → IsRuleInRange one → rule_in id one ≡ Some rule
    → IsRule rule
one_in_range id (filed.Rule r) rule h e = kept_where (bytes_eq r.id id) r rule h e
one_in_range id (filed.City r) rule h e = absurd (none_some rule e)
one_in_range id (filed.Cur r) rule h e = absurd (none_some rule e)
one_in_range id (filed.Fare r) rule h e = absurd (none_some rule e)
one_in_range id (filed.Mpm r) rule h e = absurd (none_some rule e)
one_in_range id (filed.Tpm r) rule h e = absurd (none_some rule e)
one_in_range id (filed.Ema r) rule h e = absurd (none_some rule e)

first_in_range : (found rest : Option RuleRecord) (rule : RuleRecord)
    → ((r : RuleRecord) → found ≡ Some r → IsRule r) → ((r : RuleRecord) → rest ≡ Some r → IsRule r)
    → option_or found rest ≡ Some rule → IsRule rule
first_in_range None rest rule h k e = k rule e
first_in_range (Some r) rest rule h k e = h rule e

pub found_in_range : (id : RuleId) (records : List Record) (rule : RuleRecord)
    → ((k : ℕ) (d : Record) → k < length records → IsRuleInRange (get_or records k d))
    → first_some (rule_in id) records ≡ Some rule → IsRule rule
found_in_range id [] rule h e = absurd (none_some rule e)
found_in_range id (one ∷ records) rule h e =
    first_in_range (rule_in id one) (first_some (rule_in id) records) rule
    (λ r found. one_in_range id one r (h 0 one (omega arith)) found)
    (λ r found. found_in_range id records r (λ k d low. h (suc k) d (omega arith)) found) e
