-- Lonely: the rules of one way fares that do not combine end on end with themselves.
use Rattle.std.specs.Prelude.{◌≡◌, ℕ, Bool, false, List, Option, Some, None, All, IfSome, bytes_eq, option_and_then}
use Rattle.std.specs.List.{list_any}
use Rattle.fare_codes.specs.declared.rule_id.RuleId.{RuleId}
use Rattle.fare_tariff.specs.Tariff.{Tariff}
use Rattle.fare_tariff.specs.Lookup.{fare_at, ends_ok}

-- a rule combines end on end with itself
abbrev pub suits_itself : Tariff → RuleId → Bool
suits_itself tariff id = ends_ok tariff (Some id) (Some id)

-- the rule of the fare of a record number, where there are both
abbrev pub rule_at : Tariff → ℕ → Option RuleId
rule_at tariff number = option_and_then (λ fare. fare.rule) (fare_at tariff number)

-- a rule is there, and this one
abbrev pub is_rule : RuleId → Option RuleId → Bool
is_rule id None = false
is_rule id (Some other) = bytes_eq other id

-- the fare of a record number has a rule
abbrev pub has_rule : Tariff → RuleId → ℕ → Bool
has_rule tariff id number = is_rule id (rule_at tariff number)

-- a rule, where there is one, is that of one of some fares
abbrev pub is_rule_of : Tariff → List ℕ → Option RuleId → Bool
is_rule_of tariff fares None = false
is_rule_of tariff fares (Some id) = list_any (has_rule tariff id) fares

-- the rule of no fare of some combines end on end with itself
abbrev pub AreLonely : Tariff → List ℕ → Type 0
AreLonely tariff fares = All (λ number. IfSome (rule_at tariff number) (λ id. suits_itself tariff id ≡ false)) fares
