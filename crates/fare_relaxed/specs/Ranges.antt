-- What the laws ask of an edition's rules: a fact that holds of each edition.
use Rattle.std.specs.Prelude.{◌≡◌, Some}
use Rattle.fare_codes.specs.declared.rule_id.RuleId.{RuleId}
use Rattle.fare_records.specs.declared.record.Record.{Record}
use Rattle.fare_records.specs.declared.record.Record.TheVariants as filed
use Rattle.fare_records.specs.Record.{RuleRecord, IsRule}
use Rattle.fare_tariff.specs.Tariff.{Tariff}
use Rattle.fare_tariff.specs.Lookup.{rule_record}

-- a record that is a rule has its numbers in their ranges
abbrev pub IsRuleInRange : Record → Type 0
IsRuleInRange (filed.Rule r) = IsRule r
IsRuleInRange _ = Unit {0}

-- the numbers of each filed rule are in their ranges
abbrev pub HasRulesInRange : Tariff → Type 0
HasRulesInRange tariff = (id : RuleId) (rule : RuleRecord) → rule_record tariff id ≡ Some rule → IsRule rule
