-- Barred: fares that may not come behind some others, since their rules do not combine end on end.
use Rattle.std.specs.Prelude.{◌≡◌, ◌⊎◌, ℕ, Bool, true, false, List, [], ◌∷◌, Option, Some, None, bytes_eq, if◌then◌else◌}
use Rattle.std.specs.List.{list_any}
use Rattle.fare_codes.specs.declared.rule_id.RuleId.{RuleId}
use Rattle.fare_tariff.specs.Record.{FareRecord}
use Rattle.fare_tariff.specs.Tariff.{Tariff}
use Rattle.fare_tariff.specs.Lookup.{ends_ok, fare_at}
use Rattle.fare_component.specs.declared.table.entry.Entry.{Entry}

-- two rules are the same: the free rule, or that of one name
abbrev pub same_rule : Option RuleId → Option RuleId → Bool
same_rule None None = true
same_rule None (Some other) = false
same_rule (Some id) None = false
same_rule (Some id) (Some other) = bytes_eq id other

-- a fare is there, and has a rule
abbrev pub has_this_rule : Option RuleId → Option FareRecord → Bool
has_this_rule rule None = false
has_this_rule rule (Some fare) = same_rule fare.rule rule

-- the fare of a record number is there, and has a rule
abbrev pub is_of_rule : Tariff → Option RuleId → ℕ → Bool
is_of_rule tariff rule number = has_this_rule rule (fare_at tariff number)

-- a rule is that of one of some fares
abbrev pub is_among : Tariff → List ℕ → Option RuleId → Bool
is_among tariff fares rule = list_any (is_of_rule tariff rule) fares

-- a fare is there, and has the rule of one of some fares
abbrev pub is_like_one_of : Tariff → List ℕ → Option FareRecord → Bool
is_like_one_of tariff fares None = false
is_like_one_of tariff fares (Some fare) = is_among tariff fares fare.rule

-- the fare of a record number has the rule of one of some fares
abbrev pub is_barred : Tariff → List ℕ → ℕ → Bool
is_barred tariff [] number = false
is_barred tariff (fare ∷ fares) number = is_like_one_of tariff (fare ∷ fares) (fare_at tariff number)

-- what an entry costs, unless its fare is barred
abbrev pub unless_barred : Tariff → List ℕ → (Entry → Option ℕ) → Entry → Option ℕ
unless_barred tariff fares cost_of entry = if is_barred tariff fares entry.fare then None else cost_of entry

-- behind a rule no more is barred than before it but what does not combine with it: each rule of the fares that are
-- barred then is one of those that were barred, or does not combine end on end with the rule
abbrev pub IsStep : Tariff → List ℕ → Option RuleId → List ℕ → Type 0
IsStep tariff before rule after =
    (other : Option RuleId) → is_among tariff after other ≡ true
    → (is_among tariff before other ≡ true) ⊎ (ends_ok tariff rule other ≡ false)
