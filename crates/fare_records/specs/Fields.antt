-- Fields: when two fields of a record are the same.
use Rattle.std.specs.Prelude.{Bool, true, false, ◌&&◌, ◌||◌, Option, Some, None, bytes_eq}
use Rattle.fare_codes.specs.declared.city.City.{City}
use Rattle.fare_codes.specs.declared.rule_id.RuleId.{RuleId}

-- two rule fields are the same, of which nothing is the free rule
abbrev pub same_rule : Option RuleId → Option RuleId → Bool
same_rule None None = true
same_rule (Some a) (Some b) = bytes_eq a b
same_rule _ _ = false

-- two via fields are the same, of which nothing is every way
abbrev pub same_via : Option City → Option City → Bool
same_via None None = true
same_via (Some a) (Some b) = bytes_eq a b
same_via _ _ = false

-- two unordered pairs of cities are the same
abbrev pub same_pair : City → City → City → City → Bool
same_pair a b c d = (bytes_eq a c && bytes_eq b d) || (bytes_eq a d && bytes_eq b c)
