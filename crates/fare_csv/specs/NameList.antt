-- Lists of rules, as a RULE record spells them.
use Rattle.std.specs.Prelude.{ℕ, List, [], ◌∷◌, length, codes, Option, Some, None, option_map, ◌==◌, nat_le}
use Rattle.std.specs.Prelude.{if◌then◌else◌}
use Rattle.std.specs.List.{slice_split}
use Rattle.std.specs.Str.{bytes_eq}
use Rattle.fare_codes.specs.Codes.{read_rule_id}
use Rattle.fare_codes.specs.declared.rule_id.RuleId.{RuleId}
use Rattle.fare_records.specs.declared.limits.TheConstants.{MOST_NAMES}
use Rattle.fare_records.specs.declared.names.Names.{Names}
use Rattle.fare_records.specs.declared.names.Names.TheVariants.{All, Of}

-- a name is a rule's id, or `-` for the free rule
unfoldable pub read_name : List ℕ → Option (Option RuleId)
read_name bytes = if bytes_eq bytes (codes "-") then Some None else option_map Some (read_rule_id bytes)

-- a name and the names after it, where all are in their form
abbrev pub name_and : Option (Option RuleId) → Option (List (Option RuleId)) → Option (List (Option RuleId))
name_and None others = None
name_and (Some name) None = None
name_and (Some name) (Some others) = Some (name ∷ others)

-- the names that pieces spell
unfoldable pub names_of : List (List ℕ) → Option (List (Option RuleId))
names_of [] = Some []
names_of (piece ∷ pieces) = name_and (read_name piece) (names_of pieces)

-- the pieces of a list: between two of them stands one space
abbrev pub pieces_of : List ℕ → List (List ℕ)
pieces_of bytes = slice_split (λ byte. byte == 32) bytes

-- a list has at most as many names as a rule may list
unfoldable pub read_list : List ℕ → Option (List (Option RuleId))
read_list bytes = if nat_le (length (pieces_of bytes)) MOST_NAMES then names_of (pieces_of bytes) else None

-- a list is `*`, or empty, or names
unfoldable pub read_names : List ℕ → Option Names
read_names bytes =
    if bytes_eq bytes (codes "*") then Some All
    else (if length bytes == 0 then Some (Of []) else option_map Of (read_list bytes))
