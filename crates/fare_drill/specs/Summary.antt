-- The text that sums up a drill.
use Rattle.std.specs.Prelude.{ℕ, List, ◌++◌, length, Option, Some, None, codes, decimal}
use Rattle.fare_codes.specs.Numbers.{nuc_text}
use Rattle.fare_rules.specs.declared.part.Part.{Part}
use Rattle.fare_rules.specs.Construction.{greatest_unit, places}

-- the price of the best construction, and how many parts and units it has; without one there is no fare
abbrev pub result_lines : Option (List Part × ℕ) → List ℕ
result_lines None = codes "NO FARE\nPARTS 0 UNITS 0\n"
result_lines (Some best) =
    codes "TOTAL NUC " ++ nuc_text best.1 ++ codes "\nPARTS " ++ decimal (length best.0)
    ++ codes " UNITS " ++ decimal (greatest_unit best.0 (places best.0)) ++ codes "\n"

-- the line that names a drill and the number of its records, and then its result
unfoldable pub drill_text : ℕ → ℕ → ℕ → Option (List Part × ℕ) → List ℕ
drill_text seed sectors records best =
    codes "DRILL seed " ++ decimal seed ++ codes " sectors " ++ decimal sectors ++ codes " records " ++ decimal records
    ++ codes "\n" ++ result_lines best
