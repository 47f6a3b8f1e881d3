-- The text of what changed between two editions.
use Rattle.std.specs.Prelude.{ℕ, List, ◌++◌, length, codes, decimal}
use Rattle.std.specs.List.{flat_map}
use Rattle.fare_records.specs.declared.record.Record.{Record}
use Rattle.fare_tariff.specs.Tariff.{Tariff}
use Rattle.fare_csv.specs.CanonicalText.{record_row}
use Rattle.fare_csv.specs.Lines.{line_of}
use Rattle.fare_changes.specs.Diff.{removed, added, same_count}

-- the line of a record behind a sign: that of the canonical text
abbrev pub marked : List ℕ → Record → List ℕ
marked sign one = sign ++ line_of (record_row one)

-- the first line: the numbers of the editions, and how many records were removed, were added and are the same
unfoldable pub diff_line : Tariff → Tariff → List ℕ
diff_line old new =
    codes "DIFF " ++ decimal old.number ++ codes " " ++ decimal new.number
    ++ codes " removed " ++ decimal (length (removed old new)) ++ codes " added " ++ decimal (length (added old new))
    ++ codes " same " ++ decimal (same_count old new) ++ codes "\n"

-- the first line, then a line of each removed record, and then one of each added record
unfoldable pub diff_text : Tariff → Tariff → List ℕ
diff_text old new =
    diff_line old new ++ flat_map (marked (codes "- ")) (removed old new)
    ++ flat_map (marked (codes "+ ")) (added old new)
