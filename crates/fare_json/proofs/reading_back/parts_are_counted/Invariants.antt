-- those before this one were looked at
use Rattle.std.proofs.Common.{ℕ, ◌<◌, get_or}
use Rattle.fare_calc.specs.declared.part_sheet.PartSheet.{PartSheet}
use Rattle.fare_json.specs.Counts.{ArePartCounts}
use Rattle.fare_json.proofs.reading_back.parts_are_counted.Given as goal

abbrev pub invariant-loop-one : goal.invariant-loop-one
invariant-loop-one l = (k : ℕ) (d : PartSheet) → k < l.one-index → ArePartCounts (get_or l.parts k d)
