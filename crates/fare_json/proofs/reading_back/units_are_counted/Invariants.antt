-- those before this one were looked at
use Rattle.std.proofs.Common.{ℕ, ◌<◌, get_or}
use Rattle.fare_calc.specs.declared.numbered_unit.NumberedUnit.{NumberedUnit}
use Rattle.fare_json.specs.Counts.{IsCount}
use Rattle.fare_json.proofs.reading_back.units_are_counted.Given as goal

abbrev pub invariant-loop-one : goal.invariant-loop-one
invariant-loop-one l = (k : ℕ) (d : NumberedUnit) → k < l.one-index → IsCount ((get_or l.units k d).number)
