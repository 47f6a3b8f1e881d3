-- the numbers of the units so far
use Rattle.std.proofs.Common.{◌≡◌, ℕ, ◌<◌, ◌≤◌, length}
use Rattle.std.specs.Prelude.{slice_index}
use Rattle.fare_floors.specs.Costs.{unit_floor}
use Rattle.fare_floors.proofs.costs.floors_of.Given as goal

abbrev pub invariant-loop-unit : goal.invariant-loop-unit
invariant-loop-unit l = record {
  long : length l.floors ≡ 18;
  known : (unit : ℕ) → 1 ≤ unit → unit < l.unit → slice_index l.floors unit ≡ unit_floor l.table.edition l.table.trip l.parts unit;
}
