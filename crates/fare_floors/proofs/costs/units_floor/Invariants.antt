-- what the units so far cost, and what is left
use Rattle.std.proofs.Common.{◌≡◌, ◌+◌, ◌-◌, ◌*◌, ◌≤◌}
use Rattle.std.specs.Prelude.{sum_by}
use Rattle.fare_rules.specs.Numbers.{numbers}
use Rattle.fare_floors.specs.Costs.{unit_floor}
use Rattle.fare_floors.proofs.costs.units_floor.Given as goal

abbrev pub invariant-loop-unit : goal.invariant-loop-unit
invariant-loop-unit l = record {
  sum : l.total + sum_by (unit_floor l.table.edition l.table.trip l.parts) (numbers l.unit (l.greatest + 1))
      ≡ sum_by (unit_floor l.table.edition l.table.trip l.parts) (numbers 1 (l.greatest + 1));
  bound : l.total ≤ (l.unit - 1) * 32_000_000_000;
}
