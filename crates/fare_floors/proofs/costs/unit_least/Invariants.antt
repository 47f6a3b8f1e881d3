-- what the parts so far cost, and what is left
use Rattle.std.proofs.Common.{◌≡◌, ◌+◌, ◌-◌, ◌*◌, ◌≤◌, length, filter}
use Rattle.std.specs.Prelude.{sum_by}
use Rattle.fare_rules.specs.Numbers.{numbers}
use Rattle.fare_rules.specs.Construction.{is_own}
use Rattle.fare_floors.specs.Costs.{part_least}
use Rattle.fare_floors.proofs.costs.unit_least.Given as goal

abbrev pub invariant-loop-k : goal.invariant-loop-k
invariant-loop-k l = record {
  sum : l.total + sum_by (part_least l.table.edition l.table.trip l.parts) (filter (is_own l.parts l.unit) (numbers l.k (length l.parts + 1)))
      ≡ sum_by (part_least l.table.edition l.table.trip l.parts) (filter (is_own l.parts l.unit) (numbers 1 (length l.parts + 1)));
  bound : l.total ≤ (l.k - 1) * 2_000_000_000;
}
