-- what the parts between cost at least of the entries so far
use Rattle.std.proofs.Common.{take}
use Rattle.fare_homing.specs.Between.{cost_within}
use Rattle.fare_legs.specs.Least.{IsUnderEach}
use Rattle.fare_homing.proofs.between.least_within.Given as goal

abbrev pub invariant-loop-entry : goal.invariant-loop-entry
invariant-loop-entry l = IsUnderEach (cost_within l.table.edition l.table.trip l.homing.of_two l.homing.unit_ceiling l.between) (take l.entry-index l.entry-items) l.least
