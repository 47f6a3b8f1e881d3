-- the excess is no more than that of the units that come home before this point
use Rattle.std.proofs.Common.{◌≡◌, ℕ, ◌-◌, ◌<◌, ◌≤◌, Some, true}
use Rattle.fare_rules.specs.Construction.{begin_after}
use Rattle.fare_homing.specs.Rows.{cell}
use Rattle.fare_legs.specs.Costs.{is_same_city}
use Rattle.fare_floors.proofs.bars.excess_from.Given as goal

abbrev pub invariant-loop-j : goal.invariant-loop-j
invariant-loop-j l = (j w : ℕ) → j < l.j → is_same_city l.table.trip (begin_after l.table.trip l.i) j ≡ true → l.i < j → cell l.homing.whole l.i j ≡ Some w → l.excess ≤ l.dear - w
