-- the excess is no more than that of the units that begin behind the points before this one
use Rattle.std.proofs.Common.{◌≡◌, ℕ, ◌-◌, ◌<◌, ◌≤◌, Some, true}
use Rattle.fare_trip.specs.Itinerary.{count}
use Rattle.fare_rules.specs.Construction.{begin_after}
use Rattle.fare_homing.specs.Rows.{cell}
use Rattle.fare_legs.specs.Costs.{is_same_city}
use Rattle.fare_floors.proofs.bars.least_excess.Given as goal

abbrev pub invariant-loop-i : goal.invariant-loop-i
invariant-loop-i l = (i j w : ℕ) → i < l.i → j ≤ count l.table.trip → is_same_city l.table.trip (begin_after l.table.trip i) j ≡ true → i < j → cell l.homing.whole i j ≡ Some w → l.excess ≤ l.dear - w
