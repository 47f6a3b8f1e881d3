-- what was walked so far, and how much of the trip is left
use Rattle.std.proofs.Common.{◌+◌, ◌-◌, ◌*◌, length}
use Rattle.fare_trip.specs.Itinerary.{count}
use Rattle.fare_rules.specs.Construction.{end_of}
use Rattle.fare_units.specs.Walk.{Walks, GoesOn, EndsBefore, HasFareBefore, HasUnitBefore}
use Rattle.fare_units.proofs.best.plain.+walk.Given as goal

abbrev pub decreases-walk : goal.decreases-walk
decreases-walk l = 5 * (count l.trip.now - end_of l.front.now (length l.front.now)) + 4

abbrev pub decreases-walk_ends : goal.decreases-walk_ends
decreases-walk_ends l = 5 * (count l.trip.now - end_of l.front.now (length l.front.now)) + 3

abbrev pub decreases-walk_fares : goal.decreases-walk_fares
decreases-walk_fares l = 5 * (count l.trip.now - end_of l.front.now (length l.front.now)) + 2

abbrev pub decreases-walk_units : goal.decreases-walk_units
decreases-walk_units l = 5 * (count l.trip.now - end_of l.front.now (length l.front.now)) + 1

abbrev pub decreases-walk_part : goal.decreases-walk_part
decreases-walk_part l = 5 * (count l.trip.now - end_of l.front.now (length l.front.now))

abbrev pub invariant-walk_ends-loop-end : goal.invariant-walk_ends-loop-end
invariant-walk_ends-loop-end l = Walks l.fn.edition l.fn.trip (GoesOn l.fn.front (EndsBefore l.end)) l.fn.best l.best

abbrev pub invariant-walk_fares-loop-number : goal.invariant-walk_fares-loop-number
invariant-walk_fares-loop-number l = Walks l.fn.edition l.fn.trip (GoesOn l.fn.front (HasFareBefore l.end l.number)) l.fn.best l.best

abbrev pub invariant-walk_units-loop-unit : goal.invariant-walk_units-loop-unit
invariant-walk_units-loop-unit l = Walks l.fn.edition l.fn.trip (GoesOn l.fn.front (HasUnitBefore l.end l.number l.unit)) l.fn.best l.best
