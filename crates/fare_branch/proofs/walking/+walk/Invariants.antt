-- what was walked so far, and how much of the trip is left
use Rattle.std.proofs.Common.{◌≡◌, ◌+◌, ◌-◌, ◌*◌, length, take}
use Rattle.fare_trip.specs.Itinerary.{count}
use Rattle.fare_rules.specs.Construction.{end_of}
use Rattle.fare_units.specs.Walk.{GoesOn, HasUnitBefore}
use Rattle.fare_branch.specs.Sought.{IsWalk}
use Rattle.fare_branch.proofs.StepLemmas.{EndsFrom, HasEntry}
use Rattle.fare_branch.proofs.walking.+walk.Given as goal

abbrev pub decreases-walk : goal.decreases-walk
decreases-walk g l = 6 * (count l.stage.now.table.now.trip - end_of l.stage.now.front.now (length l.stage.now.front.now)) + 5

abbrev pub decreases-walk_ends : goal.decreases-walk_ends
decreases-walk_ends g l = 6 * (count l.stage.now.table.now.trip - end_of l.stage.now.front.now (length l.stage.now.front.now)) + 4

abbrev pub decreases-walk_entries : goal.decreases-walk_entries
decreases-walk_entries g l = 6 * (count l.stage.now.table.now.trip - end_of l.stage.now.front.now (length l.stage.now.front.now)) + 3

abbrev pub decreases-walk_units : goal.decreases-walk_units
decreases-walk_units g l = 6 * (count l.stage.now.table.now.trip - end_of l.stage.now.front.now (length l.stage.now.front.now)) + 2

abbrev pub decreases-follow : goal.decreases-follow
decreases-follow g l = 6 * (count l.stage.now.table.now.trip - end_of l.stage.now.front.now (length l.stage.now.front.now)) + 1

abbrev pub decreases-enter : goal.decreases-enter
decreases-enter g l = 6 * (count l.stage.now.table.now.trip - end_of l.stage.now.front.now (length l.stage.now.front.now))

abbrev pub invariant-walk_ends-loop-end : goal.invariant-walk_ends-loop-end
invariant-walk_ends-loop-end g l = record {
  fixed : g.S.Seeker.fixed l.seeker l.known ≡ g.S.Seeker.fixed l.fn.seeker l.fn.known;
  holds : g.S.Seeker.holds l.fn.stage.table.now.edition l.fn.stage.table.now.trip l.seeker l.known;
  walk : IsWalk l.fn.stage.table.now.edition l.fn.stage.table.now.trip (GoesOn l.fn.stage.front.now (EndsFrom l.end)) (g.S.Seeker.passed l.fn.seeker l.fn.known) (g.S.Seeker.has l.fn.seeker l.fn.known) (g.S.Seeker.passed l.seeker l.known) (g.S.Seeker.has l.seeker l.known);
}

abbrev pub invariant-walk_entries-loop-entry : goal.invariant-walk_entries-loop-entry
invariant-walk_entries-loop-entry g l = record {
  fixed : g.S.Seeker.fixed l.seeker l.known ≡ g.S.Seeker.fixed l.fn.seeker l.fn.known;
  holds : g.S.Seeker.holds l.fn.stage.table.now.edition l.fn.stage.table.now.trip l.seeker l.known;
  walk : IsWalk l.fn.stage.table.now.edition l.fn.stage.table.now.trip (GoesOn l.fn.stage.front.now (HasEntry l.end (take l.entry-index l.entry-items))) (g.S.Seeker.passed l.fn.seeker l.fn.known) (g.S.Seeker.has l.fn.seeker l.fn.known) (g.S.Seeker.passed l.seeker l.known) (g.S.Seeker.has l.seeker l.known);
}

abbrev pub invariant-walk_units-loop-unit : goal.invariant-walk_units-loop-unit
invariant-walk_units-loop-unit g l = record {
  fixed : g.S.Seeker.fixed l.seeker l.known ≡ g.S.Seeker.fixed l.fn.seeker l.fn.known;
  holds : g.S.Seeker.holds l.fn.stage.table.now.edition l.fn.stage.table.now.trip l.seeker l.known;
  walk : IsWalk l.fn.stage.table.now.edition l.fn.stage.table.now.trip (GoesOn l.fn.stage.front.now (HasUnitBefore l.end l.entry.fare l.unit)) (g.S.Seeker.passed l.fn.seeker l.fn.known) (g.S.Seeker.has l.fn.seeker l.fn.known) (g.S.Seeker.passed l.seeker l.known) (g.S.Seeker.has l.seeker l.known);
}
