use Rattle.std.proofs.Common.{◌≡◌, ◌<◌, ◌≤◌, List, None}
use Rattle.fare_rounds.specs.Entries.{connection_count}
use Rattle.fare_rounds.specs.Taking.{Arrival, Gathers, gathering, none_taken}
use Rattle.fare_rounds.proofs.taking.take_round.Given as goal

-- as many connections were taken as there were turns
abbrev pub invariant-connections : goal.invariant-connections
invariant-connections g l = record {
  gathered : (arrivals : List Arrival)
      × Gathers
      (none_taken (g.D.Door.waiting l.initial.door) (g.D.Door.sent l.initial.door) (g.D.Door.cuts l.initial.door))
      (gathering (g.D.Door.waiting l.door) (g.D.Door.sent l.door) (g.D.Door.held l.door) (g.D.Door.cuts l.door) l.round)
      arrivals;
  count : connection_count l.round ≡ l.taken;
  none_current : 0 < l.taken → g.D.Door.current l.door ≡ None;
  never_falls : g.D.Door.cuts l.initial.door ≤ g.D.Door.cuts l.door;
  port : g.D.Door.listens_at l.door ≡ g.D.Door.listens_at l.initial.door;
  faults : g.D.Door.faults l.initial.door ≤ g.D.Door.faults l.door;
}
