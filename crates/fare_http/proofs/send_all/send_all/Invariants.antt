use Rattle.std.proofs.Common.{length, take, ◌-◌, ◌≤◌, ◌≡◌}
use Rattle.fare_http.specs.Sending.{Sends}
use Rattle.fare_http.proofs.send_all.send_all.Given as goal

-- the bytes before `at` were sent
abbrev pub invariant-pieces : goal.invariant-pieces
invariant-pieces g l = record {
  in_range : l.at ≤ length l.bytes;
  sent : Sends (g.D.Door.current l.initial.door) (g.D.Door.current l.door) (g.D.Door.sent l.initial.door)
      (g.D.Door.sent l.door) (take l.at l.bytes);
  waiting : g.D.Door.waiting l.door ≡ g.D.Door.waiting l.initial.door;
  left : g.D.Door.left l.door ≡ g.D.Door.left l.initial.door;
  held : g.D.Door.held l.door ≡ g.D.Door.held l.initial.door;
  faults : g.D.Door.faults l.door ≡ g.D.Door.faults l.initial.door;
  port : g.D.Door.listens_at l.door ≡ g.D.Door.listens_at l.initial.door;
  never_falls : g.D.Door.cuts l.initial.door ≤ g.D.Door.cuts l.door;
}

abbrev pub decreases-pieces : goal.decreases-pieces
decreases-pieces g l = length l.bytes - l.at
