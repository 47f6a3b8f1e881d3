use Rattle.std.proofs.Common.{vec_len, length, ◌-◌, ◌≤◌, ◌≡◌}
use Rattle.std.specs.Io.KnownBytes.{Consumes}
use Rattle.fare_http.proofs.head.read_head.Given as goal

-- what was taken from the connection is what stands in `taken`
abbrev pub invariant-pieces : goal.invariant-pieces
invariant-pieces g l = record {
  in_range : vec_len l.taken ≤ 16384;
  room : length l.fields ≡ 64;
  consumed : Consumes (g.D.Door.left l.initial.door) (g.D.Door.left l.door) l.taken.items;
  never_falls : g.D.Door.cuts l.initial.door ≤ g.D.Door.cuts l.door;
  sent : g.D.Door.sent l.door ≡ g.D.Door.sent l.initial.door;
  waiting : g.D.Door.waiting l.door ≡ g.D.Door.waiting l.initial.door;
  held : g.D.Door.held l.door ≡ g.D.Door.held l.initial.door;
  current : g.D.Door.current l.door ≡ g.D.Door.current l.initial.door;
  faults : g.D.Door.faults l.door ≡ g.D.Door.faults l.initial.door;
  port : g.D.Door.listens_at l.door ≡ g.D.Door.listens_at l.initial.door;
}

abbrev pub decreases-pieces : goal.decreases-pieces
decreases-pieces g l = 16384 - vec_len l.taken
