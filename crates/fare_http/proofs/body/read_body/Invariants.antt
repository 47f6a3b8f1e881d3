use Rattle.std.proofs.Common.{vec_len, ◌-◌, ◌≤◌, ◌≡◌}
use Rattle.fare_http.specs.Heads.{Grows}
use Rattle.fare_http.proofs.body.read_body.Given as goal

-- the body grew by what was taken from the connection
abbrev pub invariant-pieces : goal.invariant-pieces
invariant-pieces g l = record {
  in_range : vec_len l.body ≤ l.announced;
  grown : Grows (g.D.Door.left l.initial.door) (g.D.Door.left l.door) l.initial.body.items l.body.items;
  never_falls : g.D.Door.cuts l.initial.door ≤ g.D.Door.cuts l.door;
  sent : g.D.Door.sent l.door ≡ g.D.Door.sent l.initial.door;
  waiting : g.D.Door.waiting l.door ≡ g.D.Door.waiting l.initial.door;
  held : g.D.Door.held l.door ≡ g.D.Door.held l.initial.door;
  current : g.D.Door.current l.door ≡ g.D.Door.current l.initial.door;
  faults : g.D.Door.faults l.door ≡ g.D.Door.faults l.initial.door;
  port : g.D.Door.listens_at l.door ≡ g.D.Door.listens_at l.initial.door;
}

abbrev pub decreases-pieces : goal.decreases-pieces
decreases-pieces g l = l.announced - vec_len l.body
