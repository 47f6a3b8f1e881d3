-- what the dives so far came to
use Rattle.std.proofs.Common.{◌≡◌, None}
use Rattle.fare_homing.specs.Rows.{AreHomingsOf}
use Rattle.fare_branch.specs.Dive.{IsDived}
use Rattle.fare_branch.proofs.opening.dives.Given as goal

abbrev pub invariant-loop-ceiling : goal.invariant-loop-ceiling
invariant-loop-ceiling g l = record {
  fixed : g.B.Bound.fixed l.bound ≡ g.B.Bound.fixed l.fn.bound;
  homing : AreHomingsOf l.table.edition l.table.trip l.homing;
  dived : IsDived l.table.edition l.table.trip l.piece (g.B.Bound.least l.fn.bound) None (g.B.Bound.least l.bound) l.best;
}
