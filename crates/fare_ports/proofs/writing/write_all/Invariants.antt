use Rattle.std.proofs.Common.{length, take, ◌-◌, ◌≤◌}
use Rattle.std.specs.Io.KnownBytes.{Appends}
use Rattle.fare_ports.proofs.writing.write_all.Given as goal

-- the bytes before `at` were appended
abbrev pub invariant-pieces : goal.invariant-pieces
invariant-pieces g l = record {
  in_range : l.at ≤ length l.bytes;
  appended : Appends (g.K.Sink.taken l.initial.out) (g.K.Sink.taken l.out) (take l.at l.bytes);
  never_falls : g.K.Sink.faults l.initial.out ≤ g.K.Sink.faults l.out;
}

abbrev pub decreases-pieces : goal.decreases-pieces
decreases-pieces g l = length l.bytes - l.at
