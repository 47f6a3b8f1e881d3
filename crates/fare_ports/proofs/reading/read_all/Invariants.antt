use Rattle.std.proofs.Common.{vec_len, ◌+◌, ◌-◌, ◌≤◌}
use Rattle.std.specs.Io.KnownBytes.{Consumes}
use Rattle.fare_ports.proofs.reading.read_all.Given as goal

-- what was taken from the source is what stands in `bytes`
abbrev pub invariant-pieces : goal.invariant-pieces
invariant-pieces g l = record {
  in_range : vec_len l.bytes ≤ l.max + 1;
  consumed : Consumes (g.S.Source.left l.initial.src) (g.S.Source.left l.src) l.bytes.items;
  never_falls : g.S.Source.faults l.initial.src ≤ g.S.Source.faults l.src;
}

abbrev pub decreases-pieces : goal.decreases-pieces
decreases-pieces g l = (l.max + 1) - vec_len l.bytes
