use Rattle.std.proofs.Common.{◌≡◌, take}
use Rattle.fare_relaxed.specs.Relax.{relaxed_records}
use Rattle.fare_relaxed.proofs.records.relaxed_records.Given as goal

abbrev pub invariant-loop-one : goal.invariant-loop-one
invariant-loop-one l = l.made.items ≡ relaxed_records l.term (take l.one-index l.records)
