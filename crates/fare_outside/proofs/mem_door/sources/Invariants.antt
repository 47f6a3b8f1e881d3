use Rattle.std.proofs.Common.{◌≡◌}
use Rattle.fare_outside.proofs.mem_door.sources.Given as goal

abbrev pub invariant-loop-body : goal.invariant-loop-body
invariant-loop-body l = l.sources.items ≡ l.yielded
