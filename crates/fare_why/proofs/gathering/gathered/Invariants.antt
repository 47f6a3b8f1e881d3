use Rattle.std.proofs.Common.{◌≡◌}
use Rattle.std.specs.Prelude.{All, IsSome}
use Rattle.fare_why.specs.Asked.{shown_at}
use Rattle.fare_why.proofs.gathering.gathered.Given as goal

abbrev pub invariant-loop-slot : goal.invariant-loop-slot
invariant-loop-slot l = record {
  shown : l.reasons.items ≡ shown_at l.yielded;
  there : All IsSome l.yielded;
}
