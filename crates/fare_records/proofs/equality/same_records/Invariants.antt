-- both lists agree up to this place
use Rattle.std.proofs.Common.{◌≡◌, take}
use Rattle.fare_records.proofs.equality.same_records.Given as goal

abbrev pub invariant-loop-place : goal.invariant-loop-place
invariant-loop-place l = take l.place l.a ≡ take l.place l.b
