-- the part that is left
use Rattle.std.proofs.Common.{◌-◌}
use Rattle.fare_index.proofs.Halved.{IsHalved}
use Rattle.fare_index.proofs.rank.rank.Given as goal

abbrev pub invariant-loop-low : goal.invariant-loop-low
invariant-loop-low l = IsHalved l.hashes l.sought l.low l.high

abbrev pub decreases-loop-low : goal.decreases-loop-low
decreases-loop-low l = l.high - l.low
