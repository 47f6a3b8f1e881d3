-- a strip is at one of its blocks, or past the end
use Rattle.std.proofs.Common.{◌-◌, length}
use Rattle.fare_tariff.proofs.Strips.{IsAtBlock}
use Rattle.fare_tariff.proofs.check.clear.is_clear_strip.Given as goal

abbrev pub invariant-loop-start : goal.invariant-loop-start
invariant-loop-start l = IsAtBlock l.filed l.groups l.strip l.start

abbrev pub decreases-loop-start : goal.decreases-loop-start
decreases-loop-start l = length l.filed - l.start
