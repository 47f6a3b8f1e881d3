-- no more fares are put than there were places
use Rattle.std.proofs.Common.{◌≤◌}
use Rattle.fare_homing.proofs.rule_sets.RuleSets.fares.Given as goal

abbrev pub invariant-loop-place : goal.invariant-loop-place
invariant-loop-place l = l.count ≤ l.place
