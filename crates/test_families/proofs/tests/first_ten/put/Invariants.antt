-- no more are before it than were looked at
use Rattle.std.proofs.Common.{◌≤◌}
use Rattle.test_families.proofs.tests.first_ten.put.Given as goal

abbrev pub invariant-loop-one : goal.invariant-loop-one
invariant-loop-one l = l.place ≤ l.one-index
