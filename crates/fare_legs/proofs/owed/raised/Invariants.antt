-- the numbers so far are no less than what is owed, and than what the part costs
use Rattle.std.proofs.Common.{◌≡◌, ℕ, ◌<◌, ◌≤◌, length}
use Rattle.fare_bounds.specs.Covers.{rest_at}
use Rattle.fare_legs.specs.Costs.{IsUpTo}
use Rattle.fare_legs.proofs.owed.raised.Given as goal

abbrev pub invariant-loop-home : goal.invariant-loop-home
invariant-loop-home l = record {
  long : length l.raised ≡ 17;
  known : (home x y cost : ℕ) → home < l.home → IsUpTo x (rest_at l.row home) → IsUpTo y (rest_at l.owed home) → x ≤ cost → y ≤ cost → IsUpTo cost (rest_at l.raised home);
}
