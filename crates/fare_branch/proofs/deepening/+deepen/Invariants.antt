-- a dive goes no deeper than it may, and what it tells lowers what is known
use Rattle.std.proofs.Common.{◌≡◌, ◌≤◌}
use Rattle.fare_branch.specs.LeastPrice.{least_price}
use Rattle.fare_branch.proofs.deepening.+deepen.Given as goal

abbrev pub decreases-deepen : goal.decreases-deepen
decreases-deepen l = l.depth

abbrev pub invariant-loop-follower : goal.invariant-loop-follower
invariant-loop-follower l = record {
  fixed : least_price l.bound.edition.value l.bound.trip.value ≡ least_price l.fn.bound.edition.value l.fn.bound.trip.value;
  falls : l.bound.least ≤ l.fn.bound.least;
}
