-- the numbers before this one are the lesser of both
use Rattle.std.proofs.Common.{◌≡◌, ℕ, ◌<◌, length}
use Rattle.fare_bounds.specs.Covers.{rest_at}
use Rattle.fare_legs.specs.Costs.{IsUpTo}
use Rattle.fare_homing.proofs.reaching.lesser_of.Given as goal

abbrev pub invariant-loop-j : goal.invariant-loop-j
invariant-loop-j l = record {
  long : length l.least ≡ 17;
  kept : (j most : ℕ) → j < l.j → IsUpTo most (rest_at l.row j) → IsUpTo most (rest_at l.least j);
  under : (j most : ℕ) → j < l.j → IsUpTo most (rest_at l.other j) → IsUpTo most (rest_at l.least j);
}
