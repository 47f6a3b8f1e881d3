-- the numbers before this one are lowered
use Rattle.std.proofs.Common.{◌≡◌, ℕ, ◌+◌, ◌<◌, length}
use Rattle.fare_bounds.specs.Covers.{rest_at}
use Rattle.fare_legs.specs.Costs.{IsUpTo}
use Rattle.fare_homing.proofs.reaching.lowered.Given as goal

abbrev pub invariant-loop-j : goal.invariant-loop-j
invariant-loop-j l = record {
  long : length l.lowered ≡ 17;
  kept : (j most : ℕ) → j < l.j → IsUpTo most (rest_at l.row j) → IsUpTo most (rest_at l.lowered j);
  under : (j x y : ℕ) → j < l.j → IsUpTo x l.step → IsUpTo y (rest_at l.behind j) → IsUpTo (x + y) (rest_at l.lowered j);
}
