-- the numbers before this one are under both
use Rattle.std.proofs.Common.{◌≡◌, ℕ, ◌<◌, length}
use Rattle.fare_bounds.specs.Covers.{rest_at}
use Rattle.fare_legs.specs.Costs.{IsUpTo}
use Rattle.fare_floors.proofs.lasting.greater_of.Given as goal

abbrev pub invariant-loop-i : goal.invariant-loop-i
invariant-loop-i l = record {
  long : length l.row ≡ 17;
  known : (i most : ℕ) → i < l.i → IsUpTo most (rest_at l.a i) → IsUpTo most (rest_at l.b i) → IsUpTo most (rest_at l.row i);
}
