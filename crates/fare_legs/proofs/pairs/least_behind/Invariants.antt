-- under what the pairs cost whose last part begins before this point
use Rattle.std.proofs.Common.{ℕ, ◌<◌, ◌≤◌}
use Rattle.fare_legs.specs.Costs.{IsKeptBy}
use Rattle.fare_legs.specs.Pairs.{IsUnderPairsAt}
use Rattle.fare_legs.proofs.pairs.least_behind.Given as goal

abbrev pub invariant-loop-begin : goal.invariant-loop-begin
invariant-loop-begin l = record {
  kept : IsKeptBy l.initial.least l.least;
  pairs : (begin : ℕ) → l.first.end ≤ begin → begin < l.begin → IsUnderPairsAt l.pairing.table.now l.pairing.barred.now l.pairing.start l.pairing.home l.pairing.floor l.first.fare l.first.amount begin l.least;
}
