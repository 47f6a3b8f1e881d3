-- the lesser of the least so far and of the cheapest that is left is the cheapest of all
use Rattle.std.proofs.Common.{◌≡◌, ◌<◌, drop}
use Rattle.std.specs.Prelude.{IfSome}
use Rattle.fare_bounds.specs.declared.limits.TheConstants.{COST_LIMIT}
use Rattle.fare_bounds.specs.Covers.{lesser}
use Rattle.fare_bounds.specs.Search.{cheapest}
use Rattle.fare_bounds.proofs.costs.cheapest.Given as goal

abbrev pub invariant-loop-entry : goal.invariant-loop-entry
invariant-loop-entry l = record {
  whole : lesser l.least (cheapest (drop l.entry-index l.entries)) ≡ cheapest l.entries;
  bound : IfSome l.least (λ cost. cost < COST_LIMIT);
}
