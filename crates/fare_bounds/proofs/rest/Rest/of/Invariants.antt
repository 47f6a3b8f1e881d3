-- the rests are known from this point on
use Rattle.std.proofs.Common.{◌≡◌, length}
use Rattle.fare_rules.specs.declared.limits.TheConstants.{MOST_POINTS}
use Rattle.fare_bounds.specs.Search.{AreInBounds, AreRestsFrom}
use Rattle.fare_bounds.proofs.rest.Rest.of.Given as goal

abbrev pub invariant-loop-i : goal.invariant-loop-i
invariant-loop-i l = record {
  long : length l.least ≡ MOST_POINTS;
  known : AreRestsFrom l.table.edition l.table.trip l.i l.least;
  bounds : AreInBounds l.least;
}
