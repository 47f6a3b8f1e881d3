-- the rows have the indicators of the spans that begin before this point
use Rattle.std.proofs.Common.{◌≡◌, length}
use Rattle.fare_rules.specs.declared.limits.TheConstants.{MOST_POINTS}
use Rattle.fare_conditions.specs.Shared.{AreIndicatorsBefore}
use Rattle.fare_conditions.proofs.indicators.all_indicators.Given as goal

abbrev pub invariant-loop-i : goal.invariant-loop-i
invariant-loop-i l = record {
  long : length l.rows ≡ MOST_POINTS;
  known : AreIndicatorsBefore l.edition l.trip l.i l.rows;
}
