-- the stretch is that of the sectors to this point, and the row has the indicators of the spans that end there or before
use Rattle.std.proofs.Common.{◌≡◌, ◌+◌, length}
use Rattle.fare_rules.specs.declared.limits.TheConstants.{MOST_POINTS}
use Rattle.fare_points.specs.Stretch.{IsStretch, AreIndicatorsFrom}
use Rattle.fare_points.proofs.indicators.indicators_from.Given as goal

abbrev pub invariant-loop-j : goal.invariant-loop-j
invariant-loop-j l = record {
  long : length l.row ≡ MOST_POINTS;
  known : AreIndicatorsFrom l.edition l.trip l.a (l.j + 1) l.row;
  stretch : IsStretch l.edition l.trip l.a l.j l.stretch;
}
