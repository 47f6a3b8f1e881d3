-- the stretch is that of the sectors to this point
use Rattle.fare_points.specs.Stretch.{IsStretch}
use Rattle.fare_points.proofs.indicators.indicator.Given as goal

abbrev pub invariant-loop-i : goal.invariant-loop-i
invariant-loop-i l = IsStretch l.edition l.trip l.a l.i l.stretch
