-- every point before this one has a record
use Rattle.std.proofs.Common.{◌≡◌, find}
use Rattle.fare_rules.specs.Numbers.{numbers}
use Rattle.fare_rules.specs.Span.{is_unplaced}
use Rattle.fare_points.proofs.places.placed.Given as goal

abbrev pub invariant-loop-i : goal.invariant-loop-i
invariant-loop-i l = find (is_unplaced l.edition l.trip) (numbers l.i l.points)
    ≡ find (is_unplaced l.edition l.trip) (numbers 0 l.points)
