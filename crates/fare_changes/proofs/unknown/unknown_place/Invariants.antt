-- every point before this one has a record in one of the editions
use Rattle.std.proofs.Common.{◌≡◌, find}
use Rattle.fare_rules.specs.Numbers.{numbers}
use Rattle.fare_changes.specs.Compared.{is_unknown}
use Rattle.fare_changes.proofs.unknown.unknown_place.Given as goal

abbrev pub invariant-loop-i : goal.invariant-loop-i
invariant-loop-i l = find (is_unknown l.old l.new l.trip) (numbers l.i l.points)
    ≡ find (is_unknown l.old l.new l.trip) (numbers 0 l.points)
