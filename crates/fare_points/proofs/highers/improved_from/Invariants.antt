-- the best so far, once what is left is compared, is the best of all; it is a pair of the component
use Rattle.std.proofs.Common.{◌≡◌, ◌+◌, IfSome, filter_map}
use Rattle.fare_rules.specs.Numbers.{numbers}
use Rattle.fare_rules.specs.Base.{compared_pair}
use Rattle.fare_points.specs.Improved.{IsPairOf, improved}
use Rattle.fare_points.proofs.highers.improved_from.Given as goal

abbrev pub invariant-loop-j : goal.invariant-loop-j
invariant-loop-j l = record {
  whole : improved l.component.fare.now.amount l.best (filter_map (compared_pair l.component.edition.now l.component.trip.now l.component.a l.component.b l.component.fare.now l.component.back l.i)
      (numbers (l.j + 1) (l.component.b + 1))) ≡ improved l.component.fare.now.amount l.initial.best
      (filter_map (compared_pair l.component.edition.now l.component.trip.now l.component.a l.component.b l.component.fare.now l.component.back l.i) (numbers (l.i + 1) (l.component.b + 1)));
  bound : IfSome l.best (IsPairOf l.component.a l.component.b);
}
