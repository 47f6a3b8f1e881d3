-- the best so far, once what is left is compared, is the highest of all; it is a pair of the component
use Rattle.std.proofs.Common.{◌≡◌, IfSome, None, flat_map}
use Rattle.fare_rules.specs.Numbers.{numbers}
use Rattle.fare_rules.specs.Base.{compared_from}
use Rattle.fare_points.specs.Improved.{IsPairOf, improved}
use Rattle.fare_points.proofs.highers.higher.Given as goal

abbrev pub invariant-loop-i : goal.invariant-loop-i
invariant-loop-i l = record {
  whole : improved l.fare.amount l.best (flat_map (compared_from l.edition l.trip l.a l.b l.fare l.back)
      (numbers l.i l.b)) ≡ improved l.fare.amount None
      (flat_map (compared_from l.edition l.trip l.a l.b l.fare l.back) (numbers l.a l.b));
  bound : IfSome l.best (IsPairOf l.a l.b);
}
