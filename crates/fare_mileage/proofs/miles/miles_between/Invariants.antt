-- the mileages of the sectors before this point are known
use Rattle.std.proofs.Common.{◌≡◌, length}
use Rattle.fare_rules.specs.declared.limits.TheConstants.{MOST_POINTS}
use Rattle.fare_mileage.specs.Miles.{AreInRange, AreMiles}
use Rattle.fare_mileage.proofs.miles.miles_between.Given as goal

abbrev pub invariant-loop-i : goal.invariant-loop-i
invariant-loop-i l = record {
  long : length l.miles ≡ MOST_POINTS;
  known : AreMiles l.edition l.trip l.a l.i l.miles;
  in_range : AreInRange l.miles;
}
