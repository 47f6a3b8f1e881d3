-- the miles so far and those of what is left are the miles of all, and no sector has more than the most
use Rattle.std.proofs.Common.{◌≡◌, ◌+◌, ◌*◌, ◌≤◌, sum_by}
use Rattle.fare_records.specs.declared.limits.TheConstants.{MOST_MILES}
use Rattle.fare_rules.specs.Numbers.{numbers}
use Rattle.fare_rules.specs.Mileage.{miles_of_sector}
use Rattle.fare_mileage.proofs.miles.sum_of_miles.Given as goal

abbrev pub invariant-loop-i : goal.invariant-loop-i
invariant-loop-i l = record {
  whole :
      l.sum + sum_by (miles_of_sector l.edition l.trip) (numbers (l.i + 1) (l.b + 1))
      ≡ sum_by (miles_of_sector l.edition l.trip) (numbers (l.a + 1) (l.b + 1));
  bound : l.sum ≤ MOST_MILES * l.i;
}
