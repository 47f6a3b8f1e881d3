-- the cities so far and those of what is left are those of all; each point before this one has given one
use Rattle.std.proofs.Common.{◌≡◌, ◌+◌, ◌++◌, map}
use Rattle.arrayvec.specs.ArrayVec.{array_vec_len}
use Rattle.fare_trip.specs.Itinerary.{point}
use Rattle.fare_rules.specs.Numbers.{numbers}
use Rattle.fare_mileage.proofs.miles.interior_cities.Given as goal

abbrev pub invariant-loop-i : goal.invariant-loop-i
invariant-loop-i l = record {
  whole : l.cities.items ++ map (point l.trip) (numbers l.i l.b) ≡ map (point l.trip) (numbers (l.a + 1) l.b);
  count : array_vec_len l.cities + (l.a + 1) ≡ l.i;
}
