-- the numbers are known of the parts that end before this point
use Rattle.std.proofs.Common.{◌≡◌, length}
use Rattle.fare_legs.specs.Barred.{unless_barred}
use Rattle.fare_legs.specs.Costs.{single_cost, first_cost, back_cost}
use Rattle.fare_legs.proofs.LegLemmas.{AreLegsBefore}
use Rattle.fare_legs.proofs.legs.legs.Given as goal

abbrev pub invariant-loop-b : goal.invariant-loop-b
invariant-loop-b l = record {
  long_alone : length l.legs.alone ≡ 17;
  alone : AreLegsBefore l.table.edition l.table.trip (unless_barred l.table.edition l.barred single_cost) l.a l.b l.legs.alone;
  long_first : length l.legs.first ≡ 17;
  first : AreLegsBefore l.table.edition l.table.trip (unless_barred l.table.edition l.barred first_cost) l.a l.b l.legs.first;
  long_last : length l.legs.last ≡ 17;
  last : AreLegsBefore l.table.edition l.table.trip (unless_barred l.table.edition l.barred back_cost) l.a l.b l.legs.last;
}
