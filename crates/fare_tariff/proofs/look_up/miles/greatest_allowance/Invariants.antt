-- the greatest by way of the cities that were passed
use Rattle.std.proofs.Common.{◌≡◌, ◌≤◌, take}
use Rattle.fare_records.specs.declared.limits.TheConstants.{MOST_MILES}
use Rattle.fare_tariff.specs.Lookup.{greatest, allowance_in}
use Rattle.fare_tariff.proofs.look_up.miles.greatest_allowance.Given as goal

abbrev pub invariant-loop-city : goal.invariant-loop-city
invariant-loop-city l = record {
  in_range : l.most ≤ MOST_MILES;
  same : l.most ≡ greatest (allowance_in l.a l.b l.ind (take l.city-index l.cities)) l.filed;
}
