-- the countries are known of the points before this one
use Rattle.std.proofs.Common.{◌≡◌, ℕ, ◌<◌, length}
use Rattle.std.specs.Prelude.{None, slice_index_or}
use Rattle.fare_trip.specs.Itinerary.{point}
use Rattle.fare_rules.specs.Indicator.{country}
use Rattle.fare_legs.proofs.nearness.countries_of.Given as goal

abbrev pub invariant-loop-i : goal.invariant-loop-i
invariant-loop-i l = record {
  long : length l.countries ≡ 17;
  known : (k : ℕ) → k < l.i → slice_index_or l.countries k None ≡ country l.table.edition (point l.table.trip k);
}
