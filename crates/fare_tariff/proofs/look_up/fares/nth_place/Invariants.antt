-- what is still to be passed from the place at hand on leads to the same place
use Rattle.std.proofs.Common.{◌≡◌, IfSome, [], slice_get}
use Rattle.fare_index.specs.declared.key.Key.TheVariants.{Fares}
use Rattle.fare_tariff.specs.Lookup.{numbers_from, is_fare_between}
use Rattle.fare_records.proofs.Chain.{IsKeyed, from_place, rest_from}
use Rattle.fare_tariff.proofs.look_up.fares.nth_place.Given as goal

abbrev pub invariant-loop-at : goal.invariant-loop-at
invariant-loop-at l = record {
  keyed : IfSome l.at (IsKeyed (Fares l.fn.from l.fn.to l.fn.ind) l.filed);
  same : slice_get (from_place (numbers_from (is_fare_between l.fn.from l.fn.to l.fn.ind)) [] (Fares l.fn.from l.fn.to l.fn.ind) l.filed l.at) l.left ≡ slice_get (numbers_from (is_fare_between l.fn.from l.fn.to l.fn.ind) 0 l.filed) l.k;
}

abbrev pub decreases-loop-at : goal.decreases-loop-at
decreases-loop-at l = rest_from l.filed l.at
