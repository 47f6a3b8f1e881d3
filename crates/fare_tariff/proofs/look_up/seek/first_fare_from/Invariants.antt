-- what is sought is first found from the place at hand on, which has a fare of the key
use Rattle.std.proofs.Common.{◌≡◌, IfSome, None}
use Rattle.std.specs.List.{position_from}
use Rattle.fare_index.specs.declared.key.Key.TheVariants.{Fares}
use Rattle.fare_tariff.specs.Sought.{is_sought}
use Rattle.fare_records.proofs.Chain.{IsKeyed, from_place, rest_from}
use Rattle.fare_tariff.proofs.look_up.seek.first_fare_from.Given as goal

abbrev pub invariant-loop-at : goal.invariant-loop-at
invariant-loop-at l = record {
  keyed : IfSome l.at (IsKeyed (Fares l.key.from l.key.to l.key.ind) l.filed);
  same : from_place (position_from (is_sought l.key l.sought)) None (Fares l.key.from l.key.to l.key.ind) l.filed l.at ≡ position_from (is_sought l.key l.sought) 0 l.filed;
}

abbrev pub decreases-loop-at : goal.decreases-loop-at
decreases-loop-at l = rest_from l.filed l.at
