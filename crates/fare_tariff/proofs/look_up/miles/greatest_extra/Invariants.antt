-- the greatest so far, and from the place at hand on, is the greatest of all
use Rattle.std.proofs.Common.{◌≡◌, ◌≤◌, IfSome, max}
use Rattle.fare_records.specs.declared.limits.TheConstants.{MOST_MILES}
use Rattle.fare_tariff.specs.Lookup.{greatest}
use Rattle.fare_records.specs.Keyed.{extra_miles}
use Rattle.fare_records.proofs.Chain.{IsKeyed, from_place, rest_from}
use Rattle.fare_tariff.proofs.look_up.miles.greatest_extra.Given as goal

abbrev pub invariant-loop-at : goal.invariant-loop-at
invariant-loop-at l = record {
  in_range : l.most ≤ MOST_MILES;
  keyed : IfSome l.at (IsKeyed l.key l.filed);
  same : max l.most (from_place (λ k xs. greatest (extra_miles l.key) xs) 0 l.key l.filed l.at) ≡ greatest (extra_miles l.key) l.filed;
}

abbrev pub decreases-loop-at : goal.decreases-loop-at
decreases-loop-at l = rest_from l.filed l.at
