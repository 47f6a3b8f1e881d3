-- the record is in the list where it is from the place at hand on, which has a record of its key
use Rattle.std.proofs.Common.{◌≡◌, IfSome, false}
use Rattle.fare_records.specs.Keyed.{own_key}
use Rattle.fare_records.proofs.Chain.{IsKeyed, from_place, rest_from}
use Rattle.fare_changes.specs.Diff.{is_in}
use Rattle.fare_changes.proofs.HeldLemmas.{in_rest}
use Rattle.fare_changes.proofs.held.place_by_key.Given as goal

abbrev pub invariant-loop-at : goal.invariant-loop-at
invariant-loop-at l = record {
  keyed : IfSome l.at (IsKeyed (own_key l.one) l.filed);
  same : from_place (in_rest l.one) false (own_key l.one) l.filed l.at ≡ is_in l.filed l.one;
}

abbrev pub decreases-loop-at : goal.decreases-loop-at
decreases-loop-at l = rest_from l.filed l.at
