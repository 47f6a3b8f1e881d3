-- what the last place of the unit is, by the last so far
use Rattle.std.proofs.Common.{◌≡◌, ◌+◌, ◌≤◌, length, filter}
use Rattle.fare_rules.specs.Construction.{is_own, last_of}
use Rattle.fare_rules.specs.Numbers.{numbers}
use Rattle.fare_floors.proofs.EndingLemmas.{last_from}
use Rattle.fare_floors.proofs.places.last_place.Given as goal

abbrev pub invariant-loop-k : goal.invariant-loop-k
invariant-loop-k l = record {
  value : last_of (filter (is_own l.parts l.unit) (numbers 1 (length l.parts + 1))) ≡ last_from l.parts l.unit l.last l.k (length l.parts + 1);
  within : l.last ≤ length l.parts;
}
