-- none of the places so far is the unit's
use Rattle.std.proofs.Common.{◌≡◌, ◌+◌, length, filter}
use Rattle.fare_rules.specs.Construction.{is_own}
use Rattle.fare_rules.specs.Numbers.{numbers}
use Rattle.fare_floors.proofs.places.first_place.Given as goal

abbrev pub invariant-loop-k : goal.invariant-loop-k
invariant-loop-k l =
    filter (is_own l.parts l.unit) (numbers 1 (length l.parts + 1)) ≡ filter (is_own l.parts l.unit) (numbers l.k (length l.parts + 1))
