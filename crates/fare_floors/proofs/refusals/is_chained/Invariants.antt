-- whether the places of the unit are chained, by the last so far
use Rattle.std.proofs.Common.{◌≡◌, ◌+◌, length, filter}
use Rattle.fare_rules.specs.Construction.{is_own}
use Rattle.fare_rules.specs.Numbers.{numbers}
use Rattle.fare_rules.specs.Shape.{is_chained}
use Rattle.fare_floors.proofs.ChainLemmas.{chain_from}
use Rattle.fare_floors.proofs.refusals.is_chained.Given as goal

abbrev pub invariant-loop-k : goal.invariant-loop-k
invariant-loop-k l =
    is_chained l.trip l.parts (filter (is_own l.parts l.unit) (numbers 1 (length l.parts + 1))) ≡ chain_from l.trip l.parts l.unit l.before l.k (length l.parts + 1)
