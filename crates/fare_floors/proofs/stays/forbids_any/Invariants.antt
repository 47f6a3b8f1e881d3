-- whether the places of the unit from this one on tell it
use Rattle.std.proofs.Common.{◌≡◌, ◌+◌, length, filter}
use Rattle.std.specs.List.{list_any}
use Rattle.fare_rules.specs.Construction.{is_own}
use Rattle.fare_rules.specs.Numbers.{numbers}
use Rattle.fare_rules.specs.UnitRules.{forbids_stay}
use Rattle.fare_floors.proofs.StayLemmas.{forbids_from}
use Rattle.fare_floors.proofs.stays.forbids_any.Given as goal

abbrev pub invariant-loop-k : goal.invariant-loop-k
invariant-loop-k l =
    list_any (forbids_stay l.edition l.parts l.days) (filter (is_own l.parts l.unit) (numbers 1 (length l.parts + 1))) ≡ forbids_from l.edition l.parts l.unit l.days l.k (length l.parts + 1)
