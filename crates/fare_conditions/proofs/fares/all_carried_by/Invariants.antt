-- every sector before this one is by the carrier
use Rattle.std.proofs.Common.{◌≡◌, ◌+◌}
use Rattle.std.specs.List.{list_all}
use Rattle.fare_rules.specs.Numbers.{numbers}
use Rattle.fare_rules.specs.ComponentAmount.{is_carried_by}
use Rattle.fare_conditions.proofs.fares.all_carried_by.Given as goal

abbrev pub invariant-loop-i : goal.invariant-loop-i
invariant-loop-i l = list_all (is_carried_by l.trip l.carrier) (numbers (l.i + 1) (l.b + 1))
    ≡ list_all (is_carried_by l.trip l.carrier) (numbers (l.a + 1) (l.b + 1))
