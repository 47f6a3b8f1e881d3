-- every cabin before this one is covered
use Rattle.std.proofs.Common.{◌≡◌, ◌+◌}
use Rattle.std.specs.List.{list_all}
use Rattle.fare_rules.specs.Numbers.{numbers}
use Rattle.fare_rules.specs.ComponentAmount.{covers_cabin}
use Rattle.fare_conditions.proofs.fares.covers_cabins.Given as goal

abbrev pub invariant-loop-i : goal.invariant-loop-i
invariant-loop-i l = list_all (covers_cabin l.trip l.fare.class) (numbers (l.i + 1) (l.b + 1))
    ≡ list_all (covers_cabin l.trip l.fare.class) (numbers (l.a + 1) (l.b + 1))
