-- a class covers all cabins where it has the greatest rank so far and covers those that are left
use Rattle.std.proofs.Common.{◌≡◌, ◌+◌, ◌&&◌}
use Rattle.std.specs.Prelude.{nat_le}
use Rattle.std.specs.List.{list_all}
use Rattle.fare_codes.specs.declared.cabin.Cabin.{Cabin}
use Rattle.fare_rules.specs.Numbers.{numbers}
use Rattle.fare_rules.specs.ComponentAmount.{covers_cabin, rank}
use Rattle.fare_conditions.proofs.fares.greatest_rank.Given as goal

abbrev pub invariant-loop-i : goal.invariant-loop-i
invariant-loop-i l = (class : Cabin)
    → (nat_le l.greatest (rank class) && list_all (covers_cabin l.trip class) (numbers (l.i + 1) (l.b + 1)))
    ≡ list_all (covers_cabin l.trip class) (numbers (l.a + 1) (l.b + 1))
