-- no point before this one is the same city
use Rattle.std.proofs.Common.{◌≡◌}
use Rattle.std.specs.List.{list_any}
use Rattle.fare_rules.specs.Numbers.{numbers}
use Rattle.fare_rules.specs.ComponentAmount.{is_same_city}
use Rattle.fare_conditions.proofs.spans.is_repeated.Given as goal

abbrev pub invariant-loop-j : goal.invariant-loop-j
invariant-loop-j l = list_any (is_same_city l.trip l.fn.i) (numbers l.j l.fn.i)
    ≡ list_any (is_same_city l.trip l.fn.i) (numbers l.a l.fn.i)
