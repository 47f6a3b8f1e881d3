-- no point before this one is repeated
use Rattle.std.proofs.Common.{◌≡◌, ◌+◌}
use Rattle.std.specs.List.{list_any}
use Rattle.fare_rules.specs.Numbers.{numbers}
use Rattle.fare_rules.specs.ComponentAmount.{is_repeated}
use Rattle.fare_conditions.proofs.spans.repeats_city.Given as goal

abbrev pub invariant-loop-i : goal.invariant-loop-i
invariant-loop-i l = list_any (is_repeated l.trip l.a) (numbers l.i (l.b + 1))
    ≡ list_any (is_repeated l.trip l.a) (numbers l.a (l.b + 1))
