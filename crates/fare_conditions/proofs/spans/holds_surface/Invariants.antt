-- no sector before this one is a surface sector
use Rattle.std.proofs.Common.{◌≡◌, ◌+◌}
use Rattle.std.specs.List.{list_any}
use Rattle.fare_rules.specs.Numbers.{numbers}
use Rattle.fare_rules.specs.Span.{is_surface}
use Rattle.fare_conditions.proofs.spans.holds_surface.Given as goal

abbrev pub invariant-loop-i : goal.invariant-loop-i
invariant-loop-i l = list_any (is_surface l.trip) (numbers (l.i + 1) (l.b + 1))
    ≡ list_any (is_surface l.trip) (numbers (l.a + 1) (l.b + 1))
