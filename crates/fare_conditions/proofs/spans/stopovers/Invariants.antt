-- the stopovers so far and those of what is left are all
use Rattle.std.proofs.Common.{◌≡◌, ◌+◌, ◌≤◌, filter, length}
use Rattle.fare_rules.specs.Numbers.{numbers}
use Rattle.fare_rules.specs.Span.{is_stopover}
use Rattle.fare_conditions.proofs.spans.stopovers.Given as goal

abbrev pub invariant-loop-i : goal.invariant-loop-i
invariant-loop-i l = record {
  whole : l.found + length (filter (is_stopover l.trip) (numbers l.i l.b))
      ≡ length (filter (is_stopover l.trip) (numbers (l.a + 1) l.b));
  bound : l.found ≤ l.i;
}
