-- the transfers so far and those of what is left are all
use Rattle.std.proofs.Common.{◌≡◌, ◌+◌, ◌≤◌, filter, length}
use Rattle.fare_rules.specs.Numbers.{numbers}
use Rattle.fare_rules.specs.Span.{is_transfer}
use Rattle.fare_conditions.proofs.spans.transfers.Given as goal

abbrev pub invariant-loop-i : goal.invariant-loop-i
invariant-loop-i l = record {
  whole : l.found + length (filter (is_transfer l.trip) (numbers l.i l.b))
      ≡ length (filter (is_transfer l.trip) (numbers (l.a + 1) l.b));
  bound : l.found ≤ l.i;
}
