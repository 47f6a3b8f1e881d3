-- each sector so far has the indicator of the first
use Rattle.std.proofs.Common.{◌≡◌, ℕ, ◌+◌, ◌<◌}
use Rattle.fare_rules.specs.Indicator.{indicator}
use Rattle.fare_legs.proofs.ceiling.ceiling_at.Given as goal

abbrev pub invariant-loop-i : goal.invariant-loop-i
invariant-loop-i l = (i : ℕ) → i < l.i → indicator l.table.edition l.table.trip i (i + 1) ≡ l.first
