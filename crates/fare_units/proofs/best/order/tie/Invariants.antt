-- what is left decides as the whole
use Rattle.std.proofs.Common.{◌≡◌, ◌≤◌, drop, length}
use Rattle.fare_rules.specs.Order.{tie}
use Rattle.fare_units.proofs.best.order.tie.Given as goal

abbrev pub invariant-loop-i : goal.invariant-loop-i
invariant-loop-i l = (tie (drop l.i l.xs) (drop l.i l.ys) ≡ tie l.xs l.ys) × (l.i ≤ length l.ys)
