-- the sum so far and of what is left is the sum of all
use Rattle.std.proofs.Common.{◌≡◌, ◌+◌, ◌*◌, ◌≤◌, drop, sum_by}
use Rattle.fare_rules.specs.UnitPrice.{part_cost}
use Rattle.fare_units.proofs.prices.price.unit_sum.Given as goal

abbrev pub invariant-loop-i : goal.invariant-loop-i
invariant-loop-i l = (l.sum + sum_by (part_cost l.edition l.trip l.parts l.own) (drop l.i l.own) ≡ sum_by (part_cost l.edition l.trip l.parts l.own) l.own) × (l.sum ≤ 1_250_000_000 * l.i)
