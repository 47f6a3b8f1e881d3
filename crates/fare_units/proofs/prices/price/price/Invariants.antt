-- the total so far and what is left is the sum of all
use Rattle.std.proofs.Common.{◌≡◌, ◌+◌, ◌*◌, ◌≤◌, sum_by}
use Rattle.fare_rules.specs.Numbers.{numbers}
use Rattle.fare_rules.specs.Construction.{greatest_unit, places, units}
use Rattle.fare_rules.specs.UnitPrice.{unit_price}
use Rattle.fare_units.proofs.prices.price.price.Given as goal

abbrev pub invariant-loop-unit : goal.invariant-loop-unit
invariant-loop-unit l = (l.total + sum_by (unit_price l.edition l.trip l.parts) (numbers l.unit (greatest_unit l.parts (places l.parts) + 1)) ≡ sum_by (unit_price l.edition l.trip l.parts) (units l.parts)) × (l.total ≤ 20_000_000_000 * l.unit)
