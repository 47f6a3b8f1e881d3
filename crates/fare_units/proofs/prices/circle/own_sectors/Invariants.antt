-- those found so far and those of what is left are all
use Rattle.std.proofs.Common.{◌≡◌, ◌+◌, ◌≤◌, ◌++◌, length, filter}
use Rattle.fare_rules.specs.Numbers.{numbers}
use Rattle.fare_rules.specs.Circle.{is_own_sector}
use Rattle.fare_units.proofs.prices.circle.own_sectors.Given as goal

abbrev pub invariant-loop-number : goal.invariant-loop-number
invariant-loop-number l = (l.sectors.items ++ filter (is_own_sector l.trip l.parts l.own) (numbers l.number (l.i + 1)) ≡ filter (is_own_sector l.trip l.parts l.own) (numbers 1 (l.i + 1))) × (length l.sectors.items + 1 ≤ l.number)
