-- the greatest so far and of what is left is the greatest of all
use Rattle.std.proofs.Common.{◌≡◌, ◌≤◌, max}
use Rattle.fare_rules.specs.Numbers.{numbers}
use Rattle.fare_rules.specs.Construction.{greatest_unit}
use Rattle.fare_lawful.proofs.parts.places.greatest_below.Given as goal

abbrev pub invariant-loop-k : goal.invariant-loop-k
invariant-loop-k l = (max l.greatest (greatest_unit l.parts (numbers l.k l.past)) ≡ greatest_unit l.parts (numbers 1 l.past)) × (l.greatest ≤ 255)
