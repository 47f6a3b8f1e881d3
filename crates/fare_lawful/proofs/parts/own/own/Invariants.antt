-- those found so far and those of what is left are all
use Rattle.std.proofs.Common.{◌≡◌, ◌+◌, ◌≤◌, ◌++◌, length, filter}
use Rattle.fare_rules.specs.Numbers.{numbers}
use Rattle.fare_rules.specs.Construction.{is_own, places}
use Rattle.fare_lawful.proofs.parts.own.own.Given as goal

abbrev pub invariant-loop-k : goal.invariant-loop-k
invariant-loop-k l = (l.own.items ++ filter (is_own l.parts l.unit) (numbers l.k (length l.parts + 1)) ≡ filter (is_own l.parts l.unit) (places l.parts)) × (length l.own.items + 1 ≤ l.k)
