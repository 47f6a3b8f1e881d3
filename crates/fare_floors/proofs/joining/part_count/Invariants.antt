-- how many places the unit has so far, and how many are left
use Rattle.std.proofs.Common.{◌≡◌, ◌+◌, ◌-◌, ◌≤◌, length, filter}
use Rattle.fare_rules.specs.Construction.{is_own}
use Rattle.fare_rules.specs.Numbers.{numbers}
use Rattle.fare_floors.proofs.joining.part_count.Given as goal

abbrev pub invariant-loop-k : goal.invariant-loop-k
invariant-loop-k l = record {
  sum : l.count + length (filter (is_own l.parts l.unit) (numbers l.k (length l.parts + 1))) ≡ length (filter (is_own l.parts l.unit) (numbers 1 (length l.parts + 1)));
  bound : l.count ≤ l.k - 1;
}
