-- what the units so far cost, and what is left
use Rattle.std.proofs.Common.{◌≡◌, ℕ, ◌+◌, ◌≤◌}
use Rattle.std.specs.Prelude.{slice_index, sum_by}
use Rattle.fare_rules.specs.Numbers.{numbers}
use Rattle.fare_floors.proofs.costs.spent_on.Given as goal

abbrev pub invariant-loop-unit : goal.invariant-loop-unit
invariant-loop-unit l =
    (cost : ℕ → ℕ) → ((unit : ℕ) → 1 ≤ unit → unit ≤ l.greatest → slice_index l.floors unit ≡ cost unit)
    → l.total + sum_by cost (numbers l.unit (l.greatest + 1)) ≤ sum_by cost (numbers 1 (l.greatest + 1))
