-- the numbers so far are those where the unit may come home
use Rattle.std.proofs.Common.{◌≡◌, ℕ, ◌<◌, ◌≤◌, true, length}
use Rattle.fare_bounds.specs.Covers.{rest_at}
use Rattle.fare_floors.specs.Stack.{may_come_to}
use Rattle.fare_floors.proofs.stacking.homes_of.Given as goal

abbrev pub invariant-loop-home : goal.invariant-loop-home
invariant-loop-home l = record {
  long : length l.homes ≡ 17;
  known : (home : ℕ) → l.from ≤ home → home < l.home → may_come_to l.table.edition l.table.trip l.opened.start l.opened.closes home ≡ true → rest_at l.homes home ≡ rest_at l.behind home;
}
