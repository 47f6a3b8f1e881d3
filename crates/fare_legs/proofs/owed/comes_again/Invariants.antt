-- none of the points so far is in the city
use Rattle.std.proofs.Common.{◌≡◌, ℕ, ◌<◌, false}
use Rattle.fare_legs.specs.Costs.{is_same_city}
use Rattle.fare_legs.proofs.owed.comes_again.Given as goal

abbrev pub invariant-loop-home : goal.invariant-loop-home
invariant-loop-home l = (home : ℕ) → l.stand < home → home < l.home → is_same_city l.trip l.a home ≡ false
