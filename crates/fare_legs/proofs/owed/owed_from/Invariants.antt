-- what is owed behind first parts that begin before this point is in the row
use Rattle.std.proofs.Common.{ℕ, ◌<◌, ◌≤◌}
use Rattle.fare_trip.specs.Itinerary.{count}
use Rattle.fare_bounds.specs.Covers.{rest_at}
use Rattle.fare_legs.specs.Costs.{IsUpTo}
use Rattle.fare_legs.specs.Owed.{IsOwed}
use Rattle.fare_legs.proofs.owed.owed_from.Given as goal

abbrev pub invariant-loop-a : goal.invariant-loop-a
invariant-loop-a l = (home owed : ℕ) → l.stand < home → home ≤ count l.table.trip → (is : IsOwed l.table.edition l.table.trip l.stand home owed) → is.start < l.a → IsUpTo owed (rest_at l.row home)
