-- the entries of the spans from the points so far have the rule of one of the fares
use Rattle.std.proofs.Common.{◌≡◌, ◌<◌, ◌≤◌, ℕ, true}
use Rattle.std.specs.Prelude.{Contains}
use Rattle.fare_trip.specs.Itinerary.{count}
use Rattle.fare_component.specs.declared.table.entry.Entry.{Entry}
use Rattle.fare_component.specs.Table.{entries_of}
use Rattle.fare_legs.specs.Barred.{is_barred}
use Rattle.fare_legs.proofs.threes.are_all_rules.Given as goal

abbrev pub invariant-loop-a : goal.invariant-loop-a
invariant-loop-a l = (a b : ℕ) → a < l.a → a < b → b ≤ count l.table.trip → (entry : Entry) → Contains (entries_of l.table.edition l.table.trip a b) entry → is_barred l.table.edition l.rules entry.fare ≡ true
