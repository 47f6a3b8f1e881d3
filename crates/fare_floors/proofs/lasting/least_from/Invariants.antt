-- under what the last part costs with a home before this one
use Rattle.std.proofs.Common.{◌≡◌, ℕ, ◌<◌}
use Rattle.std.specs.Prelude.{Contains, Some}
use Rattle.fare_bounds.specs.Covers.{rest_at}
use Rattle.fare_component.specs.declared.table.entry.Entry.{Entry}
use Rattle.fare_component.specs.Table.{entries_of}
use Rattle.fare_legs.specs.Costs.{IsKeptBy}
use Rattle.fare_floors.specs.LastParts.{IsUnderLast}
use Rattle.fare_floors.proofs.lasting.least_from.Given as goal

abbrev pub invariant-loop-home : goal.invariant-loop-home
invariant-loop-home l = record {
  kept : IsKeptBy l.initial.least l.least;
  lasts : (home behind : ℕ) (entry : Entry) → home < l.home → rest_at l.homes home ≡ Some behind → Contains (entries_of l.going.table.now.edition l.going.table.now.trip l.s home) entry → IsUnderLast l.going.table.now l.going.front.now l.going.unit l.s home behind entry l.least;
}
