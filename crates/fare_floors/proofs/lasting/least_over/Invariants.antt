-- under what the last part costs with the entries so far
use Rattle.std.proofs.Common.{take}
use Rattle.std.specs.Prelude.{Contains}
use Rattle.fare_component.specs.declared.table.entry.Entry.{Entry}
use Rattle.fare_legs.specs.Costs.{IsKeptBy}
use Rattle.fare_floors.specs.LastParts.{IsUnderLast}
use Rattle.fare_floors.proofs.lasting.least_over.Given as goal

abbrev pub invariant-loop-entry : goal.invariant-loop-entry
invariant-loop-entry l = record {
  kept : IsKeptBy l.initial.least l.least;
  lasts : (entry : Entry) → Contains (take l.entry-index l.entry-items) entry → IsUnderLast l.going.table.now l.going.front.now l.going.unit l.span.start l.span.home l.span.behind entry l.least;
}
