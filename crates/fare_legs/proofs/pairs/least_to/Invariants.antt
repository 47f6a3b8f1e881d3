-- under what the pairs with the first parts so far cost
use Rattle.std.proofs.Common.{take}
use Rattle.std.specs.Prelude.{Contains}
use Rattle.fare_component.specs.declared.table.entry.Entry.{Entry}
use Rattle.fare_legs.specs.Costs.{IsKeptBy}
use Rattle.fare_legs.specs.Pairs.{IsUnderPairsOf}
use Rattle.fare_legs.proofs.pairs.least_to.Given as goal

abbrev pub invariant-loop-entry : goal.invariant-loop-entry
invariant-loop-entry l = record {
  kept : IsKeptBy l.initial.least l.least;
  pairs : (first : Entry) → Contains (take l.entry-index l.entry-items) first → IsUnderPairsOf l.pairing.table.now l.pairing.barred.now l.pairing.start l.pairing.home l.pairing.floor l.end first l.least;
}
