-- under what the pairs with the last parts so far cost
use Rattle.std.proofs.Common.{take}
use Rattle.std.specs.Prelude.{Contains}
use Rattle.fare_component.specs.declared.table.entry.Entry.{Entry}
use Rattle.fare_legs.specs.Costs.{IsKeptBy}
use Rattle.fare_legs.specs.Pairs.{IsUnderPair}
use Rattle.fare_legs.proofs.pairs.least_at.Given as goal

abbrev pub invariant-loop-last : goal.invariant-loop-last
invariant-loop-last l = record {
  kept : IsKeptBy l.initial.least l.least;
  pairs : (last : Entry) → Contains (take l.last-index l.last-items) last → IsUnderPair l.pairing.table.now l.pairing.barred.now l.pairing.start l.pairing.floor l.first.fare l.first.amount l.begin last l.least;
}
