-- the entries so far have the rule of one of the fares
use Rattle.std.proofs.Common.{◌≡◌, true, take}
use Rattle.std.specs.Prelude.{Contains}
use Rattle.fare_component.specs.declared.table.entry.Entry.{Entry}
use Rattle.fare_legs.specs.Barred.{is_barred}
use Rattle.fare_legs.proofs.threes.are_rules_of_span.Given as goal

abbrev pub invariant-loop-entry : goal.invariant-loop-entry
invariant-loop-entry l = (entry : Entry) → Contains (take l.entry-index l.entry-items) entry → is_barred l.table.edition l.rules entry.fare ≡ true
