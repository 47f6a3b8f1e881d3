-- the entries of the spans so far have the rule of one of the fares
use Rattle.std.proofs.Common.{◌≡◌, ◌<◌, ℕ, true}
use Rattle.std.specs.Prelude.{Contains}
use Rattle.fare_component.specs.declared.table.entry.Entry.{Entry}
use Rattle.fare_component.specs.Table.{entries_of}
use Rattle.fare_legs.specs.Barred.{is_barred}
use Rattle.fare_legs.proofs.threes.are_rules_from.Given as goal

abbrev pub invariant-loop-b : goal.invariant-loop-b
invariant-loop-b l = (b : ℕ) → l.a < b → b < l.b → (entry : Entry) → Contains (entries_of l.table.edition l.table.trip l.a b) entry → is_barred l.table.edition l.rules entry.fare ≡ true
