-- the entries of all spans that end before this point
use Rattle.std.proofs.Common.{◌≡◌, map}
use Rattle.fare_rules.specs.Numbers.{numbers}
use Rattle.fare_component.specs.References.{AreForms}
use Rattle.fare_component.specs.Table.{entries_of}
use Rattle.fare_component.proofs.table.row.Row.of.Given as goal

abbrev pub invariant-loop-b : goal.invariant-loop-b
invariant-loop-b l = record {
  whole : l.spans.items ≡ map (entries_of l.priced.edition.now l.priced.trip.now l.a) (numbers 0 l.b);
  forms : AreForms l.priced.edition.now l.priced.trip.now l.a l.forms.items.items;
}
