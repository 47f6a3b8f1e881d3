-- the rows of the last points, the last one first
use Rattle.std.proofs.Common.{◌≡◌, ◌-◌, map, reverse}
use Rattle.fare_rules.specs.Numbers.{numbers}
use Rattle.fare_component.specs.References.{AreForms}
use Rattle.fare_component.specs.Table.{row_of}
use Rattle.fare_component.proofs.table.rows_of.Given as goal

abbrev pub invariant-loop-done : goal.invariant-loop-done
invariant-loop-done l = record {
  whole : l.rows.items ≡ reverse (map (row_of l.priced.edition.now l.priced.trip.now) (numbers (l.count - l.done) l.count));
  forms : AreForms l.priced.edition.now l.priced.trip.now (l.count - l.done) l.forms.items.items;
}
