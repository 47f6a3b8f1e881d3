-- the walk has kept the entries of all numbers before the first candidate that is still to come
use Rattle.std.proofs.Common.{◌-◌}
use Rattle.fare_component.specs.Candidates.{passed}
use Rattle.fare_component.specs.References.{AreForms}
use Rattle.fare_component.proofs.WalkLemmas.{IsWalked}
use Rattle.fare_component.proofs.table.entries.measured_entries.Given as goal

abbrev pub invariant-loop-number : goal.invariant-loop-number
invariant-loop-number l = record {
  walked : IsWalked l.priced.edition.now l.priced.trip.now l.span.a l.span.b l.candidates l.entries;
  forms : AreForms l.priced.edition.now l.priced.trip.now l.span.a l.forms.items.items;
}

abbrev pub decreases-loop-number : goal.decreases-loop-number
decreases-loop-number l = 128 - passed l.candidates
