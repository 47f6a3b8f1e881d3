-- it has come to this point
use Rattle.std.proofs.Common.{◌≡◌}
use Rattle.fare_component.specs.References.{AreReferences}
use Rattle.fare_component.proofs.table.reaches.go_to.Given as goal

abbrev pub invariant-loop-past : goal.invariant-loop-past
invariant-loop-past l = record {
  from : l.known.reach.from ≡ l.a;
  past : l.known.reach.past ≡ l.past;
  form : l.known.form ≡ l.fn.known.form;
  known : AreReferences l.priced.edition.now l.priced.trip.now l.known;
}
