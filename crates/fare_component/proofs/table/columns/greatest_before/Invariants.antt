-- the greatest so far and the stopovers that are left make that of all, and it is an amount of a fare
use Rattle.std.proofs.Common.{◌≡◌, ◌<◌}
use Rattle.std.specs.Prelude.{filter_map}
use Rattle.fare_codes.specs.declared.nuc.TheConstants.{FARE_LIMIT}
use Rattle.fare_rules.specs.Numbers.{numbers}
use Rattle.fare_rules.specs.Base.{greatest_amount}
use Rattle.fare_component.specs.References.{AreReferences, stop_to}
use Rattle.fare_component.proofs.table.columns.greatest_before.Given as goal

abbrev pub invariant-loop-i : goal.invariant-loop-i
invariant-loop-i l = record {
  whole : greatest_amount l.greatest (filter_map (stop_to l.priced.edition.now l.priced.trip.now l.fn.known.form l.j) (numbers l.i l.past))
      ≡ greatest_amount 0 (filter_map (stop_to l.priced.edition.now l.priced.trip.now l.fn.known.form l.j) (numbers l.first l.past));
  bound : l.greatest < FARE_LIMIT;
  form : l.known.form ≡ l.fn.known.form;
  reach : l.known.reach ≡ l.fn.known.reach;
  known : AreReferences l.priced.edition.now l.priced.trip.now l.known;
}
