use Rattle.std.proofs.Common.{sym, ◌∙◌}
use Rattle.fare_component.proofs.EntryLemmas.{no_entries_there, no_entries_beyond}
use Rattle.fare_component.proofs.TableLemmas.{no_span_back}
use Rattle.fare_component.proofs.table.entries.entries_of.Goals as goal
use Rattle.fare_component.proofs.table.entries.entries_of.Goals.{else-a-b-via-then-a-b+else-is_plain, else-a-b-via-else-a-b}

pub returns-else-a-b-clause-entries : goal.returns-else-a-b-clause-entries
returns-else-a-b-clause-entries c =
    let tariff = c.args.priced.now.edition.now in
    let trip = c.args.priced.now.trip.now in
    elim c.else-a-b.branch [
      | else-a-b-via-then-a-b+else-is_plain w ↦
          c.new.ensures ∙ sym (no_entries_there tariff trip c.args.a c.args.b (sym w.is_plain.ensures ∙ w.if-is_plain.false))
      | else-a-b-via-else-a-b w ↦
          c.new.ensures ∙ sym (no_entries_beyond tariff trip c.args.a c.args.b (no_span_back trip c.args.a c.args.b w.if-a-b.false))
    ]
