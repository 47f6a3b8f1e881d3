use Rattle.std.proofs.Common.{sym, ◌∙◌, arith}
use Rattle.fare_component.proofs.TableLemmas.{in_table, behind_table}
use Rattle.fare_component.proofs.table.Table.entries.Goals as goal

pub returns-then-a-len-clause-entries : goal.returns-then-a-len-clause-entries
returns-then-a-len-clause-entries c =
    let inside = c.self.inside in
    rw (← c.self.view_is) (c.entries.ensures.entries ∙ in_table inside.edition.now inside.trip.now inside.rows.items c.index.result.now c.args.a c.args.b c.self.invariant (omega (arith, inside.rows.ok.0)) c.index.ensures)

pub returns-else-a-len-clause-entries : goal.returns-else-a-len-clause-entries
returns-else-a-len-clause-entries c =
    let inside = c.self.inside in
    rw (← c.self.view_is) (sym (behind_table inside.edition.now inside.trip.now inside.rows.items c.args.a c.args.b c.self.invariant (omega (arith, inside.rows.ok.0))))
