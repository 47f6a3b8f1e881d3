use Rattle.std.proofs.Common.{◌≡◌, length, subst, arith}
use Rattle.fare_component.proofs.AmongLemmas.{NoneBefore, none_more, entry_found, entry_missing}
use Rattle.fare_component.proofs.table.Table.entry.Goals as goal

pub returns-then-entry-number-clause-entry : goal.returns-then-entry-number-clause-entry
returns-then-entry-number-clause-entry c =
    entry_found c.args.self.now.edition c.args.self.now.trip c.args.a c.args.b c.args.number c.loop-entry.entry-index c.entries-entry-items.result.now c.entry-item.result c.entries-entry-items.ensures.entries (omega arith) c.entry-item.is c.if-entry-number.true

pub loop-entry-preserved : goal.loop-entry-preserved
loop-entry-preserved c =
    none_more c.entries-entry-items.result.now c.args.number c.loop-entry.entry-index c.entry-item.result (omega arith) c.entry-item.is c.if-entry-number.false c.loop-entry.invariant

pub returns-clause-entry : goal.returns-clause-entry
returns-clause-entry c =
    let last : c.loop-entry.entry-index ≡ length c.entries-entry-items.result.now = omega arith in
    entry_missing c.args.self.now.edition c.args.self.now.trip c.args.a c.args.b c.args.number c.entries-entry-items.result.now c.requires.rises c.requires.within c.entries-entry-items.ensures.entries
    (subst (NoneBefore c.entries-entry-items.result.now c.args.number) last c.loop-entry.invariant)
