use Rattle.std.proofs.Common.{◌≡◌, List, sym, subst, ◌∙◌, ap, arith}
use Rattle.std.specs.Prelude.{Contains}
use Rattle.fare_component.specs.declared.table.entry.Entry.{Entry}
use Rattle.fare_component.specs.Table.{entries_of}
use Rattle.fare_units.specs.Walk.{next_start}
use Rattle.fare_floors.proofs.AheadLemmas.{floor_of_entry}
use Rattle.fare_floors.proofs.ahead.floor_ahead.Goals as goal

pub returns-then-entry-part : goal.returns-then-entry-part
returns-then-entry-part c =
    let there : Contains c.entries-entries.result.now c.entry-item.result = (c.loop-entry.entry-index, omega arith, sym c.entry-item.is) in
    let start : c.next_start.result ≡ next_start c.args.table.now.trip c.args.front.now = cc in
    let P : List Entry → Type 0 = λ es. Contains es c.entry-item.result in
    floor_of_entry c.args.table.now c.args.front.now c.args.ahead.now c.requires.ahead c.args.part c.entry-item.result
    (subst P (c.entries-entries.ensures.entries ∙ ap (λ n. entries_of c.args.table.now.edition c.args.table.now.trip n c.args.part.end) start) there)
    c.if-entry-part.true c.floor_with.result c.floor_with.ensures.up c.floor_with.ensures.above

pub returns : goal.returns
returns c = λ parts price completes. omega arith
