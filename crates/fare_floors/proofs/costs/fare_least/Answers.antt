use Rattle.std.proofs.Common.{◌≡◌, List, length, take, map, ap, sym, subst, ◌∙◌, arith}
use Rattle.std.proofs.Math.Seq.{take-length}
use Rattle.fare_rules.proofs.MemberLemmas.{Member}
use Rattle.fare_component.specs.declared.table.entry.Entry.{Entry}
use Rattle.fare_floors.specs.Costs.{fare_of_entry}
use Rattle.fare_floors.specs.Costs.{or_nothing}
use Rattle.fare_floors.proofs.EntryLemmas.{fare_not_so_far, least_of_entry, least_of_none}
use Rattle.fare_floors.proofs.costs.fare_least.Goals as goal

pub returns-then-entry-fare-clause-value : goal.returns-then-entry-fare-clause-value
returns-then-entry-fare-clause-value c =
    c.entry_least.ensures.value
    ∙ ap or_nothing (least_of_entry c.args.table.now.edition c.args.table.now.trip c.args.a c.args.b c.entries-entry-items.result.now c.loop-entry.entry-index c.entry-item.result c.args.fare c.entries-entry-items.ensures.entries (omega arith) c.entry-item.is c.if-entry-fare.true)

pub loop-entry-preserved : goal.loop-entry-preserved
loop-entry-preserved c =
    fare_not_so_far c.entries-entry-items.result.now c.loop-entry.entry-index c.entry-item.result c.args.fare (omega arith) c.entry-item.is c.if-entry-fare.false c.loop-entry.invariant

pub returns-clause-value : goal.returns-clause-value
returns-clause-value c =
    let last : c.loop-entry.entry-index ≡ length c.entries-entry-items.result.now = omega arith in
    let P : List Entry → Type 0 = λ es. Member c.args.fare (map fare_of_entry es) → ⊥ in
    ap or_nothing (sym (least_of_none c.args.table.now.edition c.args.table.now.trip c.args.a c.args.b c.entries-entry-items.result.now c.args.fare c.requires.rises c.requires.within c.entries-entry-items.ensures.entries
    (subst P (ap (λ n. take n c.entries-entry-items.result.now) last ∙ take-length c.entries-entry-items.result.now) c.loop-entry.invariant)))
