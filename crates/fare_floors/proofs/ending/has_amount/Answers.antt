use Rattle.std.proofs.Common.{◌≡◌, List, length, take, map, ap, sym, subst, ◌∙◌, arith}
use Rattle.std.proofs.Math.Seq.{take-length}
use Rattle.fare_rules.proofs.MemberLemmas.{Member}
use Rattle.fare_component.specs.declared.table.entry.Entry.{Entry}
use Rattle.fare_floors.specs.Costs.{fare_of_entry}
use Rattle.fare_floors.proofs.EntryLemmas.{fare_not_so_far, priced_entry, priced_none}
use Rattle.fare_floors.proofs.ending.has_amount.Goals as goal

pub returns-then-entry-fare : goal.returns-then-entry-fare
returns-then-entry-fare c =
    c.is_priced.ensures
    ∙ priced_entry c.args.table.now.edition c.args.table.now.trip c.args.a c.args.b c.entries-entry-items.result.now c.loop-entry.entry-index c.entry-item.result c.args.fare c.args.back c.entries-entry-items.ensures.entries (omega arith) c.entry-item.is c.if-entry-fare.true

pub loop-entry-preserved : goal.loop-entry-preserved
loop-entry-preserved c =
    fare_not_so_far c.entries-entry-items.result.now c.loop-entry.entry-index c.entry-item.result c.args.fare (omega arith) c.entry-item.is c.if-entry-fare.false c.loop-entry.invariant

pub returns : goal.returns
returns c =
    let last : c.loop-entry.entry-index ≡ length c.entries-entry-items.result.now = omega arith in
    let P : List Entry → Type 0 = λ es. Member c.args.fare (map fare_of_entry es) → ⊥ in
    sym (priced_none c.args.table.now.edition c.args.table.now.trip c.args.a c.args.b c.entries-entry-items.result.now c.args.fare c.args.back c.requires.rises c.requires.within c.entries-entry-items.ensures.entries
    (subst P (ap (λ n. take n c.entries-entry-items.result.now) last ∙ take-length c.entries-entry-items.result.now) c.loop-entry.invariant))
