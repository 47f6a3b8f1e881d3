use Rattle.std.proofs.Common.{List, [], ◌∷◌, ◌++◌, take, sym, subst}
use Rattle.std.specs.Prelude.{None}
use Rattle.std.proofs.lemmas.List.{take_all, take_more}
use Rattle.fare_component.specs.declared.table.entry.Entry.{Entry}
use Rattle.fare_legs.specs.Barred.{unless_barred}
use Rattle.fare_legs.specs.Costs.{single_cost, first_cost, back_cost}
use Rattle.fare_legs.specs.Legs.{AreLeastOf}
use Rattle.fare_legs.proofs.LeastLemmas.{cost_none}
use Rattle.fare_legs.proofs.legs.cheapest.Goals as goal

pub loop-entry-init : goal.loop-entry-init
loop-entry-init c = record { alone = cost_none (unless_barred c.args.edition.now c.args.barred.now single_cost) None; first = cost_none (unless_barred c.args.edition.now c.args.barred.now first_cost) None; last = cost_none (unless_barred c.args.edition.now c.args.barred.now back_cost) None }

pub loop-entry-preserved : goal.loop-entry-preserved
loop-entry-preserved c =
    let P : List Entry → Type 0 = λ xs. AreLeastOf c.args.edition.now c.args.barred.now xs c.lesser_with-least.result in
    let Q : Entry → Type 0 = λ d. AreLeastOf c.args.edition.now c.args.barred.now (take c.loop-entry.entry-index c.args.entries.now ++ d ∷ []) c.lesser_with-least.result in
    subst P (sym (take_more c.args.entries.now c.loop-entry.entry-index c.entry-item.result c.loop-entry-test.true))
    (subst Q c.entry-item.is (c.lesser_with-least.ensures (take c.loop-entry.entry-index c.args.entries.now) c.loop-entry.invariant))

pub returns : goal.returns
returns c =
    let P : List Entry → Type 0 = λ xs. AreLeastOf c.args.edition.now c.args.barred.now xs c.loop-entry.least in
    subst P (take_all c.loop-entry.entry-index c.args.entries.now c.loop-entry-test.false) c.loop-entry.invariant
