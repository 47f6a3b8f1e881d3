use Rattle.std.proofs.Common.{◌≡◌, ℕ, List, [], ◌∷◌, ◌++◌, Option, None, take, ap, sym, subst, ◌∙◌}
use Rattle.std.specs.Prelude.{option_map}
use Rattle.std.proofs.lemmas.List.{take_all, take_more}
use Rattle.fare_component.specs.declared.table.entry.Entry.{Entry}
use Rattle.fare_homing.specs.Between.{cost_within}
use Rattle.fare_legs.specs.Floor.{capped}
use Rattle.fare_legs.specs.Least.{IsUnderEach}
use Rattle.fare_legs.proofs.LeastLemmas.{cost_more, cost_none}
use Rattle.fare_homing.proofs.between.least_within.Goals as goal

pub loop-entry-init : goal.loop-entry-init
loop-entry-init c = cost_none (cost_within c.args.table.now.edition c.args.table.now.trip c.args.homing.now.of_two c.args.homing.now.unit_ceiling c.args.between) None

pub loop-entry-preserved : goal.loop-entry-preserved
loop-entry-preserved c =
    let entries = c.entries-entry-items.result.now in
    let entry = c.entry-item.result in
    let Cost : Entry → Option ℕ = cost_within c.args.table.now.edition c.args.table.now.trip c.args.homing.now.of_two c.args.homing.now.unit_ceiling c.args.between in
    let least = c.lesser-least.result in
    let P : List Entry → Type 0 = λ xs. IsUnderEach Cost xs least in
    let Q : Entry → Type 0 = λ d. IsUnderEach Cost (take c.loop-entry.entry-index entries ++ d ∷ []) least in
    let R : Option ℕ → Type 0 = λ found. IsUnderEach Cost (take c.loop-entry.entry-index entries ++ entry ∷ []) found in
    let number : c.of.result ≡ option_map capped (Cost entry) = c.of.ensures ∙ ap (option_map capped) c.cost_within.ensures in
    subst P (sym (take_more entries c.loop-entry.entry-index entry c.loop-entry-test.true))
    (subst Q c.entry-item.is (subst R (sym c.lesser-least.ensures) (cost_more Cost (take c.loop-entry.entry-index entries) entry c.loop-entry.least c.of.result number c.loop-entry.invariant)))

pub returns : goal.returns
returns c =
    let Cost : Entry → Option ℕ = cost_within c.args.table.now.edition c.args.table.now.trip c.args.homing.now.of_two c.args.homing.now.unit_ceiling c.args.between in
    let P : List Entry → Type 0 = λ xs. IsUnderEach Cost xs c.loop-entry.least in
    subst P c.entries-entry-items.ensures.entries (subst P (take_all c.loop-entry.entry-index c.entries-entry-items.result.now c.loop-entry-test.false) c.loop-entry.invariant)
