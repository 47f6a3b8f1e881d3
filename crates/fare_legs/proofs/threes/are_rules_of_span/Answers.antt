use Rattle.std.proofs.Common.{◌≡◌, ℕ, true, List, [], ◌∷◌, ◌++◌, take, sym, subst, ◌∙◌, inl, inr, arith}
use Rattle.std.specs.Prelude.{Contains}
use Rattle.std.proofs.lemmas.List.{take_all, take_more}
use Rattle.std.proofs.lemmas.List.Elements.{Contains-push_cases}
use Rattle.fare_component.specs.declared.table.entry.Entry.{Entry}
use Rattle.fare_legs.specs.Barred.{is_barred}
use Rattle.fare_legs.proofs.threes.are_rules_of_span.Goals as goal

pub loop-entry-init : goal.loop-entry-init
loop-entry-init c = λ entry there. absurd (omega (arith, there.1))

pub loop-entry-preserved : goal.loop-entry-preserved
loop-entry-preserved c =
    let entries = c.entries-entry-items.result.now in
    let item = c.entry-item.result in
    let P : List Entry → Type 0 = λ xs. (entry : Entry) → Contains xs entry → is_barred c.args.table.now.edition c.args.rules.now entry.fare ≡ true in
    let Q : Entry → Type 0 = λ d. P (take c.loop-entry.entry-index entries ++ d ∷ []) in
    let B : Entry → Type 0 = λ e. is_barred c.args.table.now.edition c.args.rules.now e.fare ≡ true in
    let here : B item = cc in
    let base : Q item = λ entry there. elim (Contains-push_cases (take c.loop-entry.entry-index entries) item entry there) [
      | inl before ↦ c.loop-entry.invariant entry before
      | inr same ↦ subst B same here
    ] in
    subst P (sym (take_more entries c.loop-entry.entry-index item c.loop-entry-test.true)) (subst Q c.entry-item.is base)

pub returns : goal.returns
returns c = λ t.
    let P : List Entry → Type 0 = λ xs. (entry : Entry) → Contains xs entry → is_barred c.args.table.now.edition c.args.rules.now entry.fare ≡ true in
    subst P c.entries-entry-items.ensures.entries (subst P (take_all c.loop-entry.entry-index c.entries-entry-items.result.now c.loop-entry-test.false) c.loop-entry.invariant)
