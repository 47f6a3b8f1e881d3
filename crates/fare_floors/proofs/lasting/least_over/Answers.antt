use Rattle.std.proofs.Common.{List, [], ◌∷◌, ◌++◌, take, sym, subst, inl, inr}
use Rattle.std.specs.Prelude.{Contains}
use Rattle.std.proofs.lemmas.List.{take_all, take_more}
use Rattle.std.proofs.lemmas.List.Elements.{Contains-push_cases}
use Rattle.fare_component.specs.declared.table.entry.Entry.{Entry}
use Rattle.fare_floors.specs.LastParts.{IsUnderLast}
use Rattle.fare_floors.proofs.lasting.least_over.Goals as goal

pub loop-entry-preserved : goal.loop-entry-preserved
loop-entry-preserved c = record {
  kept = λ most up. c.lesser_last-least.ensures.kept most (c.loop-entry.invariant.kept most up);
  lasts = λ entry there.
      let P : List Entry → Type 0 = λ xs. Contains xs entry in
      let Q : Entry → Type 0 = λ d. Contains (take c.loop-entry.entry-index c.entries-entry-items.result.now ++ d ∷ []) entry in
      let R : Entry → Type 0 = λ d. IsUnderLast c.args.going.now.table.now c.args.going.now.front.now c.args.going.now.unit c.args.span.start c.args.span.home c.args.span.behind d c.lesser_last-least.result in
      let in_two = subst Q (sym c.entry-item.is) (subst P (take_more c.entries-entry-items.result.now c.loop-entry.entry-index c.entry-item.result c.loop-entry-test.true) there) in
      elim (Contains-push_cases (take c.loop-entry.entry-index c.entries-entry-items.result.now) c.entry-item.result entry in_two) [
        | inl before ↦ λ cost e may. c.lesser_last-least.ensures.kept _ (c.loop-entry.invariant.lasts entry before cost e may)
        | inr same ↦ subst R same c.lesser_last-least.ensures.last
      ];
}

pub returns : goal.returns
returns c = record {
  kept = c.loop-entry.invariant.kept;
  lasts = λ entry there.
      let P : List Entry → Type 0 = λ xs. Contains xs entry in
      c.loop-entry.invariant.lasts entry (subst P (sym (take_all c.loop-entry.entry-index c.entries-entry-items.result.now c.loop-entry-test.false)) (subst P (sym c.entries-entry-items.ensures.entries) there));
}
