use Rattle.std.proofs.Common.{◌+◌, ◌≤◌, List, [], ◌∷◌, ◌++◌, take, sym, subst, inl, inr, arith}
use Rattle.std.specs.Prelude.{Contains}
use Rattle.std.proofs.lemmas.List.{take_all, take_more}
use Rattle.std.proofs.lemmas.List.Elements.{Contains-push_cases}
use Rattle.fare_component.specs.declared.table.entry.Entry.{Entry}
use Rattle.fare_branch.specs.Crowding.{IsNeedWith, taken}
use Rattle.fare_branch.proofs.crowding.lesser_need.Goals as goal

pub loop-entry-preserved : goal.loop-entry-preserved
loop-entry-preserved c =
    let tariff = c.args.crowding.now.table.now.edition in
    let lonely = c.args.crowding.now.lonely.now in
    let front = c.args.crowding.now.front.now in
    record {
      kept = omega arith;
      under = λ entry there.
          let P : List Entry → Type 0 = λ xs. Contains xs entry in
          let Q : Entry → Type 0 = λ d. Contains (take c.loop-entry.entry-index c.entries-entry-items.result.now ++ d ∷ []) entry in
          let R : Entry → Type 0 = λ d. IsNeedWith tariff lonely front c.args.behind d c.min-least.result in
          let in_two = subst Q (sym c.entry-item.is) (subst P (take_more c.entries-entry-items.result.now c.loop-entry.entry-index c.entry-item.result c.loop-entry-test.true) there) in
          elim (Contains-push_cases (take c.loop-entry.entry-index c.entries-entry-items.result.now) c.entry-item.result entry in_two) [
            | inl before ↦ λ may.
                let up : c.loop-entry.least ≤ taken tariff lonely entry + c.args.behind = c.loop-entry.invariant.under entry before may in
                omega arith
            | inr same ↦ subst R same (λ may.
                let up : c.need_with.result ≤ taken tariff lonely c.entry-item.result + c.args.behind = c.need_with.ensures may in
                omega arith)
          ];
    }

pub returns-clause-under : goal.returns-clause-under
returns-clause-under c entry there =
    let P : List Entry → Type 0 = λ xs. Contains xs entry in
    c.loop-entry.invariant.under entry (subst P (sym (take_all c.loop-entry.entry-index c.entries-entry-items.result.now c.loop-entry-test.false)) (subst P (sym c.entries-entry-items.ensures.entries) there))
