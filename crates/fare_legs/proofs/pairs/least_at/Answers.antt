use Rattle.std.proofs.Common.{List, [], ◌∷◌, ◌++◌, take, sym, subst, inl, inr}
use Rattle.std.specs.Prelude.{Contains}
use Rattle.std.proofs.lemmas.List.{take_all, take_more}
use Rattle.std.proofs.lemmas.List.Elements.{Contains-push_cases}
use Rattle.fare_component.specs.declared.table.entry.Entry.{Entry}
use Rattle.fare_legs.specs.Pairs.{IsUnderPair}
use Rattle.fare_legs.proofs.pairs.least_at.Goals as goal

pub loop-last-preserved : goal.loop-last-preserved
loop-last-preserved c = record {
  kept = λ most up. c.lesser_pair-least.ensures.kept most (c.loop-last.invariant.kept most up);
  pairs = λ last there.
      let P : List Entry → Type 0 = λ xs. Contains xs last in
      let Q : Entry → Type 0 = λ d. Contains (take c.loop-last.last-index c.entries-last-items.result.now ++ d ∷ []) last in
      let R : Entry → Type 0 = λ d. IsUnderPair c.args.pairing.now.table.now c.args.pairing.now.barred.now c.args.pairing.now.start c.args.pairing.now.floor c.args.first.fare c.args.first.amount c.args.begin d c.lesser_pair-least.result in
      let in_two = subst Q (sym c.last-item.is) (subst P (take_more c.entries-last-items.result.now c.loop-last.last-index c.last-item.result c.loop-last-test.true) there) in
      elim (Contains-push_cases (take c.loop-last.last-index c.entries-last-items.result.now) c.last-item.result last in_two) [
        | inl before ↦ λ y cost e may sum low. c.lesser_pair-least.ensures.kept _ (c.loop-last.invariant.pairs last before y cost e may sum low)
        | inr same ↦ subst R same (c.lesser_pair-least.ensures.pair c.args.begin cc)
      ];
}

pub returns-clause-pairs : goal.returns-clause-pairs
returns-clause-pairs c last there =
    let P : List Entry → Type 0 = λ xs. Contains xs last in
    c.loop-last.invariant.pairs last (subst P (sym (take_all c.loop-last.last-index c.entries-last-items.result.now c.loop-last-test.false)) (subst P (sym c.entries-last-items.ensures.entries) there))
