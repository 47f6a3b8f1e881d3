use Rattle.std.proofs.Common.{List, [], ◌∷◌, ◌++◌, take, sym, subst, inl, inr}
use Rattle.std.specs.Prelude.{Contains}
use Rattle.std.proofs.lemmas.List.{take_all, take_more}
use Rattle.std.proofs.lemmas.List.Elements.{Contains-push_cases}
use Rattle.fare_component.specs.declared.table.entry.Entry.{Entry}
use Rattle.fare_legs.specs.Pairs.{IsUnderPairsOf}
use Rattle.fare_legs.proofs.pairs.least_to.Goals as goal

pub loop-entry-preserved : goal.loop-entry-preserved
loop-entry-preserved c = record {
  kept = λ most up. c.least_with-least.ensures.kept most (c.loop-entry.invariant.kept most up);
  pairs = λ first there.
      let P : List Entry → Type 0 = λ xs. Contains xs first in
      let Q : Entry → Type 0 = λ d. Contains (take c.loop-entry.entry-index c.entries-entry-items.result.now ++ d ∷ []) first in
      let R : Entry → Type 0 = λ d. IsUnderPairsOf c.args.pairing.now.table.now c.args.pairing.now.barred.now c.args.pairing.now.start c.args.pairing.now.home c.args.pairing.now.floor c.args.end d c.least_with-least.result in
      let in_two = subst Q (sym c.entry-item.is) (subst P (take_more c.entries-entry-items.result.now c.loop-entry.entry-index c.entry-item.result c.loop-entry-test.true) there) in
      elim (Contains-push_cases (take c.loop-entry.entry-index c.entries-entry-items.result.now) c.entry-item.result first in_two) [
        | inl before ↦ λ x paid begin low last in_last y cost e may sum floor. c.least_with-least.ensures.kept _ (c.loop-entry.invariant.pairs first before x paid begin low last in_last y cost e may sum floor)
        | inr same ↦ subst R same c.least_with-least.ensures.pairs
      ];
}

pub returns-clause-pairs : goal.returns-clause-pairs
returns-clause-pairs c first there =
    let P : List Entry → Type 0 = λ xs. Contains xs first in
    c.loop-entry.invariant.pairs first (subst P (sym (take_all c.loop-entry.entry-index c.entries-entry-items.result.now c.loop-entry-test.false)) (subst P (sym c.entries-entry-items.ensures.entries) there))
