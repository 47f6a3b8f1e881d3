use Rattle.std.proofs.Common.{ℕ, subst, sym, inl, inr, arith}
use Rattle.std.proofs.lemmas.Bool.{cases_eq}
use Rattle.fare_component.proofs.LawLemmas.{entry_is_of_fare}
use Rattle.fare_legs.specs.Pairs.{IsUnderPairsAt}
use Rattle.fare_legs.proofs.pairs.least_behind.Goals as goal

pub loop-begin-preserved : goal.loop-begin-preserved
loop-begin-preserved c = record {
  kept = λ most up. c.least_at-least.ensures.kept most (c.loop-begin.invariant.kept most up);
  pairs = λ begin low less.
      let P : ℕ → Type 0 = λ s. IsUnderPairsAt c.args.pairing.now.table.now c.args.pairing.now.barred.now c.args.pairing.now.start c.args.pairing.now.home c.args.pairing.now.floor c.args.first.fare c.args.first.amount s c.least_at-least.result in
      elim (cases_eq begin c.loop-begin.begin) [
        | inl same ↦ subst P (sym same) c.least_at-least.ensures.pairs
        | inr other ↦ λ last there y cost e may sum floor. c.least_at-least.ensures.kept _ (c.loop-begin.invariant.pairs begin low (omega arith) last there y cost e may sum floor)
      ];
}

pub returns-clause-pairs : goal.returns-clause-pairs
returns-clause-pairs c begin low last there =
    let is = entry_is_of_fare c.args.pairing.now.table.now.edition c.args.pairing.now.table.now.trip begin c.args.pairing.now.home last there in
    c.loop-begin.invariant.pairs begin low (omega (arith, is.rises)) last there
