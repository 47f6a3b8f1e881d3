use Rattle.std.proofs.Common.{ℕ, ◌≤◌, subst, sym, inl, inr, arith}
use Rattle.std.specs.Prelude.{Contains}
use Rattle.std.proofs.lemmas.Bool.{cases_eq}
use Rattle.fare_component.specs.Table.{entries_of}
use Rattle.fare_component.proofs.LawLemmas.{entry_is_of_fare}
use Rattle.fare_legs.specs.Pairs.{IsUnderPairsOf}
use Rattle.fare_legs.proofs.pairs.least_pair.Goals as goal

pub loop-end-init : goal.loop-end-init
loop-end-init c end first less there =
    let is = entry_is_of_fare c.args.pairing.now.table.now.edition c.args.pairing.now.table.now.trip c.args.pairing.now.start end first there in
    absurd (omega (arith, is.rises))

pub loop-end-preserved : goal.loop-end-preserved
loop-end-preserved c end first less there =
    let C : ℕ → Type 0 = λ b. Contains (entries_of c.args.pairing.now.table.now.edition c.args.pairing.now.table.now.trip c.args.pairing.now.start b) first in
    let P : ℕ → Type 0 = λ b. IsUnderPairsOf c.args.pairing.now.table.now c.args.pairing.now.barred.now c.args.pairing.now.start c.args.pairing.now.home c.args.pairing.now.floor b first c.least_to-least.result in
    elim (cases_eq end c.loop-end.end) [
      | inl same ↦ subst P (sym same) (c.least_to-least.ensures.pairs first (subst C same there))
      | inr other ↦ λ x paid begin low last in_last y cost e may sum floor. c.least_to-least.ensures.kept _ (c.loop-end.invariant end first (omega arith) there x paid begin low last in_last y cost e may sum floor)
    ]

pub returns : goal.returns
returns c cost pair floor =
    let last = entry_is_of_fare c.args.pairing.now.table.now.edition c.args.pairing.now.table.now.trip pair.begin c.args.pairing.now.home pair.last pair.last_there in
    let later : pair.end ≤ pair.begin = pair.later in
    c.loop-end.invariant pair.end pair.first (omega (arith, last.rises)) pair.first_there pair.first_amount pair.first_costs pair.begin pair.later pair.last pair.last_there pair.last_amount cost pair.last_costs pair.may pair.sum floor
