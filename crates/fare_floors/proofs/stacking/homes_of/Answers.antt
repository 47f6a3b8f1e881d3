use Rattle.std.proofs.Common.{◌≡◌, ℕ, true, false, length-set, Option, sym, ◌∙◌, arith}
use Rattle.fare_bounds.specs.Covers.{rest_at}
use Rattle.fare_floors.specs.Stack.{may_come_to}
use Rattle.fare_floors.proofs.StackRowLemmas.{row_put, row_over}
use Rattle.fare_floors.proofs.stacking.homes_of.Goals as goal
use Rattle.fare_floors.proofs.stacking.homes_of.Goals.{then-may_come_to, else-may_come_to}

true_false : true ≡ false → ⊥
true_false e = cc

pub loop-home-preserved : goal.loop-home-preserved
loop-home-preserved c =
    let P : ℕ → Option ℕ → Type 0 = λ home number. may_come_to c.args.table.now.edition c.args.table.now.trip c.args.opened.start c.args.opened.closes home ≡ true → number ≡ rest_at c.args.behind.now home in
    elim c.if-may_come_to.branch [
      | then-may_come_to w ↦ rw w.homes-is (record {
        long = length-set c.loop-home.homes c.loop-home.home w.number_at.result ∙ c.loop-home.invariant.long;
        known = row_put P c.loop-home.homes c.args.from c.loop-home.home w.number_at.result (omega (arith, c.loop-home.invariant.long)) c.loop-home.invariant.known (λ t. w.number_at.ensures);
      })
      | else-may_come_to w ↦ rw w.homes-is (record {
        long = c.loop-home.invariant.long;
        known = row_over P c.loop-home.homes c.args.from c.loop-home.home c.loop-home.invariant.known (λ t. absurd (true_false (sym t ∙ sym c.may_come_to.ensures ∙ w.if-may_come_to.false)));
      })
    ]
