use Rattle.std.proofs.Common.{◌≡◌, ◌∙◌, ◌+◌, length, true, Ok, Err, rules, arith, sym}
use Rattle.fare_book.specs.Editions.{with_body}
use Rattle.fare_book.specs.Restored.{FitsFault}
use Rattle.fare_book.proofs.Bodies.{length-stay, stay-trans, whole-all, whole-step, whole-stop}
use Rattle.fare_book.proofs.book.Book.of_bodies.Goals as goal

pub returns-in_err-add_body-clause-answer : goal.returns-in_err-add_body-clause-answer
returns-in_err-add_body-clause-answer g c =
    let out : c.from_residual-in_err-add_body.result ≡ Err c.in_err-add_body.field-0.0 = search rules in
    let same = c.as_slice.ensures.value in
    let found : FitsFault c.in_err-add_body.field-0.0 (with_body c.loop-index.book.editions c.in_ok-body.body.items) = rw (sym same) c.in_err-add_body.ensures.answer in
    rw out (whole-stop _ _ _ _ c.in_ok-body.body.items c.in_err-add_body.field-0.0 c.loop-index.invariant.whole c.in_ok-body.ensures.bodies c.in_ok-body.ensures.body found)

pub loop-index-preserved : goal.loop-index-preserved
loop-index-preserved g c =
    let stay = c.in_ok-body.ensures.bodies in
    let same = c.as_slice.ensures.value in
    let found : with_body c.loop-index.book.editions c.in_ok-body.body.items ≡ Ok c.add_body.new.self.editions = rw (sym same) c.in_ok-add_body.ensures.answer in
    let longer : length c.add_body.new.self.editions ≡ c.loop-index.index + 1 = rw (sym c.loop-index.invariant.length) c.in_ok-add_body.ensures.length in
    let settled : c.add_body.new.self.settled ≡ true = rw (sym c.loop-index.invariant.settled) c.in_ok-add_body.ensures.settled in
    record {
      whole = whole-step _ _ _ _ _ c.in_ok-body.body.items c.loop-index.invariant.whole stay c.in_ok-body.ensures.body found;
      count = length-stay _ _ _ c.loop-index.invariant.count stay;
      stay = stay-trans _ _ _ c.loop-index.invariant.stay stay;
      length = longer;
      settled = settled;
      ready = c.in_ok-body.ensures.ready;
      name = c.in_ok-body.ensures.name ∙ c.loop-index.invariant.name;
      never_falls = omega (arith, c.loop-index.invariant.never_falls, c.in_ok-body.ensures.never_falls);
    }

pub returns-clause-answer : goal.returns-clause-answer
returns-clause-answer g c = whole-all _ _ _ _ c.loop-index.invariant.whole c.loop-index.invariant.count c.loop-index-test.false
