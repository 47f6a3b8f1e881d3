use Rattle.std.proofs.Common.{arith, ◌∙◌}
use Rattle.fare_changes.proofs.Answered.{answered_all}
use Rattle.fare_changes.proofs.side_by_side.answers.Goals as goal

pub returns : goal.returns
returns g c =
    let places = c.as_mut_slice.ensures.len in
    let as_many = c.in_ok-resize_with.ensures.len in
    answered_all c.args.comparer.now.old.now c.args.comparer.now.new.now c.args.items.now c.resize_with.new.self.items c.answer_each.new.answers
    c.resize_with.new.self.len (c.answer_each.auto.answers ∙ places) as_many
    (λ i value answer below. c.answer_each.ensures i value answer (omega (arith, below, places, as_many)))
