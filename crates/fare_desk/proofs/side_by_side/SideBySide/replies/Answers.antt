use Rattle.std.proofs.Common.{arith, ◌∙◌}
use Rattle.fare_desk.proofs.ReplyLemmas.{replied-all}
use Rattle.fare_desk.proofs.side_by_side.SideBySide.replies.Goals as goal

pub returns : goal.returns
returns g c =
    let clerk = c.args.self.now.clerk in
    let places = c.as_mut_slice.ensures.len in
    let as_many = c.in_ok-resize_with.ensures.len in
    replied-all clerk.form clerk.book.now.editions c.args.items.now c.resize_with.new.self.items c.answer_each.new.replies
    c.resize_with.new.self.len (c.answer_each.auto.replies ∙ places) as_many
    (λ i value reply below. c.answer_each.ensures i value reply (omega (arith, below, places, as_many)))
