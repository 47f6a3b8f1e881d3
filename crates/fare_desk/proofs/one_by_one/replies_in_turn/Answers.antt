use Rattle.std.proofs.Common.{arith, length, length-append, Some, [], ◌∷◌}
use Rattle.fare_desk.proofs.ReplyLemmas.{replied-more}
use Rattle.fare_desk.proofs.one_by_one.replies_in_turn.Goals as goal

pub loop-item-preserved : goal.loop-item-preserved
loop-item-preserved g c =
    let before = c.loop-item.invariant in
    let clerk = c.args.clerk.now in
    let place = c.loop-item.item-index in
    record {
      count = rw c.in_ok-push.ensures.items (omega (arith, before.count, length-append c.loop-item.replies.items (Some c.in_ok-reply.reply ∷ [])));
      each = rw c.in_ok-push.ensures.items (replied-more clerk.form clerk.book.now.editions c.args.items.now c.loop-item.replies.items place
          c.item-item.result c.in_ok-reply.reply before.count c.loop-item-test.true c.item-item.is c.in_ok-reply.ensures before.each);
    }
