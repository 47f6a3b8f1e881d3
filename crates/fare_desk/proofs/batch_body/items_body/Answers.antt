use Rattle.std.proofs.Common.{◌≡◌, arith, ap, subst, ◌+◌, Option, get_or}
use Rattle.fare_http.specs.declared.reply.Reply.{Reply}
use Rattle.fare_desk.proofs.ItemLemmas.{items-all, items-more}
use Rattle.fare_desk.proofs.batch_body.items_body.Goals as goal

pub loop-reply-preserved : goal.loop-reply-preserved
loop-reply-preserved c =
    let before = c.loop-reply.invariant in
    let stands = subst (λ (o : Option Reply). o ≡ get_or c.args.replies.now c.loop-reply.reply-index o) c.in-Some.is c.reply-item.is in
    let more = items-more c.args.form c.args.replies.now c.loop-reply.reply-index c.loop-reply.number c.loop-reply.text.items c.in-Some.reply
    c.loop-reply-test.true stands before.continues in
    record {
      number = ap (λ n. n + 1) before.number;
      few = before.few;
      continues = rw c.in_ok-push_item.ensures more;
    }

pub returns : goal.returns
returns c =
    items-all c.args.form c.args.replies.now c.loop-reply.reply-index c.loop-reply.number c.loop-reply.text.items
    (omega (arith, c.loop-reply-test.false)) c.loop-reply.invariant.continues
