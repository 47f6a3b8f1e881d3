use Rattle.std.proofs.Common.{◌⊎◌, inl, inr, ◌∙◌, refl}
use Rattle.std.specs.Result.{result_ok}
use Rattle.fare_ports.specs.Cause.{Rose}
use Rattle.fare_http.specs.Answers.{answer_bytes, reply_bytes, no_memory_bytes}
use Rattle.fare_http.specs.Serving.{BringsTooLittle, whole, fixed, wanting}
use Rattle.fare_http.proofs.ServingLemmas.{answer-sent, nothing-sent}
use Rattle.fare_http.proofs.exchanging.exchange.Goals as goal

pub returns-in-Whole-clause-exchanges : goal.returns-in-Whole-clause-exchanges
returns-in-Whole-clause-exchanges g c =
    let read = c.in-Whole.ensures in
    let sent = rw (c.as_ref.ensures.value, c.ok-reply.ensures.value, read.current, read.sent) at c.send.ensures in
    let reply = result_ok c.answer.result in
    let stepped = rw (c.as_str-path.ensures, c.as_slice-body.ensures) at c.answer.ensures in
    answer-sent g.H.Handler.step _ _ _ _ _ _ _ (answer_bytes reply) _ _ _ (whole c.in-Whole.request reply (_, read.whole) stepped refl)
    read.never_falls sent.served sent.cut sent.cause

pub returns-in-Fixed-clause-exchanges : goal.returns-in-Fixed-clause-exchanges
returns-in-Fixed-clause-exchanges g c =
    let read = c.in-Fixed.ensures in
    let sent = rw (read.current, read.sent) at c.send-in-Fixed.ensures in
    answer-sent g.H.Handler.step _ _ _ _ _ _ _ (reply_bytes c.in-Fixed.reply) _ _ _ (fixed c.in-Fixed.reply (_, read.fixed) refl refl)
    read.never_falls sent.served sent.cut sent.cause

pub returns-in-NoMemory-clause-exchanges : goal.returns-in-NoMemory-clause-exchanges
returns-in-NoMemory-clause-exchanges g c =
    let read = c.in-NoMemory.ensures in
    let sent = rw (read.current, read.sent) at c.send-in-NoMemory.ensures in
    answer-sent g.H.Handler.step _ _ _ _ _ _ _ no_memory_bytes _ _ _ (wanting refl refl) read.never_falls sent.served sent.cut sent.cause

pub returns-in-Cut-clause-exchanges : goal.returns-in-Cut-clause-exchanges
returns-in-Cut-clause-exchanges g c =
    let read = c.in-Cut.ensures in
    let closed = c.close.ensures in
    let why : BringsTooLittle (g.D.Door.left c.args.door.now) ⊎ Rose (g.D.Door.cuts c.args.door.now) (g.D.Door.cuts c.close.new.self) =
    elim read.cut [ inl short ↦ inl (_, short) | inr rose ↦ inr (rw closed.cuts rose) ] in
    nothing-sent g.H.Handler.step _ _ _ _ _ _ (closed.sent ∙ read.sent) why
