use Rattle.std.proofs.Common.{length, ap, ◌∙◌}
use Rattle.std.specs.Prelude.{codes, decimal}
use Rattle.fare_http.specs.Answers.{allow_line, form_line}
use Rattle.fare_http.proofs.SendingLemmas.{sends-both, sends-first_prefix, sends-second_prefix, sends-last, sends-last_prefix, on_err}
use Rattle.fare_http.proofs.sending.send_reply.Goals as goal

pub returns-in_err-send_status-clause-prefix : goal.returns-in_err-send_status-clause-prefix
returns-in_err-send_status-clause-prefix g c =
    let reply = c.args.reply.now in
    let piece = c.in_err-send_status.ensures.prefix in
    on_err _ (sends-first_prefix reply.body (sends-first_prefix (codes "Connection: close\r\n\r\n") (sends-first_prefix (allow_line reply.allow) (sends-first_prefix (codes "\r\n") (sends-first_prefix (decimal (length reply.body)) (sends-first_prefix (codes "Content-Length: ") (sends-first_prefix (form_line reply.form) piece)))))))

pub returns-in_err-send_all-clause-prefix : goal.returns-in_err-send_all-clause-prefix
returns-in_err-send_all-clause-prefix g c =
    let reply = c.args.reply.now in
    let before = c.in_ok-send_status.ensures.whole in
    let piece = sends-second_prefix before (rw (c.line.ensures) at c.in_err-send_all.ensures.prefix) in
    on_err _ (sends-first_prefix reply.body (sends-first_prefix (codes "Connection: close\r\n\r\n") (sends-first_prefix (allow_line reply.allow) (sends-first_prefix (codes "\r\n") (sends-first_prefix (decimal (length reply.body)) (sends-first_prefix (codes "Content-Length: ") piece))))))

pub returns-in_err-send_all-2-clause-prefix : goal.returns-in_err-send_all-2-clause-prefix
returns-in_err-send_all-2-clause-prefix g c =
    let reply = c.args.reply.now in
    let before = sends-both c.in_ok-send_status.ensures.whole (rw (c.line.ensures) at c.in_ok-send_all.ensures.whole) in
    let piece = sends-second_prefix before c.in_err-send_all-2.ensures.prefix in
    on_err _ (sends-first_prefix reply.body (sends-first_prefix (codes "Connection: close\r\n\r\n") (sends-first_prefix (allow_line reply.allow) (sends-first_prefix (codes "\r\n") (sends-first_prefix (decimal (length reply.body)) piece)))))

pub returns-in_err-send_all-3-clause-prefix : goal.returns-in_err-send_all-3-clause-prefix
returns-in_err-send_all-3-clause-prefix g c =
    let reply = c.args.reply.now in
    let before = sends-both (sends-both c.in_ok-send_status.ensures.whole (rw (c.line.ensures) at c.in_ok-send_all.ensures.whole)) c.in_ok-send_all-2.ensures.whole in
    let piece = sends-second_prefix before (rw (c.as_bytes.ensures.value ∙ c.format.ensures.text ∙ ap (λ body. decimal (length body)) c.as_slice-body.ensures) at c.in_err-send_all-3.ensures.prefix) in
    on_err _ (sends-first_prefix reply.body (sends-first_prefix (codes "Connection: close\r\n\r\n") (sends-first_prefix (allow_line reply.allow) (sends-first_prefix (codes "\r\n") piece))))

pub returns-in_err-send_all-4-clause-prefix : goal.returns-in_err-send_all-4-clause-prefix
returns-in_err-send_all-4-clause-prefix g c =
    let reply = c.args.reply.now in
    let before = sends-both (sends-both (sends-both c.in_ok-send_status.ensures.whole (rw (c.line.ensures) at c.in_ok-send_all.ensures.whole)) c.in_ok-send_all-2.ensures.whole) (rw (c.as_bytes.ensures.value ∙ c.format.ensures.text ∙ ap (λ body. decimal (length body)) c.as_slice-body.ensures) at c.in_ok-send_all-3.ensures.whole) in
    let piece = sends-second_prefix before c.in_err-send_all-4.ensures.prefix in
    on_err _ (sends-first_prefix reply.body (sends-first_prefix (codes "Connection: close\r\n\r\n") (sends-first_prefix (allow_line reply.allow) piece)))

pub returns-in_err-send_all-5-clause-prefix : goal.returns-in_err-send_all-5-clause-prefix
returns-in_err-send_all-5-clause-prefix g c =
    let reply = c.args.reply.now in
    let before = sends-both (sends-both (sends-both (sends-both c.in_ok-send_status.ensures.whole (rw (c.line.ensures) at c.in_ok-send_all.ensures.whole)) c.in_ok-send_all-2.ensures.whole) (rw (c.as_bytes.ensures.value ∙ c.format.ensures.text ∙ ap (λ body. decimal (length body)) c.as_slice-body.ensures) at c.in_ok-send_all-3.ensures.whole)) c.in_ok-send_all-4.ensures.whole in
    let piece = sends-second_prefix before (rw (c.line-2.ensures) at c.in_err-send_all-5.ensures.prefix) in
    on_err _ (sends-first_prefix reply.body (sends-first_prefix (codes "Connection: close\r\n\r\n") piece))

pub returns-in_err-send_all-6-clause-prefix : goal.returns-in_err-send_all-6-clause-prefix
returns-in_err-send_all-6-clause-prefix g c =
    let reply = c.args.reply.now in
    let before = sends-both (sends-both (sends-both (sends-both (sends-both c.in_ok-send_status.ensures.whole (rw (c.line.ensures) at c.in_ok-send_all.ensures.whole)) c.in_ok-send_all-2.ensures.whole) (rw (c.as_bytes.ensures.value ∙ c.format.ensures.text ∙ ap (λ body. decimal (length body)) c.as_slice-body.ensures) at c.in_ok-send_all-3.ensures.whole)) c.in_ok-send_all-4.ensures.whole) (rw (c.line-2.ensures) at c.in_ok-send_all-5.ensures.whole) in
    let piece = sends-second_prefix before c.in_err-send_all-6.ensures.prefix in
    on_err _ (sends-first_prefix reply.body piece)

pub returns-clause-whole : goal.returns-clause-whole
returns-clause-whole g c =
    let before = sends-both (sends-both (sends-both (sends-both (sends-both (sends-both c.in_ok-send_status.ensures.whole (rw (c.line.ensures) at c.in_ok-send_all.ensures.whole)) c.in_ok-send_all-2.ensures.whole) (rw (c.as_bytes.ensures.value ∙ c.format.ensures.text ∙ ap (λ body. decimal (length body)) c.as_slice-body.ensures) at c.in_ok-send_all-3.ensures.whole)) c.in_ok-send_all-4.ensures.whole) (rw (c.line-2.ensures) at c.in_ok-send_all-5.ensures.whole)) c.in_ok-send_all-6.ensures.whole in
    let door = c.send_all-7.new.door in
    sends-last (g.D.Door.current door) (g.D.Door.sent door) c.args.reply.now.body _ before (rw c.as_slice-body.ensures at c.send_all-7.ensures.whole)

pub returns-clause-prefix : goal.returns-clause-prefix
returns-clause-prefix g c =
    let before = sends-both (sends-both (sends-both (sends-both (sends-both (sends-both c.in_ok-send_status.ensures.whole (rw (c.line.ensures) at c.in_ok-send_all.ensures.whole)) c.in_ok-send_all-2.ensures.whole) (rw (c.as_bytes.ensures.value ∙ c.format.ensures.text ∙ ap (λ body. decimal (length body)) c.as_slice-body.ensures) at c.in_ok-send_all-3.ensures.whole)) c.in_ok-send_all-4.ensures.whole) (rw (c.line-2.ensures) at c.in_ok-send_all-5.ensures.whole)) c.in_ok-send_all-6.ensures.whole in
    let door = c.send_all-7.new.door in
    sends-last_prefix (g.D.Door.current door) (g.D.Door.sent door) c.args.reply.now.body _ before (rw c.as_slice-body.ensures at c.send_all-7.ensures.prefix)
