use Rattle.std.specs.Prelude.{codes}
use Rattle.fare_http.specs.Answers.{status_text}
use Rattle.fare_http.proofs.SendingLemmas.{sends-both, sends-first_prefix, sends-second_prefix, sends-last, sends-last_prefix, on_err}
use Rattle.fare_http.proofs.sending.send_status.Goals as goal

pub returns-in_err-send_all-clause-prefix : goal.returns-in_err-send_all-clause-prefix
returns-in_err-send_all-clause-prefix g c =
    on_err _ (sends-first_prefix (codes "\r\n") (sends-first_prefix (status_text c.args.status) c.in_err-send_all.ensures.prefix))

pub returns-in_err-send_all-2-clause-prefix : goal.returns-in_err-send_all-2-clause-prefix
returns-in_err-send_all-2-clause-prefix g c =
    let piece = sends-second_prefix c.in_ok-send_all.ensures.whole (rw (c.text.ensures) at c.in_err-send_all-2.ensures.prefix) in
    on_err _ (sends-first_prefix (codes "\r\n") piece)

pub returns-clause-whole : goal.returns-clause-whole
returns-clause-whole g c =
    let before = sends-both c.in_ok-send_all.ensures.whole (rw (c.text.ensures) at c.in_ok-send_all-2.ensures.whole) in
    let door = c.send_all-3.new.door in
    sends-last (g.D.Door.current door) (g.D.Door.sent door) (codes "\r\n") _ before c.send_all-3.ensures.whole

pub returns-clause-prefix : goal.returns-clause-prefix
returns-clause-prefix g c =
    let before = sends-both c.in_ok-send_all.ensures.whole (rw (c.text.ensures) at c.in_ok-send_all-2.ensures.whole) in
    let door = c.send_all-3.new.door in
    sends-last_prefix (g.D.Door.current door) (g.D.Door.sent door) (codes "\r\n") _ before c.send_all-3.ensures.prefix
