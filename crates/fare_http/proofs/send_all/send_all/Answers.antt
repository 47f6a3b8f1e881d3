use Rattle.std.proofs.Common.{arith, take-add, length-drop, ◌∙◌}
use Rattle.fare_ports.proofs.Pieces.{slice-end}
use Rattle.fare_http.proofs.SendingLemmas.{sends-both}
use Rattle.fare_http.proofs.send_all.send_all.Goals as goal

pub pieces-preserved : goal.pieces-preserved
pieces-preserved g c =
    let all = c.args.bytes.now in
    let at = c.pieces.at in
    let count = c.in_ok-at.field-0 in
    let now = c.in_ok-at.ensures in
    let before = c.pieces.invariant in
    let bytes = rw (slice-end all at) at now.bytes in
    let bound = rw (slice-end all at) at now.within in
    let both = sends-both before.sent (record { stays = now.current; sent = bytes }) in
    record {
      in_range = omega (arith, bound, length-drop at all);
      sent = rw (take-add at count all) both;
      waiting = now.waiting ∙ before.waiting;
      left = now.left ∙ before.left;
      held = now.held ∙ before.held;
      faults = now.faults ∙ before.faults;
      port = now.port ∙ before.port;
      never_falls = omega (arith, before.never_falls, now.never_falls);
    }
