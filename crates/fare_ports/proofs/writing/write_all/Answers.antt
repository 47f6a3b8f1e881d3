use Rattle.std.proofs.Common.{arith, take-add, length-drop}
use Rattle.std.proofs.KnownBytes.{Appends-trans}
use Rattle.fare_ports.proofs.Pieces.{slice-end}
use Rattle.fare_ports.proofs.writing.write_all.Goals as goal

pub pieces-preserved : goal.pieces-preserved
pieces-preserved g c =
    let all = c.args.bytes.now in
    let at = c.pieces.at in
    let count = c.in_ok-at.field-0 in
    let more = rw (slice-end all at) at c.in_ok-at.ensures.bytes in
    let bound = rw (slice-end all at) at c.in_ok-at.ensures.within in
    record {
      in_range = omega (arith, bound, length-drop at all);
      appended = rw (take-add at count all) (Appends-trans _ _ _ _ _ c.pieces.invariant.appended more);
      never_falls = omega (arith, c.pieces.invariant.never_falls, c.in_ok-at.ensures.never_falls);
    }
