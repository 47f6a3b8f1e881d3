use Rattle.std.proofs.Common.{◌<◌, length, arith}
use Rattle.fare_check.proofs.Joined.{join-step}
use Rattle.fare_check.proofs.line.joined.Goals as goal

pub loop-i-preserved : goal.loop-i-preserved
loop-i-preserved c =
    let within : c.loop-i.i < length c.args.row.now = omega arith in
    rw (c.in_ok-extend_from_slice.ensures.items, c.field.ensures, c.in_ok-separate.ensures) (join-step c.args.row.now c.loop-i.i c.loop-i.text.items within c.loop-i.invariant)
