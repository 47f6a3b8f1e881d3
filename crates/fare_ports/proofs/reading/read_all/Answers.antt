use Rattle.std.proofs.Common.{◌≤◌, ◌+◌, length, ◌++◌, arith, take, length-append, length-take}
use Rattle.std.proofs.KnownBytes.{Consumes-trans}
use Rattle.fare_ports.proofs.reading.read_all.Goals as goal

pub returns-in_err-extend_from_slice-clause-taken : goal.returns-in_err-extend_from_slice-clause-taken
returns-in_err-extend_from_slice-clause-taken g c =
    let old = c.pieces.bytes.items in
    let piece = take c.in_ok-count.count c.read.new.buf in
    let most = length-take c.piece_size-most.result c.pieces.buf in
    let fits : length (old ++ piece) ≤ c.args.max + 1 =
    omega (arith, length-append old piece, c.in_ok-count.ensures.within.0, c.in_ok-count.ensures.within.1, c.read.auto.buf, most) in
    (old ++ piece, Consumes-trans _ _ _ _ _ c.pieces.invariant.consumed c.in_ok-count.ensures.bytes.0, fits)
