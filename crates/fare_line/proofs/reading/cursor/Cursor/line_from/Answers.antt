use Rattle.std.proofs.Common.{◌≡◌, ◌∙◌, ◌<◌, ◌-◌, ◌+◌, ℕ, Ok, arith, ap, sym}
use Rattle.std.proofs.lemmas.Result.{err_from_is_err_and}
use Rattle.fare_line.specs.declared.reading.pieces.Piece.TheVariants.{End}
use Rattle.fare_line.specs.reader.Draft.{line_from, DraftLine, piece_at}
use Rattle.fare_line.proofs.LineSteps.{last_piece, next_piece, no_piece, none_left}
use Rattle.fare_line.proofs.reading.cursor.Cursor.line_from.Goals as goal

pub returns-in_err-piece : goal.returns-in_err-piece
returns-in_err-piece c =
    let some : 0 < 50 - c.loop.counter = omega arith in
    let p = err_from_is_err_and c.from_residual.result c.from_residual.ensures.1 in
    rw (p.1, p.2) (sym c.loop.invariant ∙ no_piece (50 - c.loop.counter) c.loop.draft c.loop.self.rest.now c.in_err-piece.field-0.0 some (c.in_err-piece.ensures {u = tt}).reading)

pub returns-in-End : goal.returns-in-End
returns-in-End c =
    let some : 0 < 50 - c.loop.counter = omega arith in
    let read : piece_at c.loop.draft c.loop.self.rest.now ≡ Ok (End c.in-End.totals, c.next_piece.new.self.rest.now) = rw c.in-End.is at (c.in_ok-piece.ensures {u = tt}).reading in
    rw c.finish.ensures (sym c.loop.invariant ∙ last_piece (50 - c.loop.counter) c.loop.draft c.loop.self.rest.now c.next_piece.new.self.rest.now c.in-End.totals some read)

pub loop-preserved : goal.loop-preserved
loop-preserved c =
    let some : 0 < 50 - c.loop.counter = omega arith in
    let less : 50 - (c.loop.counter + 1) ≡ 50 - c.loop.counter - 1 = omega arith in
    let step = next_piece (50 - c.loop.counter) c.loop.draft c.loop.self.rest.now c.next_piece.new.self.rest.now c.in_ok-piece.piece some (c.in_ok-piece.ensures {u = tt}).reading c.in_default.not-End in
    ap (λ (k : ℕ). line_from k c.push.new.self c.next_piece.new.self.rest.now) less
    ∙ ap (λ (d : DraftLine). line_from (50 - c.loop.counter - 1) d c.next_piece.new.self.rest.now) c.push.ensures
    ∙ sym step ∙ c.loop.invariant

pub returns : goal.returns
returns c = sym c.loop.invariant ∙ none_left _ c.loop.draft c.loop.self.rest.now (omega arith)
