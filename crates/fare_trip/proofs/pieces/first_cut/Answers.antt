use Rattle.std.proofs.Common.{sym}
use Rattle.fare_trip.proofs.PieceLemmas.{pieces_at, pieces_none, some_piece}
use Rattle.fare_trip.proofs.pieces.first_cut.Goals as goal

pub returns-in-Some-clause-more : goal.returns-in-Some-clause-more
returns-in-Some-clause-more c = pieces_at _ _ (sym c.in-Some.ensures)

pub returns-in-Some-clause-further : goal.returns-in-Some-clause-further
returns-in-Some-clause-further c = some_piece _

pub returns-in-None-clause-last : goal.returns-in-None-clause-last
returns-in-None-clause-last c = pieces_none _ (sym c.in-None.ensures)
