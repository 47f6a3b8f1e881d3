use Rattle.std.proofs.Common.{sym}
use Rattle.fare_book.proofs.Places.{numbered_nowhere}
use Rattle.fare_book.proofs.restore.place_of.Goals as goal

pub returns-in-None-clause-new : goal.returns-in-None-clause-new
returns-in-None-clause-new c =
    λ _. numbered_nowhere c.args.number c.args.editions.now (sym c.in-None.ensures)
