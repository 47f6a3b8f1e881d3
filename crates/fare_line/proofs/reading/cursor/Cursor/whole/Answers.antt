use Rattle.fare_line.proofs.Numerals.{whole_below}
use Rattle.fare_line.proofs.reading.cursor.Cursor.whole.Goals as goal

pub returns-clause-bound : goal.returns-clause-bound
returns-clause-bound c =
    whole_below c.args.limit c.args.self.now.rest.now c.counted_or_nought.new.self.rest.now c.counted_or_nought.result c.requires.some c.requires.limit c.counted_or_nought.ensures
