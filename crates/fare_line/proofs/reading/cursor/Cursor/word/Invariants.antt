use Rattle.std.proofs.Common.{◌≡◌, drop}
use Rattle.fare_line.specs.reader.Reading.{word_at}
use Rattle.fare_line.proofs.reading.cursor.Cursor.word.Given as goal

abbrev pub invariant-loop-letter : goal.invariant-loop-letter
invariant-loop-letter l = word_at (drop l.letter-index l.word) l.self.rest.now ≡ word_at l.word l.fn.self.rest.now
