use Rattle.fare_audit.proofs.ReadingLemmas.{line_reading}
use Rattle.fare_audit.proofs.reading.line_of_text.Goals as goal

pub returns : goal.returns
returns c = line_reading _ _ c.read_line.ensures.found c.read_line.ensures.only c.read_line.ensures.bad
