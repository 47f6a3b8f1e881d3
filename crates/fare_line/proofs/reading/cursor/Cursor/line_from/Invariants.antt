use Rattle.std.proofs.Common.{◌≡◌, ◌-◌}
use Rattle.fare_line.specs.reader.Draft.{line_from, start}
use Rattle.fare_line.proofs.reading.cursor.Cursor.line_from.Given as goal

abbrev pub invariant-loop : goal.invariant-loop
invariant-loop l = line_from (50 - l.counter) l.draft l.self.rest.now ≡ line_from 50 (start l.fn.from) l.fn.self.rest.now
