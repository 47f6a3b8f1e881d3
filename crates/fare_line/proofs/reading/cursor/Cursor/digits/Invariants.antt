use Rattle.std.proofs.Common.{◌≡◌, ◌<◌, ◌*◌, drop}
use Rattle.fare_line.specs.reader.Reading.{scan, with_digit}
use Rattle.fare_line.proofs.reading.cursor.Cursor.digits.Given as goal

abbrev pub invariant-loop-i : goal.invariant-loop-i
invariant-loop-i l = record {
  below : l.number < 10 * l.limit;
  reading : scan (with_digit l.limit) 46 l.number (drop l.i l.start) ≡ scan (with_digit l.limit) 46 l.first l.start;
}
