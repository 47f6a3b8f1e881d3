use Rattle.std.proofs.Common.{◌≡◌, ◌≤◌, [], true, drop, take}
use Rattle.std.specs.List.{list_all}
use Rattle.fare_codes.specs.Codes.{is_code_character}
use Rattle.fare_line.specs.reader.Reading.{scan}
use Rattle.fare_line.specs.reader.Pieces.{with_character}
use Rattle.fare_line.proofs.reading.cursor.Cursor.rule.Given as goal

abbrev pub invariant-loop-i : goal.invariant-loop-i
invariant-loop-i l = record {
  short : l.i ≤ 8;
  form : list_all is_code_character (take l.i l.start) ≡ true;
  reading : scan with_character 47 (take l.i l.start) (drop l.i l.start) ≡ scan with_character 47 [] l.start;
}
