-- the check faults of the records from this place on are still to be told, the places of the faulty ones are left, and
-- each of these records has a row
use Rattle.std.proofs.Common.{◌≡◌, ◌≤◌, ◌+◌, drop, length, map}
use Rattle.fare_check.specs.CheckText.{line_of}
use Rattle.fare_check.specs.Faults.{check_findings_from, faulty_from}
use Rattle.fare_check.proofs.Told.{StillToTell}
use Rattle.fare_check.proofs.beside.tell_rest.Given as goal

abbrev pub invariant-loop-place : goal.invariant-loop-place
invariant-loop-place l = record {
  told : StillToTell l.fn.report (map (line_of l.grounds.version l.grounds.filed.now) (check_findings_from l.grounds.filed.now 0 l.grounds.filed.now l.fn.rows))
      l.report (map (line_of l.grounds.version l.grounds.filed.now) (check_findings_from l.grounds.filed.now l.place (drop l.place l.grounds.filed.now) l.rows));
  left : l.left ≡ faulty_from l.grounds.filed.now l.place;
  enough : length l.grounds.filed.now ≤ l.place + length l.rows;
}
