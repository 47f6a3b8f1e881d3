-- the findings of the rows that are left are still to be told
use Rattle.std.proofs.Common.{length, map}
use Rattle.fare_check.specs.CheckText.{line_of}
use Rattle.fare_check.specs.Faults.{findings_from}
use Rattle.fare_check.proofs.Told.{StillToTell}
use Rattle.fare_check.proofs.reading.tell_rows.Given as goal

abbrev pub invariant-loop-row : goal.invariant-loop-row
invariant-loop-row l =
    StillToTell l.fn.report (map (line_of l.grounds.version l.grounds.filed.now) (findings_from l.grounds.version l.fn.first.ended l.fn.first.number l.fn.rows))
    l.report (map (line_of l.grounds.version l.grounds.filed.now) (findings_from l.grounds.version l.reached.ended l.reached.number l.rows))

abbrev pub decreases-loop-row : goal.decreases-loop-row
decreases-loop-row l = length l.rows
