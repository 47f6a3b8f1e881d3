-- the row is as far from here on as there are rows to pass
use Rattle.std.proofs.Common.{◌≡◌, ◌-◌, [], get_or}
use Rattle.fare_csv.specs.Rows.{rows_of}
use Rattle.fare_check.proofs.words.row_at.Given as goal

abbrev pub invariant-loop-at : goal.invariant-loop-at
invariant-loop-at l = get_or (rows_of l.bytes) (l.number - 1) [] ≡ get_or l.rows (l.number - l.at) []
