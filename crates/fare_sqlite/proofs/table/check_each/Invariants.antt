use Rattle.std.proofs.Common.{◌≡◌, ℕ, ◌+◌, ◌<◌, length, IsTrue}
use Rattle.sqlite.specs.Held.{state}
use Rattle.fare_sqlite.specs.Bodies.{rows_at}
use Rattle.fare_sqlite.specs.Kept.{Stays, rows_of}
use Rattle.fare_sqlite.proofs.table.check_each.Given as goal

-- just one row stands at each place that was passed
abbrev pub invariant-loop-index : goal.invariant-loop-index
invariant-loop-index g l = record {
  stays : Stays (state g.S.Store l.initial.conn) (state g.S.Store l.conn);
  each : IsTrue (state g.S.Store l.conn).is_open → (k : ℕ) → k < l.index → length (rows_at (k + 1) (rows_of (state g.S.Store l.conn))) ≡ 1;
}
