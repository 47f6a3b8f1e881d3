use Rattle.sqlite.specs.Held.{state}
use Rattle.fare_sqlite.proofs.States.{still_table}
use Rattle.fare_sqlite.proofs.table.check_each.Goals as goal

pub count_at-requires-clause-table : goal.count_at-requires-clause-table
count_at-requires-clause-table g c = still_table (state g.S.Store c.args.conn.now) (state g.S.Store c.loop-index.conn) c.loop-index.invariant.stays c.requires.table
