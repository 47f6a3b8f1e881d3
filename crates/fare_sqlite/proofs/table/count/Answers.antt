use Rattle.sqlite.specs.Held.{state}
use Rattle.fare_sqlite.proofs.States.{kept_stays, ok_then, still_speaks}
use Rattle.fare_sqlite.proofs.Clauses.{many_told}
use Rattle.fare_sqlite.proofs.table.count.Goals as goal

pub returns-clause-count : goal.returns-clause-count
returns-clause-count g c = ok_then c.count_rows.result c.count_rows.ensures.count (λ n told. many_told _ n (still_speaks (state g.S.Store c.args.conn.now) _ c.count_rows.ensures.stays c.requires) told)

pub returns-clause-told : goal.returns-clause-told
returns-clause-told g c = kept_stays (state g.S.Store c.args.conn.now) (state g.S.Store c.count_rows.new.conn) c.count_rows.ensures.stays (λ up. (c.requires up).table.settled)

pub returns-clause-speaks : goal.returns-clause-speaks
returns-clause-speaks g c = still_speaks (state g.S.Store c.args.conn.now) (state g.S.Store c.count_rows.new.conn) c.count_rows.ensures.stays c.requires
