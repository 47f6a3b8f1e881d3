use Rattle.sqlite.specs.Held.{state}
use Rattle.fare_sqlite.proofs.States.{kept_stays, still_speaks}
use Rattle.fare_sqlite.proofs.table.load.Goals as goal

pub returns-clause-told : goal.returns-clause-told
returns-clause-told g c = kept_stays (state g.S.Store c.args.conn.now) (state g.S.Store c.load.new.conn) c.load.ensures.stays (λ up. (c.requires.speaks up).table.settled)

pub returns-clause-speaks : goal.returns-clause-speaks
returns-clause-speaks g c = still_speaks (state g.S.Store c.args.conn.now) (state g.S.Store c.load.new.conn) c.load.ensures.stays c.requires.speaks
