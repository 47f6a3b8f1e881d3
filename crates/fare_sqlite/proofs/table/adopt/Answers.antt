use Rattle.sqlite.specs.Held.{state}
use Rattle.fare_ports.specs.Keeper.{BodiesStay}
use Rattle.fare_sqlite.specs.Kept.{kept}
use Rattle.fare_sqlite.proofs.States.{kept_stays, still_speaks, told_then}
use Rattle.fare_sqlite.proofs.table.adopt.Goals as goal

pub returns-clause-told : goal.returns-clause-told
returns-clause-told g c = told_then (kept (state g.S.Store c.args.conn.now)) (kept (state g.S.Store c.create_if_blank.new.conn)) (kept (state g.S.Store c.check_places.new.conn)) BodiesStay c.create_if_blank.ensures.told (kept_stays (state g.S.Store c.create_if_blank.new.conn) (state g.S.Store c.check_places.new.conn) c.check_places.ensures.stays c.create_if_blank.ensures.settled)

pub returns-clause-still : goal.returns-clause-still
returns-clause-still g c = λ speaks. still_speaks (state g.S.Store c.create_if_blank.new.conn) (state g.S.Store c.check_places.new.conn) c.check_places.ensures.stays (c.create_if_blank.ensures.speaks speaks)
