use Rattle.std.proofs.Common.{◌++◌, ◌∷◌, []}
use Rattle.sqlite.specs.Held.{state}
use Rattle.fare_ports.specs.Keeper.{BodiesStay, BodyAppended}
use Rattle.fare_sqlite.specs.Kept.{kept}
use Rattle.fare_sqlite.proofs.States.{err_may_append, err_then_told, kept_stays, may_append, ok_then_told, on_err}
use Rattle.fare_sqlite.proofs.Crashes.{just_then, leaves_still, leaves_then}
use Rattle.fare_sqlite.proofs.table.append.Goals as goal

pub returns-in_err-count-clause-err : goal.returns-in_err-count-clause-err
returns-in_err-count-clause-err g c = on_err c.from_residual.result (kept_stays (state g.S.Store c.args.conn.now) (state g.S.Store c.count_rows.new.conn) c.count_rows.ensures.stays (λ up. (c.requires up).table.settled))

pub returns-in_err-count-clause-crash : goal.returns-in_err-count-clause-crash
returns-in_err-count-clause-crash g c = leaves_still (state g.S.Store c.args.conn.now) (state g.S.Store c.count_rows.new.conn) (λ bodies. bodies ++ c.args.body.now ∷ []) c.count_rows.ensures.leaves

pub returns-clause-ok : goal.returns-clause-ok
returns-clause-ok g c = ok_then_told c.insert.result (kept (state g.S.Store c.args.conn.now)) (kept (state g.S.Store c.count_rows.new.conn)) (kept (state g.S.Store c.insert.new.conn)) (BodyAppended c.args.body.now) (kept_stays (state g.S.Store c.args.conn.now) (state g.S.Store c.count_rows.new.conn) c.count_rows.ensures.stays (λ up. (c.requires up).table.settled)) c.insert.ensures.ok

pub returns-clause-err : goal.returns-clause-err
returns-clause-err g c = err_then_told c.insert.result (kept (state g.S.Store c.args.conn.now)) (kept (state g.S.Store c.count_rows.new.conn)) (kept (state g.S.Store c.insert.new.conn)) BodiesStay (kept_stays (state g.S.Store c.args.conn.now) (state g.S.Store c.count_rows.new.conn) c.count_rows.ensures.stays (λ up. (c.requires up).table.settled)) c.insert.ensures.err

pub returns-clause-just : goal.returns-clause-just
returns-clause-just g c = just_then c.insert.result (state g.S.Store c.args.conn.now) (state g.S.Store c.count_rows.new.conn) (state g.S.Store c.insert.new.conn) (λ bodies. bodies ++ c.args.body.now ∷ []) c.count_rows.ensures.stays c.in_ok-count.ensures.opened c.insert.ensures.was_clean c.insert.ensures.just

pub returns-clause-crash : goal.returns-clause-crash
returns-clause-crash g c = leaves_then (state g.S.Store c.args.conn.now) (state g.S.Store c.count_rows.new.conn) (state g.S.Store c.insert.new.conn) (λ bodies. bodies ++ c.args.body.now ∷ []) c.count_rows.ensures.stays c.in_ok-count.ensures.opened c.count_rows.ensures.leaves c.insert.ensures.was_clean c.insert.ensures.crash

pub returns-in_err-count-clause-may : goal.returns-in_err-count-clause-may
returns-in_err-count-clause-may g c = on_err c.from_residual.result (may_append (kept (state g.S.Store c.args.conn.now)) (kept (state g.S.Store c.count_rows.new.conn)) c.args.body.now (kept_stays (state g.S.Store c.args.conn.now) (state g.S.Store c.count_rows.new.conn) c.count_rows.ensures.stays (λ up. (c.requires up).table.settled)))

pub returns-clause-may : goal.returns-clause-may
returns-clause-may g c = err_may_append c.insert.result (kept (state g.S.Store c.args.conn.now)) (kept (state g.S.Store c.insert.new.conn)) c.args.body.now (err_then_told c.insert.result (kept (state g.S.Store c.args.conn.now)) (kept (state g.S.Store c.count_rows.new.conn)) (kept (state g.S.Store c.insert.new.conn)) BodiesStay (kept_stays (state g.S.Store c.args.conn.now) (state g.S.Store c.count_rows.new.conn) c.count_rows.ensures.stays (λ up. (c.requires up).table.settled)) c.insert.ensures.err)
