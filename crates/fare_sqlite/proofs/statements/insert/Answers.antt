use Rattle.std.proofs.Common.{[], ◌∷◌, ◌++◌, w64, arith}
use Rattle.std.proofs.lemmas.Int.{to_z_pos}
use Rattle.sqlite.specs.Held.{state}
use Rattle.fare_sqlite.proofs.States.{kept_stays, open_is_clean, refused_quiet, stays_quiet, still_speaks, was_clean}
use Rattle.fare_sqlite.proofs.Steps.{changed_speaks, changed_told, insert_changes}
use Rattle.fare_sqlite.proofs.Crashes.{insert_just, insert_leaves}
use Rattle.fare_sqlite.proofs.StatementForms.{insert_text}
use Rattle.fare_sqlite.proofs.statements.insert.Goals as goal

pub returns-in-Ok-clause-ok : goal.returns-in-Ok-clause-ok
returns-in-Ok-clause-ok g c = changed_told (state g.S.Store c.args.conn.now) (state g.S.Store c.execute.new.self) (λ bodies. bodies ++ c.args.body.now ∷ []) (λ up. insert_changes (state g.S.Store c.args.conn.now) (state g.S.Store c.execute.new.self) c.args.place c.args.body.now c.in-Ok.field-0 c.requires.speaks c.requires.next (rw (c.params-to_sql.ensures, c.params-to_sql-2.ensures, to_z_pos w64 c.args.place (omega arith)) at (c.in-Ok.ensures.runs (open_is_clean (state g.S.Store c.execute.new.self) (g.met.S.Store.shut_if_dirty c.execute.new.self.store) up))) up)

pub returns-in-Ok-clause-speaks : goal.returns-in-Ok-clause-speaks
returns-in-Ok-clause-speaks g c = changed_speaks (state g.S.Store c.args.conn.now) (state g.S.Store c.execute.new.self) (λ bodies. bodies ++ c.args.body.now ∷ []) (λ up. insert_changes (state g.S.Store c.args.conn.now) (state g.S.Store c.execute.new.self) c.args.place c.args.body.now c.in-Ok.field-0 c.requires.speaks c.requires.next (rw (c.params-to_sql.ensures, c.params-to_sql-2.ensures, to_z_pos w64 c.args.place (omega arith)) at (c.in-Ok.ensures.runs (open_is_clean (state g.S.Store c.execute.new.self) (g.met.S.Store.shut_if_dirty c.execute.new.self.store) up))) up)

pub returns-in-Ok-clause-just : goal.returns-in-Ok-clause-just
returns-in-Ok-clause-just g c = λ clean. insert_just (state g.S.Store c.args.conn.now) (state g.S.Store c.execute.new.self) c.args.place c.args.body.now c.in-Ok.field-0 c.requires.speaks c.requires.next (rw (c.params-to_sql.ensures, c.params-to_sql-2.ensures, to_z_pos w64 c.args.place (omega arith)) at (c.in-Ok.ensures.runs clean)) (λ db up left. g.met.S.Store.settled c.execute.new.self.store db up left)

pub returns-in-Ok-clause-crash : goal.returns-in-Ok-clause-crash
returns-in-Ok-clause-crash g c = λ clean. insert_leaves (state g.S.Store c.args.conn.now) (state g.S.Store c.execute.new.self) c.args.place c.args.body.now c.requires.speaks c.requires.next (λ db left. (rw (c.params-to_sql.ensures, c.params-to_sql-2.ensures, to_z_pos w64 c.args.place (omega arith)) at c.execute.ensures.survives).crash clean db left)

pub returns-in-Err-clause-err : goal.returns-in-Err-clause-err
returns-in-Err-clause-err g c = kept_stays (state g.S.Store c.args.conn.now) (state g.S.Store c.execute.new.self) (stays_quiet (state g.S.Store c.args.conn.now) (state g.S.Store c.execute.new.self) (g.met.S.Store.shut_if_dirty c.execute.new.self.store) (λ up. (c.requires.speaks up).table.settled) (λ clean. refused_quiet insert_text _ (state g.S.Store c.args.conn.now) (state g.S.Store c.execute.new.self) c.in-Err.error (c.in-Err.ensures.runs clean))) (λ up. (c.requires.speaks up).table.settled)

pub returns-in-Err-clause-speaks : goal.returns-in-Err-clause-speaks
returns-in-Err-clause-speaks g c = still_speaks (state g.S.Store c.args.conn.now) (state g.S.Store c.execute.new.self) (stays_quiet (state g.S.Store c.args.conn.now) (state g.S.Store c.execute.new.self) (g.met.S.Store.shut_if_dirty c.execute.new.self.store) (λ up. (c.requires.speaks up).table.settled) (λ clean. refused_quiet insert_text _ (state g.S.Store c.args.conn.now) (state g.S.Store c.execute.new.self) c.in-Err.error (c.in-Err.ensures.runs clean))) c.requires.speaks

pub returns-in-Err-clause-crash : goal.returns-in-Err-clause-crash
returns-in-Err-clause-crash g c = λ clean. insert_leaves (state g.S.Store c.args.conn.now) (state g.S.Store c.execute.new.self) c.args.place c.args.body.now c.requires.speaks c.requires.next (λ db left. (rw (c.params-to_sql.ensures, c.params-to_sql-2.ensures, to_z_pos w64 c.args.place (omega arith)) at c.execute.ensures.survives).crash clean db left)

pub returns-in-Ok-clause-was_clean : goal.returns-in-Ok-clause-was_clean
returns-in-Ok-clause-was_clean g c = was_clean (state g.S.Store c.args.conn.now) (state g.S.Store c.execute.new.self) _ c.execute.ensures.survives

pub returns-in-Err-clause-was_clean : goal.returns-in-Err-clause-was_clean
returns-in-Err-clause-was_clean g c = was_clean (state g.S.Store c.args.conn.now) (state g.S.Store c.execute.new.self) _ c.execute.ensures.survives
