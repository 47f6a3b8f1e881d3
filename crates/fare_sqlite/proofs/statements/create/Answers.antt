use Rattle.std.proofs.Common.{[]}
use Rattle.sqlite.specs.Held.{state}
use Rattle.fare_sqlite.specs.Kept.{kept}
use Rattle.fare_sqlite.proofs.States.{kept_stays, open_is_clean, refused_quiet, stays_quiet, still_speaks, told_open}
use Rattle.fare_sqlite.proofs.Steps.{create_makes, made_told, not_blank}
use Rattle.fare_sqlite.proofs.StatementForms.{create_text}
use Rattle.fare_sqlite.proofs.statements.create.Goals as goal

pub returns-in-Ok-clause-told : goal.returns-in-Ok-clause-told
returns-in-Ok-clause-told g c = told_open (kept (state g.S.Store c.args.conn.now)) (state g.S.Store c.execute.new.self) (λ up. made_told (state g.S.Store c.args.conn.now) (state g.S.Store c.execute.new.self) c.requires.settled c.requires.blank (create_makes (state g.S.Store c.args.conn.now) (state g.S.Store c.execute.new.self) c.in-Ok.field-0 c.requires.settled c.requires.blank (c.in-Ok.ensures.runs (open_is_clean (state g.S.Store c.execute.new.self) (g.met.S.Store.shut_if_dirty c.execute.new.self.store) up))))

pub returns-in-Ok-clause-settled : goal.returns-in-Ok-clause-settled
returns-in-Ok-clause-settled g c = λ up. (create_makes (state g.S.Store c.args.conn.now) (state g.S.Store c.execute.new.self) c.in-Ok.field-0 c.requires.settled c.requires.blank (c.in-Ok.ensures.runs (open_is_clean (state g.S.Store c.execute.new.self) (g.met.S.Store.shut_if_dirty c.execute.new.self.store) up))).settled

pub returns-in-Ok-clause-speaks : goal.returns-in-Ok-clause-speaks
returns-in-Ok-clause-speaks g c = λ speaks up.
    let made = (create_makes (state g.S.Store c.args.conn.now) (state g.S.Store c.execute.new.self) c.in-Ok.field-0 c.requires.settled c.requires.blank (c.in-Ok.ensures.runs (open_is_clean (state g.S.Store c.execute.new.self) (g.met.S.Store.shut_if_dirty c.execute.new.self.store) up))) in
    absurd (not_blank (state g.S.Store c.args.conn.now) c.requires.blank (speaks made.was_open).table)

pub returns-in-Err-clause-told : goal.returns-in-Err-clause-told
returns-in-Err-clause-told g c = (kept_stays (state g.S.Store c.args.conn.now) (state g.S.Store c.execute.new.self) (stays_quiet (state g.S.Store c.args.conn.now) (state g.S.Store c.execute.new.self) (g.met.S.Store.shut_if_dirty c.execute.new.self.store) c.requires.settled (λ clean. refused_quiet create_text [] (state g.S.Store c.args.conn.now) (state g.S.Store c.execute.new.self) c.in-Err.error (c.in-Err.ensures.runs clean))) c.requires.settled)

pub returns-in-Err-clause-settled : goal.returns-in-Err-clause-settled
returns-in-Err-clause-settled g c = λ up. (stays_quiet (state g.S.Store c.args.conn.now) (state g.S.Store c.execute.new.self) (g.met.S.Store.shut_if_dirty c.execute.new.self.store) c.requires.settled (λ clean. refused_quiet create_text [] (state g.S.Store c.args.conn.now) (state g.S.Store c.execute.new.self) c.in-Err.error (c.in-Err.ensures.runs clean))).settled up

pub returns-in-Err-clause-speaks : goal.returns-in-Err-clause-speaks
returns-in-Err-clause-speaks g c = λ speaks. still_speaks (state g.S.Store c.args.conn.now) (state g.S.Store c.execute.new.self) (stays_quiet (state g.S.Store c.args.conn.now) (state g.S.Store c.execute.new.self) (g.met.S.Store.shut_if_dirty c.execute.new.self.store) c.requires.settled (λ clean. refused_quiet create_text [] (state g.S.Store c.args.conn.now) (state g.S.Store c.execute.new.self) c.in-Err.error (c.in-Err.ensures.runs clean))) speaks
