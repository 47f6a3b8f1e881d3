use Rattle.sqlite.specs.Held.{state}
use Rattle.fare_sqlite.proofs.States.{kept_stays, outside_settled, still_speaks}
use Rattle.fare_sqlite.proofs.Shut.{closed_keeps_nothing, prepared_stays}
use Rattle.fare_sqlite.proofs.StatementForms.{count_text}
use Rattle.fare_sqlite.proofs.statements.is_shut.Goals as goal

pub returns-clause-told : goal.returns-clause-told
returns-clause-told g c =
    let settled = outside_settled (state g.S.Store c.args.conn.now) c.is_autocommit.result c.is_autocommit.ensures.value c.is_autocommit.ensures.settled c.if-not-is_autocommit.false in
    let stays = prepared_stays c.prepare-answer.result (state g.S.Store c.args.conn.now) (state g.S.Store c.prepare-answer.new.self) count_text _ (g.met.S.Store.shut_if_dirty c.prepare-answer.new.self.store) settled c.prepare-answer.ensures.ok c.prepare-answer.ensures.err in
    kept_stays (state g.S.Store c.args.conn.now) (state g.S.Store c.prepare-answer.new.self) stays settled

pub returns-clause-shut : goal.returns-clause-shut
returns-clause-shut g c = λ yes. closed_keeps_nothing c.prepare-answer.result (state g.S.Store c.args.conn.now) (state g.S.Store c.prepare-answer.new.self) count_text (g.met.S.Store.shut_if_dirty c.prepare-answer.new.self.store) c.prepare-answer.ensures.err (c.is_closed.ensures yes)

pub returns-clause-speaks : goal.returns-clause-speaks
returns-clause-speaks g c = λ speaks.
    let settled = outside_settled (state g.S.Store c.args.conn.now) c.is_autocommit.result c.is_autocommit.ensures.value c.is_autocommit.ensures.settled c.if-not-is_autocommit.false in
    let stays = prepared_stays c.prepare-answer.result (state g.S.Store c.args.conn.now) (state g.S.Store c.prepare-answer.new.self) count_text _ (g.met.S.Store.shut_if_dirty c.prepare-answer.new.self.store) settled c.prepare-answer.ensures.ok c.prepare-answer.ensures.err in
    still_speaks (state g.S.Store c.args.conn.now) (state g.S.Store c.prepare-answer.new.self) stays speaks
