use Rattle.std.proofs.Common.{[]}
use Rattle.sqlite.specs.Held.{state}
use Rattle.fare_sqlite.proofs.States.{ok_then, query_stays}
use Rattle.fare_sqlite.proofs.Steps.{plain_table}
use Rattle.fare_sqlite.proofs.Clauses.{others_told}
use Rattle.fare_sqlite.proofs.StatementForms.{others_plain, others_text}
use Rattle.fare_sqlite.proofs.statements.count_others.Goals as goal

pub returns-in-Err-clause-stays : goal.returns-in-Err-clause-stays
returns-in-Err-clause-stays g c = query_stays others_text [] (state g.S.Store c.args.conn.now) (state g.S.Store c.query_row.new.self) c.query_row.result (g.met.S.Store.shut_if_dirty c.query_row.new.self.store) (λ up. (c.requires up).settled) (λ up. plain_table others_text (state g.S.Store c.args.conn.now) others_plain (c.requires up)) c.query_row.ensures.row

pub returns-clause-stays : goal.returns-clause-stays
returns-clause-stays g c = query_stays others_text [] (state g.S.Store c.args.conn.now) (state g.S.Store c.query_row.new.self) c.query_row.result (g.met.S.Store.shut_if_dirty c.query_row.new.self.store) (λ up. (c.requires up).settled) (λ up. plain_table others_text (state g.S.Store c.args.conn.now) others_plain (c.requires up)) c.query_row.ensures.row

pub returns-clause-count : goal.returns-clause-count
returns-clause-count g c =
    let stays = query_stays others_text [] (state g.S.Store c.args.conn.now) (state g.S.Store c.query_row.new.self) c.query_row.result (g.met.S.Store.shut_if_dirty c.query_row.new.self.store) (λ up. (c.requires up).settled) (λ up. plain_table others_text (state g.S.Store c.args.conn.now) others_plain (c.requires up)) c.query_row.ensures.row in
    ok_then c.number_in.result c.number_in.ensures (λ n read up. others_told (state g.S.Store c.args.conn.now) (state g.S.Store c.query_row.new.self) c.in-Ok.row n stays c.requires c.in-Ok.ensures.row (g.met.S.Store.shut_if_dirty c.query_row.new.self.store) read up)
