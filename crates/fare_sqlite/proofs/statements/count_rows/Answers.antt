use Rattle.std.proofs.Common.{[]}
use Rattle.sqlite.specs.Held.{state}
use Rattle.fare_sqlite.proofs.States.{ok_then, on_ok, query_leaves, query_stays, row_open}
use Rattle.fare_sqlite.proofs.Steps.{plain_table}
use Rattle.fare_sqlite.proofs.Clauses.{rows_told}
use Rattle.fare_sqlite.proofs.StatementForms.{count_plain, count_text}
use Rattle.fare_sqlite.proofs.statements.count_rows.Goals as goal

pub returns-in-Err-clause-stays : goal.returns-in-Err-clause-stays
returns-in-Err-clause-stays g c = query_stays count_text [] (state g.S.Store c.args.conn.now) (state g.S.Store c.query_row.new.self) c.query_row.result (g.met.S.Store.shut_if_dirty c.query_row.new.self.store) (λ up. (c.requires up).settled) (λ up. plain_table count_text (state g.S.Store c.args.conn.now) count_plain (c.requires up)) c.query_row.ensures.row

pub returns-clause-stays : goal.returns-clause-stays
returns-clause-stays g c = query_stays count_text [] (state g.S.Store c.args.conn.now) (state g.S.Store c.query_row.new.self) c.query_row.result (g.met.S.Store.shut_if_dirty c.query_row.new.self.store) (λ up. (c.requires up).settled) (λ up. plain_table count_text (state g.S.Store c.args.conn.now) count_plain (c.requires up)) c.query_row.ensures.row

pub returns-clause-count : goal.returns-clause-count
returns-clause-count g c =
    let stays = query_stays count_text [] (state g.S.Store c.args.conn.now) (state g.S.Store c.query_row.new.self) c.query_row.result (g.met.S.Store.shut_if_dirty c.query_row.new.self.store) (λ up. (c.requires up).settled) (λ up. plain_table count_text (state g.S.Store c.args.conn.now) count_plain (c.requires up)) c.query_row.ensures.row in
    ok_then c.number_in.result c.number_in.ensures (λ n read up. rows_told (state g.S.Store c.args.conn.now) (state g.S.Store c.query_row.new.self) c.in-Ok.row n stays c.requires c.in-Ok.ensures.row (g.met.S.Store.shut_if_dirty c.query_row.new.self.store) read up)

pub returns-clause-opened : goal.returns-clause-opened
returns-clause-opened g c = on_ok c.number_in.result (λ clean. row_open count_text [] (state g.S.Store c.args.conn.now) (state g.S.Store c.query_row.new.self) c.in-Ok.row (c.in-Ok.ensures.row clean))

pub returns-in-Err-clause-leaves : goal.returns-in-Err-clause-leaves
returns-in-Err-clause-leaves g c = query_leaves count_text [] (state g.S.Store c.args.conn.now) (state g.S.Store c.query_row.new.self) (λ up. plain_table count_text (state g.S.Store c.args.conn.now) count_plain (c.requires up)) c.query_row.ensures.survives

pub returns-clause-leaves : goal.returns-clause-leaves
returns-clause-leaves g c = query_leaves count_text [] (state g.S.Store c.args.conn.now) (state g.S.Store c.query_row.new.self) (λ up. plain_table count_text (state g.S.Store c.args.conn.now) count_plain (c.requires up)) c.query_row.ensures.survives
