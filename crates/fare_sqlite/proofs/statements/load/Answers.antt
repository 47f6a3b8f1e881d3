use Rattle.std.proofs.Common.{[], ◌∷◌, pos}
use Rattle.sqlite_value.specs.declared.value.Value.TheVariants.{Int}
use Rattle.sqlite.specs.Held.{state}
use Rattle.fare_sqlite.proofs.States.{ok_then, query_stays}
use Rattle.fare_sqlite.proofs.Steps.{plain_table}
use Rattle.fare_sqlite.proofs.Clauses.{body_told}
use Rattle.fare_sqlite.proofs.StatementForms.{select_plain, select_text}
use Rattle.fare_sqlite.proofs.statements.load.Goals as goal

pub returns-in-Err-clause-stays : goal.returns-in-Err-clause-stays
returns-in-Err-clause-stays g c = query_stays select_text (Int (pos c.args.place) ∷ []) (state g.S.Store c.args.conn.now) (state g.S.Store c.query_row.new.self) c.query_row.result (g.met.S.Store.shut_if_dirty c.query_row.new.self.store) (λ up. (c.requires.speaks up).table.settled) (λ up. plain_table select_text (state g.S.Store c.args.conn.now) select_plain (c.requires.speaks up).table) (rw c.params-to_sql.ensures at c.query_row.ensures.row)

pub returns-clause-stays : goal.returns-clause-stays
returns-clause-stays g c = query_stays select_text (Int (pos c.args.place) ∷ []) (state g.S.Store c.args.conn.now) (state g.S.Store c.query_row.new.self) c.query_row.result (g.met.S.Store.shut_if_dirty c.query_row.new.self.store) (λ up. (c.requires.speaks up).table.settled) (λ up. plain_table select_text (state g.S.Store c.args.conn.now) select_plain (c.requires.speaks up).table) (rw c.params-to_sql.ensures at c.query_row.ensures.row)

pub returns-clause-body : goal.returns-clause-body
returns-clause-body g c =
    let stays = query_stays select_text (Int (pos c.args.place) ∷ []) (state g.S.Store c.args.conn.now) (state g.S.Store c.query_row.new.self) c.query_row.result (g.met.S.Store.shut_if_dirty c.query_row.new.self.store) (λ up. (c.requires.speaks up).table.settled) (λ up. plain_table select_text (state g.S.Store c.args.conn.now) select_plain (c.requires.speaks up).table) (rw c.params-to_sql.ensures at c.query_row.ensures.row) in
    ok_then c.body_in.result c.body_in.ensures (λ body read. body_told (state g.S.Store c.args.conn.now) (state g.S.Store c.query_row.new.self) c.args.place c.in-Ok.row body.items stays c.requires.speaks c.requires.place (rw c.params-to_sql.ensures at c.in-Ok.ensures.row) (g.met.S.Store.shut_if_dirty c.query_row.new.self.store) read)
