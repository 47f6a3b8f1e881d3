use Rattle.std.proofs.Common.{[], ◌∷◌, pos, w64, arith}
use Rattle.std.proofs.lemmas.Int.{to_z_pos}
use Rattle.sqlite_value.specs.declared.value.Value.TheVariants.{Int}
use Rattle.sqlite.specs.Held.{state}
use Rattle.fare_sqlite.proofs.States.{ok_then, query_stays}
use Rattle.fare_sqlite.proofs.Steps.{plain_table}
use Rattle.fare_sqlite.proofs.Clauses.{at_told}
use Rattle.fare_sqlite.proofs.StatementForms.{count_at_plain, count_at_text}
use Rattle.fare_sqlite.proofs.statements.count_at.Goals as goal

pub returns-in-Err-clause-stays : goal.returns-in-Err-clause-stays
returns-in-Err-clause-stays g c = query_stays count_at_text (Int (pos c.args.place) ∷ []) (state g.S.Store c.args.conn.now) (state g.S.Store c.query_row.new.self) c.query_row.result (g.met.S.Store.shut_if_dirty c.query_row.new.self.store) (λ up. (c.requires.table up).settled) (λ up. plain_table count_at_text (state g.S.Store c.args.conn.now) count_at_plain (c.requires.table up)) (rw (c.params-to_sql.ensures, to_z_pos w64 c.args.place (omega arith)) at c.query_row.ensures.row)

pub returns-clause-stays : goal.returns-clause-stays
returns-clause-stays g c = query_stays count_at_text (Int (pos c.args.place) ∷ []) (state g.S.Store c.args.conn.now) (state g.S.Store c.query_row.new.self) c.query_row.result (g.met.S.Store.shut_if_dirty c.query_row.new.self.store) (λ up. (c.requires.table up).settled) (λ up. plain_table count_at_text (state g.S.Store c.args.conn.now) count_at_plain (c.requires.table up)) (rw (c.params-to_sql.ensures, to_z_pos w64 c.args.place (omega arith)) at c.query_row.ensures.row)

pub returns-clause-count : goal.returns-clause-count
returns-clause-count g c =
    let stays = query_stays count_at_text (Int (pos c.args.place) ∷ []) (state g.S.Store c.args.conn.now) (state g.S.Store c.query_row.new.self) c.query_row.result (g.met.S.Store.shut_if_dirty c.query_row.new.self.store) (λ up. (c.requires.table up).settled) (λ up. plain_table count_at_text (state g.S.Store c.args.conn.now) count_at_plain (c.requires.table up)) (rw (c.params-to_sql.ensures, to_z_pos w64 c.args.place (omega arith)) at c.query_row.ensures.row) in
    ok_then c.number_in.result c.number_in.ensures (λ n read up. at_told (state g.S.Store c.args.conn.now) (state g.S.Store c.query_row.new.self) c.args.place c.in-Ok.row n stays c.requires.table (rw (c.params-to_sql.ensures, to_z_pos w64 c.args.place (omega arith)) at c.in-Ok.ensures.row) (g.met.S.Store.shut_if_dirty c.query_row.new.self.store) read up)
