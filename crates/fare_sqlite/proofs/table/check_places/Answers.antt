use Rattle.std.proofs.Common.{◌≡◌, arith}
use Rattle.sqlite.specs.Held.{state}
use Rattle.fare_sqlite.proofs.States.{still_table}
use Rattle.fare_sqlite.proofs.Clauses.{places_speak}
use Rattle.fare_sqlite.proofs.table.check_places.Goals as goal

pub returns-clause-speaks : goal.returns-clause-speaks
returns-clause-speaks g c =
    let none : c.in_ok-others.others ≡ 0 = omega arith in
    places_speak c.check_each.result (state g.S.Store c.count_rows.new.conn) (state g.S.Store c.count_others.new.conn) (state g.S.Store c.check_each.new.conn) c.in_ok-count.count c.in_ok-others.others c.in_ok-count.ensures.count c.count_others.ensures.stays c.in_ok-others.ensures.count none
    c.check_each.ensures.stays (still_table (state g.S.Store c.count_rows.new.conn) (state g.S.Store c.count_others.new.conn) c.count_others.ensures.stays (still_table (state g.S.Store c.args.conn.now) (state g.S.Store c.count_rows.new.conn) c.count_rows.ensures.stays c.requires)) c.check_each.ensures.each
