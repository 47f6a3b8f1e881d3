use Rattle.std.proofs.Common.{◌≡◌, ◌∙◌, ◌<◌, length, Err, rules, arith}
use Rattle.std.specs.Int.{from_bool}
use Rattle.fare_book.proofs.Migrations.{at_most_one, goes_on, room, stands_next, stops}
use Rattle.fare_book.proofs.migrate.migrate_bodies.Goals as goal

pub migrate_body-requires-clause-stands : goal.migrate_body-requires-clause-stands
migrate_body-requires-clause-stands g c =
    let within : c.loop-index.index < length c.args.editions.now = omega arith in
    stands_next (g.P.Keeper.bodies c.args.keeper.now) (g.P.Keeper.bodies c.loop-index.keeper) c.args.editions.now c.index-editions-index.result c.loop-index.index c.loop-index.count
    c.requires.read c.loop-index.invariant.come within c.index-editions-index.is

pub returns-in_err-replaced-clause-err : goal.returns-in_err-replaced-clause-err
returns-in_err-replaced-clause-err g c =
    let out : c.from_residual.result ≡ Err c.in_err-replaced.field-0.0 = search rules in
    let within : c.loop-index.index < length c.args.editions.now = omega arith in
    let there = room (g.P.Keeper.bodies c.args.keeper.now) c.args.editions.now c.loop-index.index c.requires.read within in
    rw out (stops (g.P.Keeper.bodies c.args.keeper.now) (g.P.Keeper.bodies c.loop-index.keeper) _ c.loop-index.index c.loop-index.count there c.loop-index.invariant.come c.in_err-replaced.ensures.err)

pub loop-index-preserved : goal.loop-index-preserved
loop-index-preserved g c =
    let within : c.loop-index.index < length c.args.editions.now = omega arith in
    let there = room (g.P.Keeper.bodies c.args.keeper.now) c.args.editions.now c.loop-index.index c.requires.read within in
    let more : c.from-count.result ≡ from_bool c.in_ok-replaced.replaced = search rules in
    let come = goes_on (g.P.Keeper.bodies c.args.keeper.now) (g.P.Keeper.bodies c.loop-index.keeper) (g.P.Keeper.bodies c.migrate_body.new.keeper) c.loop-index.index c.loop-index.count c.in_ok-replaced.replaced
    there c.loop-index.invariant.come c.in_ok-replaced.ensures.ok in
    record {
      come = rw more come;
      few = omega (arith, more, at_most_one c.in_ok-replaced.replaced, c.loop-index.invariant.few);
      ready = c.in_ok-replaced.ensures.served.ready;
      name = c.in_ok-replaced.ensures.name ∙ c.loop-index.invariant.name;
      never_falls = omega (arith, c.loop-index.invariant.never_falls, c.in_ok-replaced.ensures.served.never_falls);
    }
