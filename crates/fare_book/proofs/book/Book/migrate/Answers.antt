use Rattle.fare_book.proofs.MigratedBooks.{all_canonical, read_each, same_editions}
use Rattle.fare_book.proofs.book.Book.migrate.Goals as goal

pub migrate_bodies-requires-clause-read : goal.migrate_bodies-requires-clause-read
migrate_bodies-requires-clause-read g c =
    rw c.editions.ensures.editions (read_each (g.P.Keeper.bodies c.restore.new.keeper) c.in_ok-self.field-0 c.in_ok-self.ensures.answer)

pub returns-clause-editions : goal.returns-clause-editions
returns-clause-editions g c =
    same_editions (g.P.Keeper.bodies c.args.keeper.now) (g.P.Keeper.bodies c.restore.new.keeper) (g.P.Keeper.bodies c.migrate_bodies.new.keeper) c.in_ok-self.field-0 c.migrate_bodies.result
    c.in_ok-self.ensures.bodies c.in_ok-self.ensures.answer c.migrate_bodies.ensures.ok c.migrate_bodies.ensures.err

pub returns-clause-canonical : goal.returns-clause-canonical
returns-clause-canonical g c =
    all_canonical (g.P.Keeper.bodies c.restore.new.keeper) (g.P.Keeper.bodies c.migrate_bodies.new.keeper) c.migrate_bodies.result c.migrate_bodies.ensures.ok
