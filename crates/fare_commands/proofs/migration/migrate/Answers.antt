use Rattle.fare_commands.proofs.MigrationLemmas.{migrates, migrates_store}
use Rattle.fare_commands.proofs.migration.migrate.Goals as goal

pub returns-clause-answer : goal.returns-clause-answer
returns-clause-answer g c =
    migrates _ _ _ c.migrate_in.result c.in_ok-book.ensures.bodies c.migrate_in.ensures.answer

pub returns-clause-bodies : goal.returns-clause-bodies
returns-clause-bodies g c =
    migrates_store _ _ _ c.in_ok-book.ensures.bodies c.migrate_in.ensures.bodies
