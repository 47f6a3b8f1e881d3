use Rattle.fare_commands.proofs.PublicationLemmas.{may_publish, publishes}
use Rattle.fare_commands.proofs.publishing.publish_of.Goals as goal

pub returns-clause-answer : goal.returns-clause-answer
returns-clause-answer g c =
    publishes _ _ _ c.args.source.now c.in_ok-edition.edition c.in_ok-book.book.editions c.publish_in.result
    c.in_ok-edition.ensures c.in_ok-book.ensures.bodies c.in_ok-book.ensures.editions c.publish_in.ensures.bodies
    c.publish_in.ensures.refused c.publish_in.ensures.answer

pub returns-clause-bodies : goal.returns-clause-bodies
returns-clause-bodies g c =
    may_publish _ _ _ c.args.source.now c.in_ok-edition.edition c.in_ok-book.book.editions c.in_ok-edition.ensures
    c.in_ok-book.ensures.bodies c.in_ok-book.ensures.editions c.publish_in.ensures.bodies
