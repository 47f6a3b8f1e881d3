use Rattle.fare_book.proofs.Bodies.{few-told, too_many}
use Rattle.fare_book.proofs.book.Book.restore.Goals as goal

pub returns-then-count-clause-answer : goal.returns-then-count-clause-answer
returns-then-count-clause-answer g c = too_many _ c.in_ok-count.count c.in_ok-count.ensures.count c.if-count.true

pub returns-clause-answer : goal.returns-clause-answer
returns-clause-answer g c =
    few-told _ _ _ c.in_ok-count.count c.in_ok-count.ensures.count c.if-count.false c.of_bodies.ensures.bodies c.of_bodies.ensures.answer
