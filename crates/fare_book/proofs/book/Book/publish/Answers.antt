use Rattle.std.proofs.Common.{◌≡◌, Err, rules}
use Rattle.fare_book.specs.Faults.{text_fault}
use Rattle.fare_book.proofs.Publications.{malformed, text_published}
use Rattle.fare_book.proofs.book.Book.publish.Goals as goal

pub returns-in_err-edition-clause-answer : goal.returns-in_err-edition-clause-answer
returns-in_err-edition-clause-answer g c =
    let out : c.from_residual.result ≡ Err (text_fault c.in_err-edition.field-0.0) = search rules in
    rw out (malformed _ c.args.self.now c.args.bytes.now c.in_err-edition.field-0.0 c.in_err-edition.ensures)

pub returns-clause-answer : goal.returns-clause-answer
returns-clause-answer g c =
    text_published _ _ c.args.self.now c.publish_edition.new.self c.args.bytes.now c.in_ok-edition.edition c.publish_edition.result c.in_ok-edition.ensures c.publish_edition.ensures.answer
