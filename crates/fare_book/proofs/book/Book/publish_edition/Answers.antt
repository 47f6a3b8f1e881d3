use Rattle.std.proofs.Common.{◌≡◌, Err, rules}
use Rattle.fare_book.specs.Faults.{reopening_fault}
use Rattle.fare_book.proofs.Publications.{offered, stopped}
use Rattle.fare_book.proofs.Standing.{in_settled, told_stands}
use Rattle.fare_book.proofs.book.Book.publish_edition.Goals as goal

pub returns-in_err-open-clause-answer : goal.returns-in_err-open-clause-answer
returns-in_err-open-clause-answer g c =
    let out : c.from_residual.result ≡ Err (reopening_fault c.in_err-open.field-0.0) = search rules in
    rw out (stopped _ _ c.args.self.now c.open.new.self c.args.edition c.in_err-open.field-0.0 c.in_err-open.ensures.opens c.in_err-open.ensures.bodies)

pub returns-clause-answer : goal.returns-clause-answer
returns-clause-answer g c =
    offered _ _ _ c.args.self.now c.open.new.self c.offer.new.self c.args.edition c.offer.result c.in_ok-open.ensures.opens.1 c.in_ok-open.ensures.bodies c.offer.ensures.offers

pub returns-clause-stands : goal.returns-clause-stands
returns-clause-stands g c =
    told_stands _ _ c.args.self.now c.offer.new.self c.args.edition c.offer.result (offered _ _ _ c.args.self.now c.open.new.self c.offer.new.self c.args.edition c.offer.result c.in_ok-open.ensures.opens.1 c.in_ok-open.ensures.bodies c.offer.ensures.offers)

pub returns-in_err-open-clause-settled : goal.returns-in_err-open-clause-settled
returns-in_err-open-clause-settled g c =
    let out : c.from_residual.result ≡ Err (reopening_fault c.in_err-open.field-0.0) = search rules in
    λ settled. rw out (in_settled _ _ c.args.self.now c.open.new.self c.args.edition (Err (reopening_fault c.in_err-open.field-0.0)) settled (stopped _ _ c.args.self.now c.open.new.self c.args.edition c.in_err-open.field-0.0 c.in_err-open.ensures.opens c.in_err-open.ensures.bodies))

pub returns-clause-settled : goal.returns-clause-settled
returns-clause-settled g c =
    λ settled. in_settled _ _ c.args.self.now c.offer.new.self c.args.edition c.offer.result settled (offered _ _ _ c.args.self.now c.open.new.self c.offer.new.self c.args.edition c.offer.result c.in_ok-open.ensures.opens.1 c.in_ok-open.ensures.bodies c.offer.ensures.offers)
