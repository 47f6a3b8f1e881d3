use Rattle.std.proofs.Common.{◌≡◌, Some, rules}
use Rattle.fare_book.specs.Book.{numbered}
use Rattle.fare_book.proofs.SameEditions.{isnt}
use Rattle.fare_book.proofs.Publications.{stay_same}
use Rattle.fare_book.proofs.Standing.{settled_is}
use Rattle.fare_book.proofs.book.Book.offer.Goals as goal

pub returns-in-Some-clause-offers : goal.returns-in-Some-clause-offers
returns-in-Some-clause-offers g c =
    let found : numbered c.args.edition.number c.args.self.now.editions ≡ Some c.in-Some.kept.now = search rules in
    let other = isnt c.in-Some.kept.now c.args.edition c.is_same.result c.is_same.ensures c.if-is_same.false in
    (search rules, (c.in-Some.kept.now, found, other), settled_is c.args.self.now c.requires.settled, stay_same _)
