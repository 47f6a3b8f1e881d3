use Rattle.std.proofs.Common.{◌≡◌, ◌<◌, ◌++◌, ◌∷◌, [], length, None, sym, subst, arith}
use Rattle.fare_book.specs.Book.{BookState, numbered}
use Rattle.fare_book.proofs.Numbers.{book-push}
use Rattle.fare_book.proofs.book.Book.add.Goals as goal

pub invariant_of-self : goal.invariant_of-self
invariant_of-self c =
    let items : c.push.new.self.items ≡ c.self.inside.editions.items ++ c.args.edition ∷ [] = grind arith in
    let HasRoom : BookState → Type 0 = λ book. length book.editions < 32 in
    let IsNew : BookState → Type 0 = λ book. numbered c.args.edition.number book.editions ≡ None in
    let room = subst HasRoom (sym c.self.view_is) c.requires.room in
    let new = subst IsNew (sym c.self.view_is) c.requires.new in
    rw items (book-push _ _ c.self.invariant.0 room new, omega (arith, c.self.invariant.1, c.push.ensures.capacity))
