-- no edition before this one has the number
use Rattle.std.proofs.Common.{◌≡◌, drop}
use Rattle.fare_book.specs.Book.{numbered}
use Rattle.fare_book.proofs.book.numbered.Given as goal

abbrev pub invariant-loop-edition : goal.invariant-loop-edition
invariant-loop-edition l = numbered l.number (drop l.edition-index l.editions) ≡ numbered l.number l.editions
