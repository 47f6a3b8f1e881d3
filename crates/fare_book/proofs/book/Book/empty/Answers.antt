use Rattle.fare_book.proofs.Numbers.{book-nil}
use Rattle.fare_book.proofs.book.Book.empty.Goals as goal

pub invariant_of-result : goal.invariant_of-result
invariant_of-result c = (rw c.in_ok-with_capacity.ensures.items book-nil, c.in_ok-with_capacity.ensures.capacity)
