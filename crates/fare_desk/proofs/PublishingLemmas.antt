-- A publication for which there was no room.
use Rattle.std.proofs.Common.{ℕ, List, None, Some, Err, refl, inl, arith}
use Rattle.fare_ports.specs.Keeper.{WhereTold}
use Rattle.fare_book.specs.Book.{BookState}
use Rattle.fare_book.specs.Reopens.{Stay, Told}
use Rattle.fare_book.specs.Stands.{KeepsStanding}
use Rattle.fare_book.specs.declared.publish_fault.PublishFault.TheVariants.{Memory}
use Rattle.fare_desk.specs.Publishing.{DeskState, IsPublication}

stay-same : (bodies : Told) → Stay bodies bodies
stay-same None = tt
stay-same (Some bodies) = refl

stands-same : (book : BookState) (bodies : Told) → WhereTold bodies bodies (KeepsStanding book book (Err Memory))
stands-same book None = tt
stands-same book (Some bodies) = λ stands. (stands, tt)

-- want of memory changes nothing
pub no-room : (state : DeskState) (text : List ℕ) → IsPublication state state text None
no-room state text = record {
  answer = Err Memory;
  publishes = (inl refl, stay-same state.bodies);
  stands = stands-same state.book state.bodies;
  replied = refl;
  never_falls = omega arith;
  cause = λ other. cc;
}
