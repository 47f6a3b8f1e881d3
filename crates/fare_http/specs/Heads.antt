-- What the bytes of a connection are, as far as they were read for the head of a request.
use Rattle.std.specs.Prelude.{◌≡◌, ℕ, ◌<◌, ◌⊎◌, List, ◌++◌, length, Option}
use Rattle.std.specs.Io.KnownBytes.{Consumes, IsAtEnd}
use Rattle.httparse.specs.Grammar.{HasNoRequest}
use Rattle.fare_http.specs.declared.piece.NoPiece.{NoPiece}
use Rattle.fare_http.specs.declared.piece.NoPiece.TheVariants.{Memory as PieceMemory, Ended as PieceEnded}
use Rattle.fare_http.specs.declared.piece.NoPiece.TheVariants.{Failed as PieceFailed}
use Rattle.fare_http.specs.declared.head.TheConstants.{MOST_FIELDS, MOST_HEAD}
use Rattle.fare_http.specs.declared.head.NoHead.{NoHead}
use Rattle.fare_http.specs.declared.head.NoHead.TheVariants.{Memory, Ended, Failed}
use Rattle.httparse.specs.Spans.{RequestExceeds, RequestOverflows}

-- of what the connection still brought some first bytes were taken, of which this holds
abbrev pub Takes : Option (List ℕ) → Option (List ℕ) → (List ℕ → Type 0) → Type 0
Takes old new property = (taken : List ℕ) × Consumes old new taken × property taken

-- no whole head stands in the most bytes of a head, or there are more fields than the most
abbrev pub IsOverLimit : List ℕ → Type 0
IsOverLimit taken =
    ((length taken ≡ MOST_HEAD) × HasNoRequest taken)
    ⊎ (RequestExceeds MOST_FIELDS taken × RequestOverflows MOST_FIELDS taken)

-- the connection ended, and the bytes, fewer than the most of a head, hold no whole head
abbrev pub EndsEarly : Option (List ℕ) → List ℕ → Type 0
EndsEarly left taken = IsAtEnd left × HasNoRequest taken × (length taken < MOST_HEAD)

-- the bytes taken grew by the next bytes of the connection
abbrev pub Grows : Option (List ℕ) → Option (List ℕ) → List ℕ → List ℕ → Type 0
Grows old new before after = (piece : List ℕ) × Consumes old new piece × (after ≡ before ++ piece)

-- where no further bytes come, the head isn't whole for the same reason
abbrev pub head_fault : NoPiece → NoHead
head_fault PieceMemory = Memory
head_fault PieceEnded = Ended
head_fault PieceFailed = Failed
