-- What a desk does with a request: it publishes an edition, or answers and changes nothing.
use Rattle.std.specs.Prelude.{◌≡◌, ◌≤◌, ℕ, List, ◌++◌, Option, Some, None, Ok, Err, IfSome, codes, decimal}
use Rattle.fare_ports.specs.Cause.{Rose}
use Rattle.fare_ports.specs.Keeper.{WhereTold}
use Rattle.fare_csv.specs.FaultText.{fault_text}
use Rattle.fare_book.specs.Book.{BookState}
use Rattle.fare_book.specs.DamageText.{damage_text}
use Rattle.fare_book.specs.Publish.{Answer, Publishes}
use Rattle.fare_book.specs.Reopens.{Told}
use Rattle.fare_book.specs.Stands.{KeepsStanding}
use Rattle.fare_book.specs.declared.publish_fault.PublishFault.TheVariants.{Memory, Malformed, Differs, Full}
use Rattle.fare_book.specs.declared.publish_fault.PublishFault.TheVariants.{KeeperFault, Damaged}
use Rattle.fare_book.specs.declared.published.Published.TheVariants.{Already, New}
use Rattle.fare_http.specs.declared.reply.Form.TheVariants.{Text}
use Rattle.fare_http.specs.declared.reply.Reply.{Reply}
use Rattle.fare_http.specs.declared.reply.Status.TheVariants.{BadRequest, Conflict, Created, InternalServerError}
use Rattle.fare_http.specs.declared.reply.Status.TheVariants.{Okay, ServiceUnavailable}
use Rattle.fare_desk.specs.Replies.{line, says}
use Rattle.fare_desk.specs.Routes.{route_of}
use Rattle.fare_desk.specs.Viewing.{IsAnswer}
use Rattle.fare_desk.specs.declared.routes.Route.TheVariants.{Editions}

-- the reply to a publication; want of memory has none
abbrev pub publication_reply : Answer → Option Reply
publication_reply (Ok (New number)) = Some (says Text Created (line (codes "PUBLISHED " ++ decimal number)))
publication_reply (Ok (Already number)) = Some (says Text Okay (line (codes "ALREADY " ++ decimal number)))
publication_reply (Err (Malformed fault)) = Some (says Text BadRequest (line (fault_text fault)))
publication_reply (Err (Differs number)) = Some (says Text Conflict (line (codes "DIFFERS " ++ decimal number)))
publication_reply (Err Full) = Some (says Text Conflict (line (codes "BOOK FULL")))
publication_reply (Err KeeperFault) = Some (says Text ServiceUnavailable (line (codes "KEEPER FAULT")))
publication_reply (Err (Damaged place damage)) =
    Some (says Text InternalServerError (line (codes "DAMAGED " ++ decimal place ++ codes " " ++ damage_text damage)))
publication_reply (Err Memory) = None

-- the state of a desk: its book, the bodies of its keeper, where they are told, and the keeper's count of failures
pub record DeskState : Type 0 where
  pub book : BookState
  pub bodies : Told
  pub faults : ℕ

-- the state of a desk of this book, over a keeper of these bodies and this count
abbrev pub state : BookState → Told → ℕ → DeskState
state book bodies faults = record { book = book; bodies = bodies; faults = faults }

-- a request asks for a publication: a POST of `/editions`
abbrev pub AsksToPublish : List ℕ → List ℕ → Type 0
AsksToPublish method path = (method ≡ codes "POST") × (route_of path ≡ Some Editions)

-- a text is published once in the book of a desk, and its answer has this reply
pub record IsPublication (old new : DeskState) (text : List ℕ) (reply : Option Reply) : Type 0 where
  pub answer : Answer
  pub publishes : Publishes old.book new.book text answer old.bodies new.bodies
  pub stands : WhereTold old.bodies new.bodies (KeepsStanding old.book new.book answer)
  pub replied : reply ≡ publication_reply answer
  pub never_falls : old.faults ≤ new.faults
  pub cause : answer ≡ Err KeeperFault → Rose old.faults new.faults

-- a request changes nothing, and is answered unless memory is wanting
pub record IsView (old new : DeskState) (method path body : List ℕ) (reply : Option Reply) : Type 0 where
  pub stays : new ≡ old
  pub answered : IfSome reply (IsAnswer old.book.editions method path body)

-- a request is a publication where it asks for one, and any other changes nothing
pub record IsDeskStep (old new : DeskState) (method path body : List ℕ) (reply : Option Reply) : Type 0 where
  pub publication : AsksToPublish method path → IsPublication old new body reply
  pub view : ¬ (AsksToPublish method path) → IsView old new method path body reply
