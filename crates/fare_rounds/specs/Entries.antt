-- What a connection of a round brought, and which reply it has.
use Rattle.std.specs.Prelude.{◌≡◌, ◌&&◌, ℕ, ◌+◌, Bool, length, List, Option, None, Some, MatchBool, IfSome, codes}
use Rattle.std.specs.Prelude.{bytes_eq, ⊤}
use Rattle.std.specs.List.{AllZip}
use Rattle.fare_http.specs.declared.reply.Reply.{Reply}
use Rattle.fare_http.specs.declared.request.Request.{Request}
use Rattle.fare_http.specs.declared.taken.Taken.{Taken}
use Rattle.fare_http.specs.declared.taken.Taken.TheVariants.{Whole, Fixed, NoMemory, Cut}
use Rattle.fare_http.specs.Serving.{BringsWhole, BringsRefused}
use Rattle.fare_rounds.specs.declared.entry.Entry.{Entry}

-- a round: one entry for each connection that it holds, in the order of arrival, and how many others were cut off
pub record Row : Type 0 where
  pub entries : List Entry
  pub cut : ℕ

-- how many connections a round took
abbrev pub connection_count : Row → ℕ
connection_count row = length row.entries + row.cut

-- a request of this method and path is a `POST /editions`
abbrev pub is_publication : List ℕ → List ℕ → Bool
is_publication method path = bytes_eq method (codes "POST") && bytes_eq path (codes "/editions")

-- the entry of what was read from a connection, unless it was cut off
abbrev pub entry_of : Taken → Option Entry
entry_of (Whole request) = Some (record { request = Some request; reply = None })
entry_of (Fixed reply) = Some (record { request = None; reply = Some reply })
entry_of NoMemory = Some (record { request = None; reply = None })
entry_of Cut = None

-- a connection brings this whole request, to which there is no reply yet, or has this fixed answer; where there is
-- neither, memory was wanting
abbrev pub IsBrought : Option (List ℕ) → Option Request → Option Reply → Type 0
IsBrought connection (Some request) reply = BringsWhole connection request × (reply ≡ None)
IsBrought connection None (Some reply) = BringsRefused connection reply
IsBrought connection None None = ⊤

module _ (replies : List ℕ → List ℕ → List ℕ → Reply → Type 0) where
  -- a request has its reply, unless memory was wanting; a `POST /editions`, and what is no whole request, keeps its own
  abbrev pub HasReply : Option Request → Option Reply → Option Reply → Type 0
  HasReply None own reply = reply ≡ own
  HasReply (Some request) own reply =
      MatchBool (is_publication request.method request.path) (reply ≡ own)
      (IfSome reply (replies request.method request.path request.body))

  -- an entry was viewed: its request is as before and has its reply
  abbrev pub IsViewed : Entry → Entry → Type 0
  IsViewed old new = (new.request ≡ old.request) × HasReply old.request old.reply new.reply

  -- each entry of a round was viewed
  abbrev pub ViewsRound : Row → Row → Type 0
  ViewsRound old new = AllZip IsViewed old.entries new.entries × (new.cut ≡ old.cut)
