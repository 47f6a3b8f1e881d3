-- What is served by a counter over the desk of a book and a store.
use Rattle.std.specs.Prelude.{◌≡◌, ℕ, List, Option, Result, Vec, Ok, Err}
use Rattle.fare_book.specs.Book.{BookState}
use Rattle.fare_book.specs.Reopens.{Told}
use Rattle.fare_http.specs.declared.reply.Reply.{Reply}
use Rattle.fare_desk.specs.Publishing.{DeskState, state}
use Rattle.fare_counter.specs.Counter.{IsCounterStep}
use Rattle.fare_serve.specs.declared.serve_fault.ServeFault.{ServeFault}
use Rattle.fare_serve.specs.declared.serve_fault.ServeFault.TheVariants as fault
use Rattle.fare_serve.specs.Service.{DoorState, ServesAll, ServesSome}

-- a request is one step of the counter, from what its desk is before to what it is behind it
abbrev pub CounterStep : DeskState → List ℕ → List ℕ → List ℕ → Option Reply → DeskState → Type 0
CounterStep old method path body reply new = IsCounterStep old new method path body reply

-- what the door and the store tell: the door, the bodies, and the store's count of failures
pub record World : Type 0 where
  pub door : DoorState
  pub bodies : Told
  pub faults : ℕ

-- the same by its parts
abbrev pub world_of : DoorState → Told → ℕ → World
world_of door bodies faults = record { door = door; bodies = bodies; faults = faults }

module _ (count most port : ℕ) (first : BookState) (old new : World) where
  -- a counter over the desk of this book and these bodies served all connections at this port, and this is the summary
  abbrev pub CounterServesAll : List ℕ → Type 0
  CounterServesAll text =
      (last : BookState)
      × ServesAll CounterStep count most port (state first old.bodies old.faults) (state last new.bodies new.faults)
      old.door new.door text

  -- it served some connections, or none
  abbrev pub CounterServesSome : Type 0
  CounterServesSome =
      (last : BookState)
      × ServesSome CounterStep count most port (state first old.bodies old.faults) (state last new.bodies new.faults)
      old.door new.door

  -- what is made of the book of an open store, by the answer: some connections are served where the door fails, and
  -- where memory was wanting the door and the store are as they were
  abbrev pub ServesBook : {A : Type 0} → Result (Vec ℕ A) ServeFault → Type 0
  ServesBook (Ok text) = CounterServesAll text.items
  ServesBook (Err fault.Door) = CounterServesSome
  ServesBook (Err fault.Memory) = new ≡ old
