-- What `serve` does with its store and its door: rounds of connections over the book of the store.
use Rattle.std.specs.Prelude.{◌≡◌, ℕ, List, Option, Some, Ok, Err, true, ⊤}
use Rattle.std.specs.Io.KnownBytes.{Appends}
use Rattle.fare_words.specs.declared.command.Command.{Command}
use Rattle.fare_words.specs.declared.command.Command.TheVariants as command
use Rattle.fare_ports.specs.Keeper.{BodiesStay, WhereTold}
use Rattle.fare_ports.specs.Sink.{AppendsPrefix}
use Rattle.fare_book.specs.Book.{BookState}
use Rattle.fare_serve.specs.Desk.{CounterServesAll, CounterServesSome, World, world_of}
use Rattle.fare_commands.specs.declared.exit.Exit.{Exit}
use Rattle.fare_commands.specs.declared.exit.Exit.TheVariants as ended
use Rattle.fare_commands.specs.Answer.{Answer, ExitAndText}
use Rattle.fare_commands.specs.StoreOutcome.{Told}
use Rattle.fare_commands.specs.StoreSteps.{AreStored, IsEndOfOpening}

-- the door is as it was, and so are the bodies
pub record ServesNobody (old new : World) : Type 0 where
  pub door : new.door ≡ old.door
  pub bodies : WhereTold old.bodies new.bodies BodiesStay

-- a store was opened, which left its bodies, and a settled book of its editions restored; this holds of that book, and
-- of what was told then
pub record Opens (old : World) (Serves : BookState → World → Type 0) : Type 0 where
  pub bodies : Told
  pub faults : ℕ
  pub book : BookState
  pub stay : WhereTold old.bodies bodies BodiesStay
  pub settled : book.settled ≡ true
  pub stored : AreStored bodies book.editions
  pub serves : Serves book (world_of old.door bodies faults)

module _ (count most port : ℕ) (old new : World) where
  -- the store was opened, all connections were served at this port, and this is the summary
  abbrev pub OpensToAll : List ℕ → Type 0
  OpensToAll text = Opens old (λ book opened. CounterServesAll count most port book opened new text)

  -- the store was opened, and some connections were served at this port, or none
  abbrev pub OpensToSome : Type 0
  OpensToSome = Opens old (λ book opened. CounterServesSome count most port book opened new)

  -- nobody was served: a call of the store failed, its bodies are damaged, or memory was wanting
  abbrev pub OpensToNobody : Exit → Type 0
  OpensToNobody exit = ServesNobody old new × IsEndOfOpening new.bodies exit

  -- what `serve` makes of its store and its door, by its answer: some connections are served where the door fails, and
  -- nobody where anything else refuses
  abbrev pub ServesStore : Answer → Type 0
  ServesStore (Ok ending) = (ending.exit ≡ ended.Done) × OpensToAll ending.text
  ServesStore (Err ended.DoorFault) = OpensToSome
  ServesStore (Err other) = OpensToNobody other

  -- what `serve` makes of its store and its door, by the exit and the text that it comes to
  abbrev pub ComesServe : Exit → List ℕ → Type 0
  ComesServe ended.Done text = OpensToAll text
  ComesServe ended.DoorFault text = OpensToSome
  ComesServe other text = OpensToNobody other

  -- what a run of `serve` makes of its store, its door and its sink: on `Done` the summary is written whole, and on
  -- `WriteFault` a prefix of it
  abbrev pub EndsServe : Exit → Option (List ℕ) → Option (List ℕ) → Type 0
  EndsServe ended.Done before after = (text : List ℕ) × OpensToAll text × Appends before after text
  EndsServe ended.WriteFault before after = (text : List ℕ) × OpensToAll text × AppendsPrefix before after text
  EndsServe ended.DoorFault before after = OpensToSome
  EndsServe other before after = OpensToNobody other

-- what a command makes of the store and the door, by its answer; only `serve` is spoken of
abbrev pub ServesCommand : Option Command → World → World → Answer → Type 0
ServesCommand (Some (command.Serve store port count workers round)) old new result =
    ServesStore count round port old new result
ServesCommand other old new result = ⊤

-- what a command makes of the store and the door, by what it comes to; only `serve` is spoken of
abbrev pub ComesServing : Option Command → World → World → ExitAndText → Type 0
ComesServing (Some (command.Serve store port count workers round)) old new ending =
    ComesServe count round port old new ending.exit ending.text
ComesServing other old new ending = ⊤

-- what a run makes of the store, the door and the sink; only `serve` is spoken of
abbrev pub EndsServing : Option Command → World → World → Exit → Option (List ℕ) → Option (List ℕ) → Type 0
EndsServing (Some (command.Serve store port count workers round)) old new exit before after =
    EndsServe count round port old new exit before after
EndsServing other old new exit before after = ⊤
