-- How a run ends, whatever happens to its reads, its writes and the calls of its store.
use Rattle.std.specs.Prelude.{◌≡◌, ◌≢◌, ◌⊎◌, ℕ, List, Option, Some, None, ⊤}
use Rattle.std.specs.Io.KnownBytes.{Appends}
use Rattle.fare_ports.specs.Keeper.{BodiesStay}
use Rattle.fare_ports.specs.Sink.{AppendsPrefix}
use Rattle.fare_words.specs.declared.command.Command.{Command}
use Rattle.fare_words.specs.declared.command.Command.TheVariants as command
use Rattle.fare_commands.specs.declared.exit.Exit.{Exit}
use Rattle.fare_commands.specs.declared.exit.Exit.TheVariants as ended
use Rattle.fare_commands.specs.Answer.{Answer, ExitAndText}
use Rattle.fare_ports.specs.declared.limits.TheConstants.{MOST_TEXT}
use Rattle.fare_commands.specs.declared.limits.TheConstants.{MOST_ITINERARY}
use Rattle.fare_commands.specs.Publication.{MayPublish, PublishesNothing}
use Rattle.fare_commands.specs.Readable.{HoldsBatch, HoldsItinerary, HoldsTariff}
use Rattle.fare_commands.specs.StoreOutcome.{Bodies, MayMigrate}
use Rattle.fare_run.specs.Refusal.{no_memory, outcome_by, refusal}

-- a call failed, of the source, the store or the door, which is what a run ended in
abbrev pub HasFailed : Type 0 → Type 0 → Type 0 → Exit → Type 0
HasFailed read kept served ended.ReadFault = read
HasFailed read kept served ended.KeeperFault = kept
HasFailed read kept served ended.DoorFault = served
HasFailed read kept served other = ⊥

-- what a command may come to: its outcome, the refusal of a call that failed, or want of memory
abbrev pub ComesTo : Option Command → (Exit → Type 0) → (Answer → Type 0) → ExitAndText → Type 0
ComesTo asked has_failed answers ending =
    ((answer : Answer) × answers answer × (ending ≡ outcome_by asked answer))
    ⊎ ((has_failed ending.exit × (ending ≡ refusal asked ending.exit)) ⊎ (ending ≡ no_memory))

-- the text of an outcome was written whole, and the run ended in its exit, or a write failed, and a prefix was written
abbrev pub Writes : ExitAndText → Exit → Option (List ℕ) → Option (List ℕ) → Type 0
Writes ending exit old new =
    ((exit ≡ ending.exit) × Appends old new ending.text)
    ⊎ ((exit ≡ ended.WriteFault) × AppendsPrefix old new ending.text)

-- a run wrote what it came to
abbrev pub EndsIn : (ExitAndText → Type 0) → Exit → Option (List ℕ) → Option (List ℕ) → Type 0
EndsIn comes exit old new = (ending : ExitAndText) × comes ending × Writes ending exit old new

-- an end on which nobody is served: every one but `Done`, `WriteFault` and `DoorFault`
abbrev pub ServesNobodyAt : Exit → Type 0
ServesNobodyAt ended.Done = ⊥
ServesNobodyAt ended.WriteFault = ⊥
ServesNobodyAt ended.DoorFault = ⊥
ServesNobodyAt other = ⊤

-- a migration isn't cut off by want of memory, which may be between two bodies
abbrev pub IsUncut : Option Command → Exit → Type 0
IsUncut (Some (command.Migrate store)) exit = exit ≢ ended.Memory
IsUncut other exit = ⊤

-- an end of a command on which the bodies stay: nothing is published, and no migration is cut off
abbrev pub LeavesBodiesAt : Option Command → Exit → Type 0
LeavesBodiesAt asked exit = PublishesNothing exit × IsUncut asked exit

-- the source of a command that also uses a store is within its limit and without a fault: a failure of the store comes
-- behind these
abbrev pub ReadsWell : Option Command → List ℕ → Type 0
ReadsWell (Some (command.Publish store)) source = HoldsTariff MOST_TEXT source
ReadsWell (Some (command.Quote store workers asked json)) source = HoldsItinerary MOST_ITINERARY source
ReadsWell (Some (command.Compare store from to workers)) source = HoldsBatch MOST_TEXT source
ReadsWell other source = ⊤

-- what a command does to the bodies: `publish` may add the text of the edition of its source, where that is told, what
-- `serve` may add is said by `EndsServing`, `migrate` may bring those at some first places into canonical spelling, and
-- every other one leaves them
abbrev pub LeavesBodies : Option Command → Option (List ℕ) → Bodies → Bodies → Type 0
LeavesBodies (Some (command.Publish store)) None old new = ⊤
LeavesBodies (Some (command.Publish store)) (Some source) old new = MayPublish source old new
LeavesBodies (Some (command.Serve store port count workers round)) source old new = ⊤
LeavesBodies (Some (command.Migrate store)) source old new = MayMigrate old new
LeavesBodies other source old new = BodiesStay old new
