-- What a command uses: the source, the store, the door. Nothing stands for words that give no command.
use Rattle.std.specs.Prelude.{Option, Some, None, IfSome, ⊤}
use Rattle.fare_words.specs.WithinLimits.{IsWithinLimits}
use Rattle.fare_words.specs.declared.command.Command.{Command}
use Rattle.fare_words.specs.declared.command.Command.TheVariants as command

-- the source isn't read: only `price`, `publish`, `quote`, `check` and `compare` read it
abbrev pub LeavesSource : Option Command → Type 0
LeavesSource (Some (command.Price workers asked json)) = ⊥
LeavesSource (Some (command.Publish store)) = ⊥
LeavesSource (Some (command.Quote store workers asked json)) = ⊥
LeavesSource (Some command.Check) = ⊥
LeavesSource (Some (command.Compare store from to workers)) = ⊥
LeavesSource other = ⊤

-- the store isn't touched: only the commands that name one touch it
abbrev pub LeavesStore : Option Command → Type 0
LeavesStore (Some (command.Publish store)) = ⊥
LeavesStore (Some (command.List store json)) = ⊥
LeavesStore (Some (command.Export store edition)) = ⊥
LeavesStore (Some (command.Quote store workers asked json)) = ⊥
LeavesStore (Some (command.Serve store port count workers round)) = ⊥
LeavesStore (Some (command.Migrate store)) = ⊥
LeavesStore (Some (command.Diff store from to)) = ⊥
LeavesStore (Some (command.Compare store from to workers)) = ⊥
LeavesStore other = ⊤

-- connections are let in: only `serve` lets them in
abbrev pub UsesDoor : Option Command → Type 0
UsesDoor (Some (command.Serve store port count workers round)) = ⊤
UsesDoor other = ⊥

-- the door isn't touched
abbrev pub LeavesDoor : Option Command → Type 0
LeavesDoor (Some (command.Serve store port count workers round)) = ⊥
LeavesDoor other = ⊤

-- the numbers of a command are within their limits
abbrev pub IsWithin : Option Command → Type 0
IsWithin asked = IfSome asked IsWithinLimits

-- there is a text for an answer: the words are taken
abbrev pub HasText : Option Command → Type 0
HasText None = ⊥
HasText (Some command) = ⊤
