-- The ends that each command can come to, whatever its source and its store hold and whether they tell it.
use Rattle.std.specs.Prelude.{Option, Some, None, ⊤}
use Rattle.fare_words.specs.declared.command.Command.{Command}
use Rattle.fare_words.specs.declared.command.Command.TheVariants as command
use Rattle.fare_commands.specs.declared.exit.Exit.{Exit}
use Rattle.fare_commands.specs.declared.exit.Exit.TheVariants as ended
use Rattle.fare_commands.specs.Ends.{IsRefusalOfCheck, IsRefusalOfCompare, IsRefusalOfDiff, IsRefusalOfDrill}
use Rattle.fare_commands.specs.Ends.{IsRefusalOfExport, IsRefusalOfList, IsRefusalOfMigrate, IsRefusalOfPrice}
use Rattle.fare_commands.specs.Ends.{IsRefusalOfPublish, IsRefusalOfQuote}
use Rattle.fare_run.specs.Uses.{HasText}

-- an end of `serve` without its text
abbrev pub IsRefusalOfServe : Exit → Type 0
IsRefusalOfServe ended.KeeperFault = ⊤
IsRefusalOfServe (ended.Damaged place damage) = ⊤
IsRefusalOfServe ended.DoorFault = ⊤
IsRefusalOfServe ended.Memory = ⊤
IsRefusalOfServe other = ⊥

-- an end of words that aren't taken
abbrev pub IsRefusalOfNothing : Exit → Type 0
IsRefusalOfNothing ended.Usage = ⊤
IsRefusalOfNothing ended.Memory = ⊤
IsRefusalOfNothing other = ⊥

-- an end of a command without its text
abbrev pub IsRefusalOf : Option Command → Exit → Type 0
IsRefusalOf (Some (command.Price workers asked json)) exit = IsRefusalOfPrice exit
IsRefusalOf (Some (command.Publish store)) exit = IsRefusalOfPublish exit
IsRefusalOf (Some (command.List store json)) exit = IsRefusalOfList exit
IsRefusalOf (Some (command.Export store edition)) exit = IsRefusalOfExport exit
IsRefusalOf (Some (command.Quote store workers asked json)) exit = IsRefusalOfQuote exit
IsRefusalOf (Some (command.Drill seed sectors extra workers)) exit = IsRefusalOfDrill exit
IsRefusalOf (Some (command.Serve store port count workers round)) exit = IsRefusalOfServe exit
IsRefusalOf (Some (command.Migrate store)) exit = IsRefusalOfMigrate exit
IsRefusalOf (Some command.Check) exit = IsRefusalOfCheck exit
IsRefusalOf (Some (command.Diff store from to)) exit = IsRefusalOfDiff exit
IsRefusalOf (Some (command.Compare store from to workers)) exit = IsRefusalOfCompare exit
IsRefusalOf None exit = IsRefusalOfNothing exit

-- an end of a command before its text is written: `Done` where it has one
abbrev pub IsEndBefore : Option Command → Exit → Type 0
IsEndBefore asked ended.Done = HasText asked
IsEndBefore asked exit = IsRefusalOf asked exit

-- an end of a command: `Done` and `WriteFault` where it has a text
abbrev pub IsEndOf : Option Command → Exit → Type 0
IsEndOf asked ended.Done = HasText asked
IsEndOf asked ended.WriteFault = HasText asked
IsEndOf asked exit = IsRefusalOf asked exit
