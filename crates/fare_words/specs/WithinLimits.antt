-- The limits of the numbers that a command holds.
use Rattle.std.specs.Prelude.{⊤}
use Rattle.fare_codes.specs.declared.limits.TheConstants.{LAST_EDITION, LAST_SEED, MOST_BEST, MOST_EXTRA, MOST_SECTORS}
use Rattle.fare_codes.specs.declared.limits.TheConstants.{MOST_WORKERS}
use Rattle.fare_ports.specs.declared.door.TheConstants.{MOST_HELD}
use Rattle.fare_words.specs.Limits.{IsBetween}
use Rattle.fare_words.specs.declared.limits.TheConstants.{MOST_COUNT, MOST_PORT}
use Rattle.fare_words.specs.declared.asked.Asked.{Asked}
use Rattle.fare_words.specs.declared.asked.Asked.TheVariants as ask
use Rattle.fare_words.specs.declared.command.Command.{Command}
use Rattle.fare_words.specs.declared.command.Command.TheVariants as command

-- so many constructions may be asked for
unfoldable pub IsFew : Asked → Type 0
IsFew ask.Quotation = ⊤
IsFew (ask.Best k) = IsBetween 1 MOST_BEST k
IsFew ask.Why = ⊤

-- every number of the command is within its limits
unfoldable pub IsWithinLimits : Command → Type 0
IsWithinLimits (command.Price workers asked json) = IsBetween 1 MOST_WORKERS workers × IsFew asked
IsWithinLimits (command.Publish store) = ⊤
IsWithinLimits (command.List store json) = ⊤
IsWithinLimits (command.Export store edition) = IsBetween 1 LAST_EDITION edition
IsWithinLimits (command.Quote store workers asked json) = IsBetween 1 MOST_WORKERS workers × IsFew asked
IsWithinLimits (command.Serve store port count workers round) =
    IsBetween 1 MOST_PORT port × IsBetween 1 MOST_COUNT count
    × IsBetween 1 MOST_WORKERS workers × IsBetween 1 MOST_HELD round
IsWithinLimits (command.Drill seed sectors extra workers) =
    IsBetween 0 LAST_SEED seed × IsBetween 1 MOST_SECTORS sectors
    × IsBetween 0 MOST_EXTRA extra × IsBetween 1 MOST_WORKERS workers
IsWithinLimits (command.Migrate store) = ⊤
IsWithinLimits command.Check = ⊤
IsWithinLimits (command.Diff store from to) = IsBetween 1 LAST_EDITION from × IsBetween 1 LAST_EDITION to
IsWithinLimits (command.Compare store from to workers) =
    IsBetween 1 LAST_EDITION from × IsBetween 1 LAST_EDITION to × IsBetween 1 MOST_WORKERS workers
