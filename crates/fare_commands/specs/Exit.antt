-- The statuses of the program.
use Rattle.std.specs.Prelude.{ℕ}
use Rattle.fare_commands.specs.declared.exit.Exit.{Exit}
use Rattle.fare_commands.specs.declared.exit.Exit.TheVariants as ended

-- the status of what a run ended in
abbrev pub status_of : Exit → ℕ
status_of ended.Done = 0
status_of ended.Usage = 2
status_of (ended.BadTariff fault) = 3
status_of (ended.BadTrip fault) = 4
status_of ended.Limit = 5
status_of (ended.NoEdition day) = 6
status_of (ended.UnknownPlace city) = 7
status_of ended.ReadFault = 8
status_of ended.WriteFault = 9
status_of ended.KeeperFault = 10
status_of ended.DoorFault = 11
status_of (ended.Differs number) = 12
status_of ended.BookFull = 13
status_of (ended.Damaged place damage) = 14
status_of (ended.NoSuch number) = 15
status_of ended.Memory = 20
