-- The ends that each command can come to without its text, whatever its source and its store hold and whether they tell
-- it.
use Rattle.std.specs.Prelude.{⊤}
use Rattle.fare_commands.specs.declared.exit.Exit.{Exit}
use Rattle.fare_commands.specs.declared.exit.Exit.TheVariants as ended

-- an end of `price` without its text
abbrev pub IsRefusalOfPrice : Exit → Type 0
IsRefusalOfPrice (ended.BadTariff fault) = ⊤
IsRefusalOfPrice (ended.BadTrip fault) = ⊤
IsRefusalOfPrice ended.Limit = ⊤
IsRefusalOfPrice (ended.NoEdition day) = ⊤
IsRefusalOfPrice (ended.UnknownPlace city) = ⊤
IsRefusalOfPrice ended.ReadFault = ⊤
IsRefusalOfPrice ended.Memory = ⊤
IsRefusalOfPrice other = ⊥

-- an end of `publish` without its text
abbrev pub IsRefusalOfPublish : Exit → Type 0
IsRefusalOfPublish (ended.BadTariff fault) = ⊤
IsRefusalOfPublish ended.Limit = ⊤
IsRefusalOfPublish ended.ReadFault = ⊤
IsRefusalOfPublish ended.KeeperFault = ⊤
IsRefusalOfPublish (ended.Differs number) = ⊤
IsRefusalOfPublish ended.BookFull = ⊤
IsRefusalOfPublish (ended.Damaged place damage) = ⊤
IsRefusalOfPublish ended.Memory = ⊤
IsRefusalOfPublish other = ⊥

-- an end of `list` without its text
abbrev pub IsRefusalOfList : Exit → Type 0
IsRefusalOfList ended.KeeperFault = ⊤
IsRefusalOfList (ended.Damaged place damage) = ⊤
IsRefusalOfList ended.Memory = ⊤
IsRefusalOfList other = ⊥

-- an end of `export` without its text
abbrev pub IsRefusalOfExport : Exit → Type 0
IsRefusalOfExport ended.KeeperFault = ⊤
IsRefusalOfExport (ended.Damaged place damage) = ⊤
IsRefusalOfExport (ended.NoSuch number) = ⊤
IsRefusalOfExport ended.Memory = ⊤
IsRefusalOfExport other = ⊥

-- an end of `quote` without its text
abbrev pub IsRefusalOfQuote : Exit → Type 0
IsRefusalOfQuote (ended.BadTrip fault) = ⊤
IsRefusalOfQuote ended.Limit = ⊤
IsRefusalOfQuote (ended.NoEdition day) = ⊤
IsRefusalOfQuote (ended.UnknownPlace city) = ⊤
IsRefusalOfQuote ended.ReadFault = ⊤
IsRefusalOfQuote ended.KeeperFault = ⊤
IsRefusalOfQuote (ended.Damaged place damage) = ⊤
IsRefusalOfQuote ended.Memory = ⊤
IsRefusalOfQuote other = ⊥

-- an end of `drill` without its text
abbrev pub IsRefusalOfDrill : Exit → Type 0
IsRefusalOfDrill ended.Memory = ⊤
IsRefusalOfDrill other = ⊥

-- an end of `migrate` without its text
abbrev pub IsRefusalOfMigrate : Exit → Type 0
IsRefusalOfMigrate ended.KeeperFault = ⊤
IsRefusalOfMigrate (ended.Damaged place damage) = ⊤
IsRefusalOfMigrate ended.Memory = ⊤
IsRefusalOfMigrate other = ⊥

-- an end of `check` without a text of an edition
abbrev pub IsRefusalOfCheck : Exit → Type 0
IsRefusalOfCheck (ended.BadTariff fault) = ⊤
IsRefusalOfCheck ended.Limit = ⊤
IsRefusalOfCheck ended.ReadFault = ⊤
IsRefusalOfCheck ended.Memory = ⊤
IsRefusalOfCheck other = ⊥

-- an end of `diff` without its text
abbrev pub IsRefusalOfDiff : Exit → Type 0
IsRefusalOfDiff ended.KeeperFault = ⊤
IsRefusalOfDiff (ended.Damaged place damage) = ⊤
IsRefusalOfDiff (ended.NoSuch number) = ⊤
IsRefusalOfDiff ended.Memory = ⊤
IsRefusalOfDiff other = ⊥

-- an end of `compare` without its text
abbrev pub IsRefusalOfCompare : Exit → Type 0
IsRefusalOfCompare (ended.BadTrip fault) = ⊤
IsRefusalOfCompare ended.Limit = ⊤
IsRefusalOfCompare ended.ReadFault = ⊤
IsRefusalOfCompare ended.KeeperFault = ⊤
IsRefusalOfCompare (ended.Damaged place damage) = ⊤
IsRefusalOfCompare (ended.NoSuch number) = ⊤
IsRefusalOfCompare ended.Memory = ⊤
IsRefusalOfCompare other = ⊥
