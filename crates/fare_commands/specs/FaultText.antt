-- The line on standard error that says why a run ended.
use Rattle.std.specs.Prelude.{ℕ, List, [], ◌++◌, codes, decimal}
use Rattle.fare_book.specs.DamageText.{damage_text}
use Rattle.fare_csv.specs.FaultText.{fault_text as tariff_fault_text}
use Rattle.fare_trip.specs.FaultText.{fault_text as trip_fault_text}
use Rattle.fare_commands.specs.declared.exit.Exit.{Exit}
use Rattle.fare_commands.specs.declared.exit.Exit.TheVariants as ended

-- a line ends with LF
abbrev pub line : List ℕ → List ℕ
line words = words ++ codes "\n"

-- the line of what a run ended in; nothing for a run that wrote its answer
abbrev pub fault_line : Exit → List ℕ
fault_line ended.Done = []
fault_line ended.Usage = line (codes "USAGE")
fault_line (ended.BadTariff fault) = line (tariff_fault_text fault)
fault_line (ended.BadTrip fault) = line (trip_fault_text fault)
fault_line ended.Limit = line (codes "LIMIT")
fault_line (ended.NoEdition day) = line (codes "NO EDITION " ++ day)
fault_line (ended.UnknownPlace city) = line (codes "UNKNOWN PLACE " ++ city)
fault_line ended.ReadFault = line (codes "READ FAULT")
fault_line ended.WriteFault = line (codes "WRITE FAULT")
fault_line ended.KeeperFault = line (codes "KEEPER FAULT")
fault_line ended.DoorFault = line (codes "DOOR FAULT")
fault_line (ended.Differs number) = line (codes "DIFFERS " ++ decimal number)
fault_line ended.BookFull = line (codes "BOOK FULL")
fault_line (ended.Damaged place damage) = line (codes "DAMAGED " ++ decimal place ++ codes " " ++ damage_text damage)
fault_line (ended.NoSuch number) = line (codes "NO SUCH EDITION " ++ decimal number)
fault_line ended.Memory = line (codes "NO MEMORY")
