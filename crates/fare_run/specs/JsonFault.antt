-- The fault of an end that has a form in JSON.
use Rattle.std.specs.Prelude.{ℕ, Bool, true, false, List, [], Option, Some, None}
use Rattle.fare_sentences.specs.declared.fault.Fault.{Fault}
use Rattle.fare_sentences.specs.declared.fault.Fault.TheVariants as fault
use Rattle.fare_json.specs.FaultData.{fault_data}
use Rattle.fare_json.specs.JsonText.{json_line}
use Rattle.fare_commands.specs.declared.exit.Exit.{Exit}
use Rattle.fare_commands.specs.declared.exit.Exit.TheVariants as ended

-- the fault of an end, with the most bytes that the source may hold. The first fault of a tariff text is told with that
-- text
abbrev pub fault_of : ℕ → Exit → Option Fault
fault_of most (ended.BadTrip trip) = Some (fault.Trip trip)
fault_of most ended.Limit = Some (fault.SourceLimit most)
fault_of most (ended.NoEdition day) = Some (fault.NoEdition day)
fault_of most (ended.UnknownPlace city) = Some (fault.UnknownPlace city)
fault_of most ended.ReadFault = Some fault.ReadFault
fault_of most ended.KeeperFault = Some fault.KeeperFault
fault_of most (ended.Damaged place damage) = Some (fault.Damaged place damage)
fault_of most other = None

-- the text that tells a fault, where it is wanted in JSON
abbrev pub told_fault : Option Fault → Bool → List ℕ
told_fault None json = []
told_fault (Some one) false = []
told_fault (Some one) true = json_line (fault_data one)
