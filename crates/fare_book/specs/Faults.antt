-- The faults of a publication that come from its parts.
use Rattle.std.specs.Prelude.{◌≢◌, ⊤}
use Rattle.fare_csv.specs.declared.text_fault.TextFault.{TextFault}
use Rattle.fare_csv.specs.declared.text_fault.TextFault.TheVariants as tariff
use Rattle.fare_book.specs.declared.restore_fault.RestoreFault.{RestoreFault}
use Rattle.fare_book.specs.declared.restore_fault.RestoreFault.TheVariants as restoring
use Rattle.fare_book.specs.declared.publish_fault.PublishFault.{PublishFault}
use Rattle.fare_book.specs.declared.publish_fault.PublishFault.TheVariants.{Memory, Malformed, Differs, Full}
use Rattle.fare_book.specs.declared.publish_fault.PublishFault.TheVariants.{KeeperFault, Damaged}
use Rattle.fare_book.specs.Restored.{IsDamage}

-- a fault of the reopening keeps its kind
abbrev pub reopening_fault : RestoreFault → PublishFault
reopening_fault restoring.Memory = Memory
reopening_fault restoring.KeeperFault = KeeperFault
reopening_fault (restoring.Damaged place damage) = Damaged place damage

-- a fault of the text is carried, and want of memory is want of memory
abbrev pub text_fault : TextFault → PublishFault
text_fault tariff.Memory = Memory
text_fault fault = Malformed fault

-- a fault carries no want of memory
abbrev pub CarriesFault : PublishFault → Type 0
CarriesFault Memory = ⊤
CarriesFault (Malformed fault) = fault ≢ tariff.Memory
CarriesFault (Differs number) = ⊤
CarriesFault Full = ⊤
CarriesFault KeeperFault = ⊤
CarriesFault (Damaged place damage) = IsDamage damage
