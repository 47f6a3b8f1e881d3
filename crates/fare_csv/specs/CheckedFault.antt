-- The fault of a record among the others, as the fault of a text.
use Rattle.fare_tariff.specs.declared.check.check_fault.CheckFault.{CheckFault}
use Rattle.fare_tariff.specs.declared.check.check_fault.CheckFault.TheVariants as found
use Rattle.fare_csv.specs.declared.text_fault.TextFault.{TextFault}
use Rattle.fare_csv.specs.declared.text_fault.TextFault.TheVariants.{Memory, Check}

-- the record's number and kind are kept
abbrev pub checked_fault : CheckFault → TextFault
checked_fault found.Memory = Memory
checked_fault (found.At number kind) = Check number kind
