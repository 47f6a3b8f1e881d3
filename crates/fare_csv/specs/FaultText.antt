-- The line that tells what is wrong with a tariff text.
use Rattle.std.specs.Prelude.{ℕ, List, [], ◌++◌, codes, decimal}
use Rattle.fare_tariff.specs.declared.check.check_kind.CheckKind.{CheckKind}
use Rattle.fare_tariff.specs.declared.check.check_kind.CheckKind.TheVariants as kind
use Rattle.fare_csv.specs.declared.text_fault.TextFault.{TextFault}
use Rattle.fare_csv.specs.declared.text_fault.TextFault.TheVariants as fault

-- the name of a check kind, and the first record for two of them
abbrev pub kind_words : CheckKind → List ℕ
kind_words (kind.Duplicate first) = codes "Duplicate " ++ decimal first
kind_words kind.UnknownCity = codes "UnknownCity"
kind_words kind.UnknownRule = codes "UnknownRule"
kind_words kind.UnknownCurrency = codes "UnknownCurrency"
kind_words kind.TooManyFares = codes "TooManyFares"
kind_words kind.SamePoint = codes "SamePoint"
kind_words kind.ZeroMileage = codes "ZeroMileage"
kind_words kind.OutOfLimit = codes "OutOfLimit"
kind_words (kind.Overlap first) = codes "Overlap " ++ decimal first

-- the number of a record, a space, and what is wrong with it
abbrev pub of_record : ℕ → List ℕ → List ℕ
of_record number words = decimal number ++ codes " " ++ words

-- what is wrong with a text: a record's number and the fault's name with its further number; empty for want of memory
abbrev pub fault_words : TextFault → List ℕ
fault_words fault.Memory = []
fault_words fault.NoHeader = of_record 1 (codes "NoHeader")
fault_words (fault.UnknownRecord number) = of_record number (codes "UnknownRecord")
fault_words (fault.BadRecord number field) = of_record number (codes "BadRecord " ++ decimal field)
fault_words (fault.AfterEnd number) = of_record number (codes "AfterEnd")
fault_words (fault.NoEnd number) = of_record number (codes "NoEnd")
fault_words (fault.Check number kind) = of_record number (kind_words kind)

-- the text of a fault, without the LF that ends its line: TARIFF and what is wrong; empty for want of memory
abbrev pub fault_text : TextFault → List ℕ
fault_text fault.Memory = []
fault_text found = codes "TARIFF " ++ fault_words found
