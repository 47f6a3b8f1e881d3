-- Counts that a reader takes as numbers: those of 64 bits. The counts of an answer are of 32 by the types of the code.
use Rattle.std.specs.Prelude.{ℕ, ◌<◌, length}
use Rattle.fare_tariff.specs.Tariff.{Tariff}
use Rattle.fare_rules.specs.declared.miles.Mileage.{Mileage}
use Rattle.fare_rules.specs.declared.miles.Mileage.TheVariants.{Direct, Within, Excess, NoTpm, NoMpm, Over}
use Rattle.fare_rules.specs.declared.miles.Miles.{Miles}
use Rattle.fare_audit.specs.declared.verdict.Verdict.{Verdict}
use Rattle.fare_audit.specs.declared.verdict.Verdict.TheVariants.{OtherTrip, NoRecord, Broken, Figures, Lawful}
use Rattle.fare_calc.specs.declared.part_sheet.PartSheet.{PartSheet}

-- a count of 64 bits
abbrev pub IsCount : ℕ → Type 0
IsCount n = n < 18446744073709551616

-- the counts of miles
abbrev pub AreMilesCounts : Miles → Type 0
AreMilesCounts miles = IsCount miles.allowance × IsCount miles.mpm × IsCount miles.net × IsCount miles.sum

-- the counts of a mileage, as far as an answer tells them
abbrev pub AreMileageCounts : Mileage → Type 0
AreMileageCounts Direct = Unit {0}
AreMileageCounts (Within miles) = AreMilesCounts miles
AreMileageCounts (Excess step miles) = IsCount step × AreMilesCounts miles
AreMileageCounts (NoTpm sector) = Unit {0}
AreMileageCounts NoMpm = Unit {0}
AreMileageCounts (Over miles) = Unit {0}

-- the counts of a part: its record, its miles, its sectors and its unit
pub record ArePartCounts (sheet : PartSheet) : Type 0 where
  pub record_number : IsCount sheet.number
  pub miles : AreMileageCounts sheet.mileage
  pub sectors : sheet.end < 256
  pub unit : IsCount sheet.unit

-- the counts of an edition: its number, and how many records it has
abbrev pub AreEditionCounts : Tariff → Type 0
AreEditionCounts tariff = IsCount tariff.number × IsCount (length tariff.records)

-- the counts of a verdict
abbrev pub AreVerdictCounts : Verdict → Type 0
AreVerdictCounts (OtherTrip sector) = IsCount sector
AreVerdictCounts (NoRecord place) = IsCount place
AreVerdictCounts (Broken broken) = IsCount broken.place × IsCount broken.rule
AreVerdictCounts (Figures place) = IsCount place
AreVerdictCounts (Lawful price over) = Unit {0}
