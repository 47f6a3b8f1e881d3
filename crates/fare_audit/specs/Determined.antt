-- What it is that a list of parts is the construction of a line.
use Rattle.std.specs.Prelude.{◌≡◌, ◌≤◌, ℕ, ◌-◌, List, length, map, slice_get, IsSomeAnd}
use Rattle.fare_trip.specs.Itinerary.{Itinerary}
use Rattle.fare_tariff.specs.Filed.{FilesFareOn}
use Rattle.fare_tariff.specs.Tariff.{Tariff}
use Rattle.fare_rules.specs.declared.part.Part.{Part}
use Rattle.fare_rules.specs.Construction.{part_at}
use Rattle.fare_line.specs.Line.{CalculationLine}
use Rattle.fare_audit.specs.Filing.{bare_parts, key_of, season_day}

-- a part without its fare
abbrev pub without_fare : Part → Part
without_fare part = record { end = part.end; unit = part.unit; fare = 0 }

-- a record files the FARE of the part at a place: one with the part's key whose season holds the day of the part's
-- first sector
abbrev pub FilesPart : Tariff → Itinerary → CalculationLine → ℕ → ℕ → Type 0
FilesPart tariff trip line k number =
    IsSomeAnd (slice_get line.parts (k - 1))
    (λ part. FilesFareOn tariff (key_of tariff trip line k part) (season_day trip line k) number)

-- a list of parts has the ends and units of a line, and for each part a record that files its FARE
pub record IsConstructionOf (tariff : Tariff) (trip : Itinerary) (line : CalculationLine) (parts : List Part)
    : Type 0 where
  pub bare : map without_fare parts ≡ bare_parts line
  pub filed : (k : ℕ) → 1 ≤ k → k ≤ length parts → FilesPart tariff trip line k (part_at parts k).fare
