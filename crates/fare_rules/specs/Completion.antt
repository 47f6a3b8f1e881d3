-- Completions of a list of parts, and the first parts that a construction can have.
use Rattle.std.specs.Prelude.{◌≡◌, ℕ, ◌+◌, Bool, false, List, ◌++◌, map, filter, flat_map, length, is_some}
use Rattle.fare_trip.specs.Itinerary.{Itinerary, count}
use Rattle.fare_tariff.specs.Tariff.{Tariff}
use Rattle.fare_rules.specs.declared.part.Part.{Part}
use Rattle.fare_rules.specs.Numbers.{numbers, numbers_down}
use Rattle.fare_rules.specs.ComponentAmount.{component_amount}
use Rattle.fare_rules.specs.Best.{IsLawful}

-- a construction with its price completes a list of parts: it is lawful, and they are its first parts
pub record IsCompletion (tariff : Tariff) (trip : Itinerary) (first parts : List Part) (price : ℕ) : Type 0 where
  pub lawful : IsLawful tariff trip parts price
  pub begins : (rest : List Part) × (parts ≡ first ++ rest)

-- the end of a first part, and the record number of its fare
abbrev pub Choice : Type 0
Choice = ℕ × ℕ

-- an end with a record number
abbrev pub choice : ℕ → ℕ → Choice
choice end number = (end, number)

-- the record numbers of an edition: HEAD is record 1
abbrev pub record_numbers : Tariff → List ℕ
record_numbers tariff = numbers 2 (length tariff.records + 2)

-- a fare may be used from the trip's first point to another, priced out
abbrev pub may_begin : Tariff → Itinerary → ℕ → ℕ → Bool
may_begin tariff trip end number = is_some (component_amount tariff trip 0 end number false)

-- the choices that end at a point, by their record number
abbrev pub choices_to : Tariff → Itinerary → ℕ → List Choice
choices_to tariff trip end = map (choice end) (filter (may_begin tariff trip end) (record_numbers tariff))

-- the first-part choices: each end with each fare that may be used up to there, by greater end and then by record
-- number
unfoldable pub first_part_choices : Tariff → Itinerary → List Choice
first_part_choices tariff trip = flat_map (choices_to tariff trip) (numbers_down (count trip))
