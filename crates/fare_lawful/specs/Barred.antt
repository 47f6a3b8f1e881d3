-- What bars first parts of a construction from being gone on with: fares that do not combine, and a stay that a rule
-- does not allow.
use Rattle.std.specs.Prelude.{ℕ, Bool, List, length, ◌&&◌, ◌||◌}
use Rattle.fare_trip.specs.Itinerary.{Itinerary}
use Rattle.fare_tariff.specs.Tariff.{Tariff}
use Rattle.fare_rules.specs.declared.part.Part.{Part}
use Rattle.fare_rules.specs.Construction.{own}
use Rattle.fare_rules.specs.UnitRules.{has_misfit, clashes, is_mistimed}
use Rattle.fare_lawful.specs.Shut.{is_shut}

-- the last of some parts is not combinable with an earlier one: in its unit, or end on end with one of another unit
unfoldable pub is_uncombined : Tariff → List Part → Bool
is_uncombined tariff parts = has_misfit tariff parts (length parts) || clashes tariff parts (length parts)

-- a unit is shut, and its stay is outside the rule of one of its parts
unfoldable pub is_untimely : Tariff → Itinerary → List Part → ℕ → Bool
is_untimely tariff trip parts unit =
    is_shut tariff trip parts (own parts unit) && is_mistimed tariff trip parts unit
