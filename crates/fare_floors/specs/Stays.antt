-- Stays: whether the rules of a unit's parts allow a stay.
use Rattle.std.specs.Prelude.{ℕ, Bool, List}
use Rattle.std.specs.List.{list_any}
use Rattle.fare_trip.specs.Itinerary.{Itinerary}
use Rattle.fare_tariff.specs.Tariff.{Tariff}
use Rattle.fare_rules.specs.declared.part.Part.{Part}
use Rattle.fare_rules.specs.Construction.{own}
use Rattle.fare_rules.specs.UnitRules.{forbids_stay, stay}

-- the rule of some part of a unit does not allow a stay
abbrev pub forbids_any : Tariff → List Part → ℕ → ℕ → Bool
forbids_any tariff parts unit days = list_any (forbids_stay tariff parts days) (own parts unit)

-- the rule of one of the parts at some places does not allow the stay that these have
abbrev pub is_outside : Tariff → Itinerary → List Part → List ℕ → Bool
is_outside tariff trip parts own = list_any (forbids_stay tariff parts (stay trip parts own)) own
