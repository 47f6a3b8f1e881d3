-- Direction: which parts are priced back.
use Rattle.std.specs.Prelude.{ℕ, Bool, not, List, ◌==◌, ◌&&◌, ◌||◌}
use Rattle.fare_trip.specs.Itinerary.{Itinerary}
use Rattle.fare_tariff.specs.Tariff.{Tariff}
use Rattle.fare_rules.specs.declared.part.Part.{Part}
use Rattle.fare_rules.specs.Construction.{own, unit_of, origin, last_of, start_city, end_city}
use Rattle.fare_rules.specs.Shape.{is_hr, lie_together}

-- a part ends in the country of its unit's origin and begins in another
abbrev pub heads_home : Tariff → Itinerary → List Part → List ℕ → ℕ → Bool
heads_home tariff trip parts own k =
    lie_together tariff (end_city trip parts k) (origin trip parts own)
    && not (lie_together tariff (start_city trip parts k) (origin trip parts own))

-- a part of a unit of half round trips is priced back where it is the unit's last, or heads home
abbrev pub goes_back : Tariff → Itinerary → List Part → List ℕ → ℕ → Bool
goes_back tariff trip parts own k = (k == last_of own) || heads_home tariff trip parts own k

-- a part is priced back, by whether its unit is one of half round trips
unfoldable pub priced_back : Tariff → Itinerary → List Part → Bool → ℕ → Bool
priced_back tariff trip parts hr k = hr && goes_back tariff trip parts (own parts (unit_of parts k)) k

-- a part of the unit of some places is priced back
unfoldable pub is_back_in : Tariff → Itinerary → List Part → List ℕ → ℕ → Bool
is_back_in tariff trip parts own k = is_hr tariff parts own && goes_back tariff trip parts own k

-- a part is priced back in its unit
abbrev pub is_back : Tariff → Itinerary → List Part → ℕ → Bool
is_back tariff trip parts k = is_back_in tariff trip parts (own parts (unit_of parts k)) k
