-- Units to which no part can come any more, whatever follows.
use Rattle.std.specs.Prelude.{ℕ, Bool, false, List, [], ◌∷◌, Option, Some, None, is_none, ◌&&◌, ◌||◌}
use Rattle.std.specs.Prelude.{if◌then◌else◌}
use Rattle.std.specs.List.{list_any}
use Rattle.fare_trip.specs.Itinerary.{Itinerary}
use Rattle.fare_tariff.specs.Tariff.{Tariff}
use Rattle.fare_rules.specs.declared.part.Part.{Part}
use Rattle.fare_rules.specs.Construction.{own, start_city, end_city}
use Rattle.fare_rules.specs.Shape.{holds_ow, closes, is_only_gap}
use Rattle.fare_rules.specs.UnitPrice.{unit_price, part_amount}

-- a unit is an open jaw whose gap lies before its second part
abbrev pub has_gap_before : Tariff → Itinerary → List Part → List ℕ → Bool
has_gap_before tariff trip parts [] = false
has_gap_before tariff trip parts (k ∷ []) = false
has_gap_before tariff trip parts (k ∷ next ∷ []) =
    is_only_gap tariff
    (end_city trip parts k) (start_city trip parts next) (end_city trip parts next) (start_city trip parts k)
has_gap_before tariff trip parts (k ∷ next ∷ third ∷ rest) = false

-- a unit is shut: it holds a one way fare, or closes, or is an open jaw whose gap lies before its second part
unfoldable pub is_shut : Tariff → Itinerary → List Part → List ℕ → Bool
is_shut tariff trip parts own =
    holds_ow tariff parts own || closes trip parts own || has_gap_before tariff trip parts own

-- the price of a unit, where it is shut
abbrev pub shut_price : Tariff → Itinerary → List Part → ℕ → Option ℕ
shut_price tariff trip parts unit =
    if is_shut tariff trip parts (own parts unit) then Some (unit_price tariff trip parts unit) else None

-- a part of a unit has no amount in its direction
abbrev pub has_no_amount : Tariff → Itinerary → List Part → List ℕ → ℕ → Bool
has_no_amount tariff trip parts own k = is_none (part_amount tariff trip parts own k)

-- some part of a unit has no amount in its direction
abbrev pub lacks_amount : Tariff → Itinerary → List Part → List ℕ → Bool
lacks_amount tariff trip parts own = list_any (has_no_amount tariff trip parts own) own

-- a unit is shut, and yet has no price
abbrev pub is_priceless : Tariff → Itinerary → List Part → ℕ → Bool
is_priceless tariff trip parts unit =
    is_shut tariff trip parts (own parts unit) && lacks_amount tariff trip parts (own parts unit)
