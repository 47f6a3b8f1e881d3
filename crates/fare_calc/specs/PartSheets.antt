-- How the parts of a construction are priced, as the line and the worksheet tell it.
use Rattle.std.specs.Prelude.{ℕ, ◌+◌, ◌-◌, Bool, List, Option, Some, None, option_map, option_and_then, nat_le}
use Rattle.std.specs.Prelude.{filter_map}
use Rattle.std.specs.Prelude.{if◌then◌else◌}
use Rattle.fare_codes.specs.declared.city.City.{City}
use Rattle.fare_codes.specs.declared.nuc.Nuc.{Nuc}
use Rattle.fare_trip.specs.Itinerary.{Itinerary, point}
use Rattle.fare_tariff.specs.Record.{FareRecord, CurrencyRecord}
use Rattle.fare_tariff.specs.Tariff.{Tariff}
use Rattle.fare_tariff.specs.Lookup.{currency_of}
use Rattle.fare_rules.specs.declared.miles.Mileage.{Mileage}
use Rattle.fare_rules.specs.declared.part.Part.{Part}
use Rattle.fare_rules.specs.Span.{is_surface}
use Rattle.fare_rules.specs.Indicator.{country, indicator}
use Rattle.fare_rules.specs.Mileage.{mileage}
use Rattle.fare_rules.specs.Base.{Compared, higher}
use Rattle.fare_rules.specs.Construction.{places, part_at, start_of, end_of, unit_of, fare_of, start_city, end_city}
use Rattle.fare_rules.specs.Construction.{own}
use Rattle.fare_rules.specs.Direction.{is_back}
use Rattle.fare_rules.specs.UnitPrice.{part_cost}
use Rattle.fare_calc.specs.declared.part_sheet.PartSheet.{PartSheet}

-- the surface sector that begins at a point, where there is one, leads to a city
abbrev pub gap_after : Itinerary → ℕ → Option City
gap_after trip e = if is_surface trip (e + 1) then Some (point trip (e + 1)) else None

-- the first part has no surface sector before it; each other one has that which begins where the part before it ends
abbrev pub gap_before : Itinerary → List Part → ℕ → Option City
gap_before trip parts k = if nat_le k 1 then None else gap_after trip (end_of parts (k - 1))

-- a higher intermediate point as its two cities in fare direction, the later one first where the part is priced back
abbrev pub in_fare_direction : Itinerary → Bool → Compared → City × City × Nuc
in_fare_direction trip back found =
    if back then (point trip found.1, point trip found.0, found.2)
    else (point trip found.0, point trip found.1, found.2)

-- the mileage of a part, for the indicator of its sectors
abbrev pub part_mileage : Tariff → Itinerary → List Part → ℕ → Mileage
part_mileage tariff trip parts k =
    mileage tariff trip (start_of trip parts k) (end_of parts k)
    (indicator tariff trip (start_of trip parts k) (end_of parts k))

-- the higher intermediate point of a part for a fare, in fare direction
abbrev pub part_higher : Tariff → Itinerary → List Part → ℕ → FareRecord → Option (City × City × Nuc)
part_higher tariff trip parts k fare =
    option_map (in_fare_direction trip (is_back tariff trip parts k))
    (higher tariff trip (start_of trip parts k) (end_of parts k) fare (is_back tariff trip parts k))

-- the sheet of a part with its fare
unfoldable pub sheet_with : Tariff → Itinerary → List Part → ℕ → FareRecord → PartSheet
sheet_with tariff trip parts k fare = record {
  place = k;
  from = start_city trip parts k;
  to = end_city trip parts k;
  start = start_of trip parts k;
  end = end_of parts k;
  gap = gap_before trip parts k;
  unit = unit_of parts k;
  number = (part_at parts k).fare;
  fare = fare;
  back = is_back tariff trip parts k;
  mileage = part_mileage tariff trip parts k;
  higher = part_higher tariff trip parts k fare;
  amount = part_cost tariff trip parts (own parts (unit_of parts k)) k;
}

-- the sheet of a part, where its fare is filed
abbrev pub sheet_of_part : Tariff → Itinerary → List Part → ℕ → Option PartSheet
sheet_of_part tariff trip parts k = option_map (sheet_with tariff trip parts k) (fare_of tariff parts k)

-- the sheets of the parts of a construction, in their order
abbrev pub part_sheets : Tariff → Itinerary → List Part → List PartSheet
part_sheets tariff trip parts = filter_map (sheet_of_part tariff trip parts) (places parts)

-- the currency of the country where the trip begins
abbrev pub home_currency : Tariff → Itinerary → Option CurrencyRecord
home_currency tariff trip = option_and_then (currency_of tariff) (country tariff (point trip 0))
