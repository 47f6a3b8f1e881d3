-- Crossings of oceans, and the global indicator of sectors.
use Rattle.std.specs.Prelude.{ℕ, ◌-◌, Bool, true, false, List, Option, Some, None, option_map, ◌&&◌}
use Rattle.std.specs.List.{list_any, list_all}
use Rattle.fare_codes.specs.declared.city.City.{City}
use Rattle.fare_codes.specs.declared.country.Country.{Country}
use Rattle.fare_codes.specs.declared.area.Area.{Area}
use Rattle.fare_codes.specs.declared.area.Area.TheVariants.{One, Two, Three}
use Rattle.fare_codes.specs.declared.over.Over.{Over}
use Rattle.fare_codes.specs.declared.over.Over.TheVariants as marked
use Rattle.fare_codes.specs.declared.indicator.Indicator.{Indicator}
use Rattle.fare_codes.specs.declared.indicator.Indicator.TheVariants.{WH, EH, AT, PA, AP}
use Rattle.fare_trip.specs.Itinerary.{Itinerary, sector, point}
use Rattle.fare_tariff.specs.Tariff.{Tariff}
use Rattle.fare_tariff.specs.Lookup.{city_record}
use Rattle.fare_rules.specs.Span.{sectors}

-- the area of a city
abbrev pub area : Tariff → City → Option Area
area tariff city = option_map (λ r. r.area) (city_record tariff city)

-- the country of a city
abbrev pub country : Tariff → City → Option Country
country tariff city = option_map (λ r. r.country) (city_record tariff city)

-- the ocean that lies between two areas, where the Atlantic is marked or not: 1 and 2 are divided by the Atlantic, 1
-- and 3 by the Atlantic where it is marked and else by the Pacific, and no other two by an ocean
abbrev pub ocean : Option Area → Option Area → Over → Option Indicator
ocean (Some One) (Some Two) over = Some AT
ocean (Some Two) (Some One) over = Some AT
ocean (Some One) (Some Three) marked.AT = Some AT
ocean (Some Three) (Some One) marked.AT = Some AT
ocean (Some One) (Some Three) _ = Some PA
ocean (Some Three) (Some One) _ = Some PA
ocean _ _ _ = None

-- the ocean that a sector crosses
abbrev pub crossing : Tariff → Itinerary → ℕ → Option Indicator
crossing tariff trip number =
    ocean (area tariff (point trip (number - 1))) (area tariff (point trip number)) (sector trip number).over

-- a crossing is that of the Atlantic
abbrev pub is_atlantic : Option Indicator → Bool
is_atlantic (Some AT) = true
is_atlantic _ = false

-- a crossing is that of the Pacific
abbrev pub is_pacific : Option Indicator → Bool
is_pacific (Some PA) = true
is_pacific _ = false

-- a sector crosses the Atlantic
abbrev pub crosses_atlantic : Tariff → Itinerary → ℕ → Bool
crosses_atlantic tariff trip number = is_atlantic (crossing tariff trip number)

-- a sector crosses the Pacific
abbrev pub crosses_pacific : Tariff → Itinerary → ℕ → Bool
crosses_pacific tariff trip number = is_pacific (crossing tariff trip number)

-- an area is area 1
abbrev pub is_first_area : Option Area → Bool
is_first_area (Some One) = true
is_first_area _ = false

-- both cities that a sector touches are in area 1
abbrev pub is_within_one : Tariff → Itinerary → ℕ → Bool
is_within_one tariff trip number =
    is_first_area (area tariff (point trip (number - 1))) && is_first_area (area tariff (point trip number))

-- AP where both oceans are crossed, AT or PA where one is; where none is, WH if all cities are in area 1, else EH
abbrev pub indicator_by : Bool → Bool → Bool → Indicator
indicator_by true true _ = AP
indicator_by true false _ = AT
indicator_by false true _ = PA
indicator_by false false true = WH
indicator_by false false false = EH

-- the indicator of a list of sectors
unfoldable pub indicator_of : Tariff → Itinerary → List ℕ → Indicator
indicator_of tariff trip numbers =
    indicator_by (list_any (crosses_atlantic tariff trip) numbers) (list_any (crosses_pacific tariff trip) numbers)
    (list_all (is_within_one tariff trip) numbers)

-- the indicator of a span is that of its sectors
abbrev pub indicator : Tariff → Itinerary → ℕ → ℕ → Indicator
indicator tariff trip a b = indicator_of tariff trip (sectors a b)
