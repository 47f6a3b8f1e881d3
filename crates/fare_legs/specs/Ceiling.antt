-- Ceiling: a price above which nothing is wanted, and the parts that make a circle minimum greater.
use Rattle.std.specs.Prelude.{◌≡◌, ℕ, ◌+◌, ◌*◌, ◌<◌, ◌≤◌, Bool, false, Option, Some, None, IfSome, nat_lt}
use Rattle.std.specs.Prelude.{option_and_then, if◌then◌else◌}
use Rattle.fare_codes.specs.declared.indicator.Indicator.{Indicator}
use Rattle.fare_codes.specs.declared.nuc.Nuc.{Nuc}
use Rattle.fare_trip.specs.Itinerary.{Itinerary, count, point}
use Rattle.fare_tariff.specs.Record.{FareRecord}
use Rattle.fare_tariff.specs.Tariff.{Tariff}
use Rattle.fare_tariff.specs.Lookup.{fare_at}
use Rattle.fare_rules.specs.Indicator.{indicator}
use Rattle.fare_rules.specs.Reference.{reference}
use Rattle.fare_rules.specs.Span.{first_day}
use Rattle.fare_component.specs.declared.table.entry.Entry.{Entry}
use Rattle.fare_legs.specs.declared.ceiling.Ceiling.{Ceiling}

-- each sector of a trip has this one indicator
abbrev pub HasOneIndicator : Tariff → Itinerary → Indicator → Type 0
HasOneIndicator tariff trip ind = (i : ℕ) → i < count trip → indicator tariff trip i (i + 1) ≡ ind

-- a ceiling, where there is one, has the indicator of each sector of a trip
abbrev pub IsCeiling : Tariff → Itinerary → Option Ceiling → Type 0
IsCeiling tariff trip ceiling = IfSome ceiling (λ known. HasOneIndicator tariff trip known.indicator)

-- a price is under a ceiling, where there is one
abbrev pub IsWithin : Option Ceiling → ℕ → Type 0
IsWithin ceiling price = IfSome ceiling (λ known. price ≤ known.price)

-- the reference from the city of one point to that of another for a fare on the day of the sector behind a third
abbrev pub reference_home : Tariff → Itinerary → Indicator → ℕ → ℕ → ℕ → FareRecord → Option Nuc
reference_home tariff trip ind a home b fare =
    reference tariff (point trip home) (point trip b) ind fare (first_day trip a)

-- an amount, where there is one, is above a price when it is doubled
abbrev pub is_above : ℕ → Option Nuc → Bool
is_above price None = false
is_above price (Some amount) = nat_lt price (2 * amount)

-- the fare of a record number on a part makes the circle minimum of a unit that closes at a point greater than a
-- ceiling: twice its reference from there to where the part ends is above the price
abbrev pub is_too_dear : Tariff → Itinerary → Ceiling → ℕ → ℕ → ℕ → ℕ → Bool
is_too_dear tariff trip ceiling a home b number =
    is_above ceiling.price
    (option_and_then (reference_home tariff trip ceiling.indicator a home b) (fare_at tariff number))

-- what a part costs with an entry, where its fare isn't too dear for a ceiling
abbrev pub below_ceiling : Tariff → Itinerary → Option Ceiling → ℕ → ℕ → ℕ → (Entry → Option ℕ) → Entry → Option ℕ
below_ceiling tariff trip None a home b cost_of entry = cost_of entry
below_ceiling tariff trip (Some ceiling) a home b cost_of entry =
    if is_too_dear tariff trip ceiling a home b entry.fare then None else cost_of entry
