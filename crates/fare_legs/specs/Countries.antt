-- Countries: those of the points of a trip, and what they tell of a part.
use Rattle.std.specs.Prelude.{◌≡◌, ℕ, ◌≤◌, Bool, not, ◌&&◌, List, Option, None, slice_index_or}
use Rattle.fare_codes.specs.declared.country.Country.{Country}
use Rattle.fare_trip.specs.Itinerary.{Itinerary, count, point}
use Rattle.fare_tariff.specs.Tariff.{Tariff}
use Rattle.fare_rules.specs.Indicator.{country}
use Rattle.fare_rules.specs.Shape.{is_same_country}

-- the countries of the points of a trip
abbrev pub AreCountries : Tariff → Itinerary → List (Option Country) → Type 0
AreCountries tariff trip countries =
    (i : ℕ) → i ≤ count trip → slice_index_or countries i None ≡ country tariff (point trip i)

-- the country of a point among those of a trip's points
abbrev pub country_at : List (Option Country) → ℕ → Option Country
country_at countries i = slice_index_or countries i None

-- by the countries of a trip's points, a part between two of them heads home in a unit that closes at another
abbrev pub heads_in : List (Option Country) → ℕ → ℕ → ℕ → Bool
heads_in countries a b home =
    is_same_country (country_at countries b) (country_at countries home)
    && not (is_same_country (country_at countries a) (country_at countries home))
