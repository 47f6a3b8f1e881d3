-- What the countries of the points of a trip tell.
use Rattle.std.proofs.Common.{◌≡◌, ℕ, ◌≤◌, List, refl, sym}
use Rattle.std.specs.Prelude.{Option}
use Rattle.fare_codes.specs.declared.country.Country.{Country}
use Rattle.fare_trip.specs.Itinerary.{Itinerary, count, point}
use Rattle.fare_tariff.specs.Tariff.{Tariff}
use Rattle.fare_rules.specs.Shape.{is_same_country, lie_together}
use Rattle.fare_legs.specs.Costs.{heads_to}
use Rattle.fare_legs.specs.Countries.{country_at, heads_in, AreCountries}

-- whether a part between heads home is told by the countries of the trip's points
pub heads_same : (tariff : Tariff) (trip : Itinerary) (countries : List (Option Country)) (a b home : ℕ) → AreCountries tariff trip countries → a ≤ count trip → b ≤ count trip → home ≤ count trip
    → heads_to tariff trip a b home ≡ heads_in countries a b home
heads_same tariff trip countries a b home are low mid high = rw (sym (are a low), sym (are b mid), sym (are home high)) refl

-- whether a last part may begin at a point of a trip is told by the countries of its points
pub lies_there : (tariff : Tariff) (trip : Itinerary) (countries : List (Option Country)) (a b : ℕ) → AreCountries tariff trip countries → a ≤ count trip → b ≤ count trip
    → lie_together tariff (point trip a) (point trip b) ≡ is_same_country (country_at countries a) (country_at countries b)
lies_there tariff trip countries a b are low high = rw (sym (are a low), sym (are b high)) refl
