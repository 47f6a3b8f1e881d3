-- What trips cost in two editions.
use Rattle.std.specs.Prelude.{◌≡◌, ℕ, ◌+◌, Bool, ◌&&◌, List, [], ◌∷◌, find, Option, option_map}
use Rattle.std.specs.Prelude.{Result, MatchResult, MatchOption}
use Rattle.serde_json.specs.Data.{Items, item, no_items}
use Rattle.fare_codes.specs.declared.city.City.{City}
use Rattle.fare_trip.specs.Itinerary.{Itinerary, point, count}
use Rattle.fare_trip.specs.ItineraryText.{trip_of}
use Rattle.fare_trip.specs.declared.fault.TripFault.{TripFault}
use Rattle.fare_tariff.specs.Tariff.{Tariff}
use Rattle.fare_rules.specs.declared.part.Part.{Part}
use Rattle.fare_rules.specs.Best.{IsBestAnswer}
use Rattle.fare_rules.specs.Numbers.{numbers}
use Rattle.fare_rules.specs.Span.{is_unplaced}
use Rattle.fare_changes.specs.declared.compared.Compared.{Compared}
use Rattle.fare_changes.specs.declared.compared.Compared.TheVariants.{Faulty, Unknown, Totals}

-- the price of a best answer
abbrev pub price_of : List Part × ℕ → ℕ
price_of best = best.1

-- the total of a trip in an edition, whatever edition its sale day selects: the price of the first least-priced lawful
-- construction there, or nothing where none is lawful
abbrev pub IsTotal : Tariff → Itinerary → Option ℕ → Type 0
IsTotal tariff trip total =
    (best : Option (List Part × ℕ)) × IsBestAnswer tariff trip best × (total ≡ option_map price_of best)

-- neither of two editions has a record of the city of a point
abbrev pub is_unknown : Tariff → Tariff → Itinerary → ℕ → Bool
is_unknown old new trip i = is_unplaced old trip i && is_unplaced new trip i

-- the city of the first point that has no record in either edition
unfoldable pub unknown_place : Tariff → Tariff → Itinerary → Option City
unknown_place old new trip = option_map (point trip) (find (is_unknown old new trip) (numbers 0 (count trip + 1)))

-- a trip has its totals in both editions, unless neither knows one of its points
abbrev pub IsTripCompared : Tariff → Tariff → Itinerary → Compared → Type 0
IsTripCompared old new trip one =
    MatchOption (unknown_place old new trip)
    ((before : Option ℕ) × (after : Option ℕ) × IsTotal old trip before × IsTotal new trip after
    × (one ≡ Totals before after))
    (λ city. one ≡ Unknown city)

-- an itinerary is compared as its trip, or has a first fault
abbrev pub IsCompared : Tariff → Tariff → Result Itinerary TripFault → Compared → Type 0
IsCompared old new itinerary one =
    MatchResult itinerary (λ trip. IsTripCompared old new trip one) (λ fault. one ≡ Faulty fault)

-- the items of a batch are compared one by one, in their order
abbrev pub AreCompared : Tariff → Tariff → Items → List Compared → Type 0
AreCompared old new no_items compared = compared ≡ []
AreCompared old new (item value items) compared =
    (one : Compared) × (rest : List Compared) × IsCompared old new (trip_of value) one
    × AreCompared old new items rest × (compared ≡ one ∷ rest)
