-- Terms: what the rule of a fare asks of a component.
use Rattle.std.specs.Prelude.{ℕ, ◌-◌, Bool, false, Option, Some, None, length, nat_le, ◌==◌, ◌&&◌, ◌||◌}
use Rattle.fare_codes.specs.Day.{day_number}
use Rattle.fare_trip.specs.Itinerary.{Itinerary}
use Rattle.fare_records.specs.Record.{FareRecord}
use Rattle.fare_tariff.specs.Tariff.{Tariff}
use Rattle.fare_tariff.specs.Lookup.{terms}
use Rattle.fare_records.specs.declared.terms.Terms.{Terms}
use Rattle.fare_rules.specs.Span.{stopovers, transfers, first_day}

-- the terms of a fare's rule are there and pass a test
abbrev pub term_holds : (Terms → Bool) → Option Terms → Bool
term_holds test None = false
term_holds test (Some asked) = test asked

-- the terms of a fare
abbrev pub terms_of_fare : Tariff → FareRecord → Option Terms
terms_of_fare tariff fare = terms tariff fare.rule

-- so many stopovers are not above the greatest number of terms
abbrev pub allows_stops : ℕ → Terms → Bool
allows_stops stops asked = nat_le stops asked.stops

-- so many transfers are not above the greatest number of terms
abbrev pub allows_transfers : ℕ → Terms → Bool
allows_transfers transfers asked = nat_le transfers asked.transfers

-- so many days of advance are not below the least number of terms
abbrev pub allows_advance : ℕ → Terms → Bool
allows_advance days asked = nat_le asked.advance days

-- terms allow a surcharge: one of 0, or any where they allow an excess
abbrev pub allows_surcharge : ℕ → Terms → Bool
allows_surcharge step asked = (step == 0) || asked.excess

-- so many days of stay are within the least and the greatest number of terms
abbrev pub allows_stay : ℕ → Terms → Bool
allows_stay days asked = nat_le asked.min_stay days && nat_le days asked.max_stay

-- the interior stopovers of a span are not more than the rule of a fare allows
unfoldable pub stops_hold : Tariff → Itinerary → ℕ → ℕ → FareRecord → Bool
stops_hold tariff trip a b fare =
    term_holds (allows_stops (length (stopovers trip a b))) (terms_of_fare tariff fare)

-- nor are its interior transfers
unfoldable pub transfers_hold : Tariff → Itinerary → ℕ → ℕ → FareRecord → Bool
transfers_hold tariff trip a b fare =
    term_holds (allows_transfers (length (transfers trip a b))) (terms_of_fare tariff fare)

-- the days from the sale day to the day of the trip's first sector
abbrev pub advance_days : Itinerary → ℕ
advance_days trip = day_number (first_day trip 0) - day_number trip.sale

-- the trip is sold as many days ahead as the rule of a fare asks
unfoldable pub advance_holds : Tariff → Itinerary → FareRecord → Bool
advance_holds tariff trip fare = term_holds (allows_advance (advance_days trip)) (terms_of_fare tariff fare)
