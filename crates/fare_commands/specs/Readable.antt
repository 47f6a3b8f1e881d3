-- A source that a command can read: it is within its limit and without a fault.
use Rattle.std.specs.Prelude.{◌≡◌, ℕ, List, Ok, false, length, nat_lt}
use Rattle.fare_trip.specs.Itinerary.{Itinerary}
use Rattle.fare_trip.specs.ItineraryText.{read_trip}
use Rattle.fare_book.specs.Publish.{IsReadable}
use Rattle.fare_commands.specs.PairOutcome.{IsBatch}

-- a source that is read up to a limit holds no more, and a tariff text without a fault
abbrev pub HoldsTariff : ℕ → List ℕ → Type 0
HoldsTariff limit source = (nat_lt limit (length source) ≡ false) × IsReadable source

-- a text stands for a trip
abbrev pub IsItinerary : List ℕ → Type 0
IsItinerary text = (trip : Itinerary) × (read_trip text ≡ Ok trip)

-- a source that is read up to a limit holds no more, and an itinerary without a fault
abbrev pub HoldsItinerary : ℕ → List ℕ → Type 0
HoldsItinerary limit source = (nat_lt limit (length source) ≡ false) × IsItinerary source

-- a source that is read up to a limit holds no more, and is a JSON array
abbrev pub HoldsBatch : ℕ → List ℕ → Type 0
HoldsBatch limit source = (nat_lt limit (length source) ≡ false) × IsBatch source
