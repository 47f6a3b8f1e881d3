-- The source of `price`: an itinerary on its first line, and a tariff text behind it.
use Rattle.std.specs.Prelude.{ℕ, Bool, List, ◌==◌, nat_eq, codes, Result, if◌then◌else◌}
use Rattle.std.specs.List.{before_first, after_first, starts_with}
use Rattle.fare_trip.specs.Itinerary.{Itinerary}
use Rattle.fare_trip.specs.ShortLine.{read_short}
use Rattle.fare_trip.specs.ItineraryText.{read_trip}
use Rattle.fare_trip.specs.declared.fault.TripFault.{TripFault}

-- a byte ends a line
abbrev pub is_line_feed : ℕ → Bool
is_line_feed byte = byte == 10

-- the bytes up to the first LF are the itinerary
abbrev pub itinerary_text : List ℕ → List ℕ
itinerary_text source = before_first is_line_feed source

-- all behind that LF is the tariff text, which is empty where there is none
abbrev pub tariff_text : List ℕ → List ℕ
tariff_text source = after_first is_line_feed source

-- an itinerary that begins with `TRIP,` is a short line, and any other is JSON
unfoldable pub itinerary_of : List ℕ → Result Itinerary TripFault
itinerary_of text = if starts_with nat_eq text (codes "TRIP,") then read_short text else read_trip text
