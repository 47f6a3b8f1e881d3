-- The short line: an itinerary of one sector in one line of text.
use Rattle.std.specs.Prelude.{ℕ, ◌-◌, Bool, List, [], ◌∷◌, length, codes, take, Result, Ok, Err, ◌==◌, ◌&&◌, nat_lt}
use Rattle.std.specs.Prelude.{bytes_eq, slice_index, slice_index_or, false, true, if◌then◌else◌}
use Rattle.std.specs.List.{slice_split}
use Rattle.fare_codes.specs.declared.over.Over.TheVariants.{Unmarked}
use Rattle.fare_codes.specs.Codes.{read_city, read_carrier}
use Rattle.fare_codes.specs.Day.{read_day}
use Rattle.fare_codes.specs.Words.{read_cabin}
use Rattle.fare_trip.specs.declared.sector.Sector.{Sector}
use Rattle.fare_trip.specs.declared.fault.Member.TheVariants as member
use Rattle.fare_trip.specs.declared.fault.TripFault.{TripFault}
use Rattle.fare_trip.specs.declared.fault.TripFault.TheVariants as fault
use Rattle.fare_trip.specs.Itinerary.{Itinerary}
use Rattle.fare_ports.specs.Memory.{◌>>=◌}
use Rattle.fare_trip.specs.Steps.{or_bad}
use Rattle.fare_trip.specs.Trip.{make_trip}

-- the pieces of a line end at its commas
unfoldable pub pieces : List ℕ → List (List ℕ)
pieces line = slice_split (λ byte. byte == 44) line

-- a line ends with a CR
abbrev pub ends_with_return : List ℕ → Bool
ends_with_return line = nat_lt 0 (length line) && (slice_index line (length line - 1) == 13)

-- a line without the CR that may stand at its end
unfoldable pub without_return : List ℕ → List ℕ
without_return line = if ends_with_return line then take (length line - 1) line else line

-- the pieces of a short line are seven, and the first is `TRIP`
abbrev pub is_short : List (List ℕ) → Bool
is_short texts = (length texts == 7) && bytes_eq (slice_index_or texts 0 []) (codes "TRIP")

-- the sector of its texts, flown with a stopover and no mark, or the first text that isn't in its form
unfoldable pub short_sector : List ℕ → List ℕ → List ℕ → List ℕ → Result Sector TripFault
short_sector to carrier day cabin = do
  to_city ← or_bad member.To 1 (read_city to)
  by ← or_bad member.Carrier 1 (read_carrier carrier)
  on ← or_bad member.Day 1 (read_day day)
  class ← or_bad member.Cabin 1 (read_cabin cabin)
  Ok (record { to = to_city; carrier = by; day = on; cabin = class; over = Unmarked; stop = true; surface = false })

-- the trip of seven pieces: sale, from, to, carrier, day and cabin behind the first
unfoldable pub short_trip : List (List ℕ) → Result Itinerary TripFault
short_trip texts = do
  sale ← or_bad member.Sale 0 (read_day (slice_index_or texts 1 []))
  from ← or_bad member.From 0 (read_city (slice_index_or texts 2 []))
  flown ←
      short_sector (slice_index_or texts 3 []) (slice_index_or texts 4 []) (slice_index_or texts 5 [])
      (slice_index_or texts 6 [])
  make_trip sale from (flown ∷ [])

-- the trip that a short line stands for, or its first fault
unfoldable pub read_short : List ℕ → Result Itinerary TripFault
read_short line =
    if is_short (pieces (without_return line)) then short_trip (pieces (without_return line))
    else Err (fault.Bad member.Trip 0)
