-- The sectors of a line in the order of travel, and the first of them at which the line and a trip differ.
use Rattle.std.specs.Prelude.{ℕ, ◌+◌, Bool, not, List, [], ◌∷◌, ◌++◌, map, take, drop, Option, Some, None, ◌==◌, ◌&&◌}
use Rattle.std.specs.Prelude.{◌||◌, nat_le, nat_lt, bytes_eq, if◌then◌else◌}
use Rattle.fare_codes.specs.declared.city.City.{City}
use Rattle.fare_trip.specs.Itinerary.{Itinerary, count, sector}
use Rattle.fare_rules.specs.Span.{is_surface, is_transfer}
use Rattle.fare_line.specs.declared.line.part.LinePart.{LinePart}
use Rattle.fare_line.specs.declared.line.sector.LineSector.{LineSector}
use Rattle.fare_line.specs.Line.{CalculationLine, flown_count}
use Rattle.fare_audit.specs.declared.legs.Leg.{Leg}
use Rattle.fare_audit.specs.declared.legs.Leg.TheVariants.{Surface, Flown}

-- a gap is one surface sector
abbrev pub gap_legs : Option City → List Leg
gap_legs None = []
gap_legs (Some city) = Surface city ∷ []

-- the sectors of a part are the surface sector of its gap and then its flown ones
abbrev pub part_legs : Option City → List LineSector → List Leg
part_legs gap flown = gap_legs gap ++ map Flown flown

-- the sectors of parts that begin behind so many sectors of the line and share these flown ones, part after part
unfoldable pub legs_from : ℕ → List LineSector → List LinePart → List Leg
legs_from begun flown [] = []
legs_from begun flown (part ∷ parts) =
    part_legs part.gap (take (flown_count begun part) flown)
    ++ legs_from part.end (drop (flown_count begun part) flown) parts

-- the sectors of a line, gaps among them
abbrev pub legs_of : CalculationLine → List Leg
legs_of line = legs_from 0 line.sectors line.parts

-- the sector of a trip by its number reaches another city
abbrev pub reaches_other : Itinerary → ℕ → City → Bool
reaches_other trip number to = not (bytes_eq to (sector trip number).to)

-- two marks of a transfer differ
abbrev pub differ : Bool → Bool → Bool
differ one other = if one then not other else other

-- a sector's end isn't the trip's last point, and the mark there is another than the trip's
abbrev pub is_marked_otherwise : Itinerary → ℕ → Bool → Bool
is_marked_otherwise trip number transfer = not (number == count trip) && differ transfer (is_transfer trip number)

-- a sector of a line differs from the trip's: just one of them is a surface sector, or they reach different cities, or
-- they are flown by different carriers, or marked otherwise at a point that isn't the last
abbrev pub is_unlike : Itinerary → ℕ → Leg → Bool
is_unlike trip number (Surface to) = not (is_surface trip number) || reaches_other trip number to
is_unlike trip number (Flown flown) =
    is_surface trip number || reaches_other trip number flown.to
    || not (bytes_eq flown.carrier (sector trip number).carrier) || is_marked_otherwise trip number flown.transfer

-- the first sector, from a number on, at which these sectors of a line and the trip differ: just one of them has it, or
-- the two are unlike
unfoldable pub difference_from : Itinerary → ℕ → List Leg → Option ℕ
difference_from trip number [] = if nat_le number (count trip) then Some number else None
difference_from trip number (leg ∷ legs) =
    if nat_lt (count trip) number || is_unlike trip number leg then Some number
    else difference_from trip (number + 1) legs

-- the first sector at which a line and a trip differ; 0 where they begin in different cities
abbrev pub difference : Itinerary → CalculationLine → Option ℕ
difference trip line = if bytes_eq line.from trip.from then difference_from trip 1 (legs_of line) else Some 0
