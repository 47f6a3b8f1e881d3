-- The records of a line's parts: each part's FARE, and the construction of all of them.
use Rattle.std.specs.Prelude.{ℕ, ◌-◌, Bool, not, List, map, find, Option, option_and_then, is_none, unwrap_or}
use Rattle.std.specs.Prelude.{slice_get, ◌==◌, ◌&&◌, if◌then◌else◌}
use Rattle.std.specs.List.{list_any}
use Rattle.fare_codes.specs.declared.kind.Kind.TheVariants.{OW}
use Rattle.fare_codes.specs.declared.month_day.MonthDay.{MonthDay}
use Rattle.fare_codes.specs.Day.{month_day_of}
use Rattle.fare_codes.specs.Same.{same_kind}
use Rattle.fare_trip.specs.Itinerary.{Itinerary, point}
use Rattle.fare_records.specs.declared.fare_key.FareKey.{FareKey}
use Rattle.fare_tariff.specs.Lookup.{fare_number}
use Rattle.fare_tariff.specs.Tariff.{Tariff}
use Rattle.fare_rules.specs.declared.part.Part.{Part}
use Rattle.fare_rules.specs.Construction.{places, start_of, end_of, unit_of}
use Rattle.fare_rules.specs.Direction.{priced_back}
use Rattle.fare_rules.specs.Indicator.{indicator}
use Rattle.fare_rules.specs.Span.{first_day}
use Rattle.fare_line.specs.declared.line.part.LinePart.{LinePart}
use Rattle.fare_line.specs.Line.{CalculationLine}

-- a part of a line by its end and its unit alone
abbrev pub bare_part : LinePart → Part
bare_part part = record { end = part.end; unit = part.unit; fare = 0 }

-- the parts of a line by their ends and units
abbrev pub bare_parts : CalculationLine → List Part
bare_parts line = map bare_part line.parts

-- a part of a line belongs to a unit and has a one way fare
abbrev pub is_one_way_in : ℕ → LinePart → Bool
is_one_way_in unit part = (part.unit == unit) && same_kind part.kind OW

-- a unit of a line is one of half round trips: none of its parts has a one way fare
abbrev pub is_round : List LinePart → ℕ → Bool
is_round parts unit = not (list_any (is_one_way_in unit) parts)

-- a part is priced back, by the ends, the units and the kinds of the line
abbrev pub is_turned : Tariff → Itinerary → CalculationLine → ℕ → Bool
is_turned tariff trip line k =
    priced_back tariff trip (bare_parts line) (is_round line.parts (unit_of (bare_parts line) k)) k

-- the key of the fare of a part that runs between two points of the trip: their cities in the fare's direction, the
-- indicator of the span, and the part's carrier, class, kind and rule
abbrev pub key_between : Tariff → Itinerary → ℕ → ℕ → Bool → LinePart → FareKey
key_between tariff trip a b back part = record {
  from = if back then point trip b else point trip a;
  to = if back then point trip a else point trip b;
  ind = indicator tariff trip a b;
  carrier = part.carrier;
  class = part.class;
  kind = part.kind;
  rule = part.rule;
}

-- the point where a part of a line begins
abbrev pub begin_of : Itinerary → CalculationLine → ℕ → ℕ
begin_of trip line k = start_of trip (bare_parts line) k

-- the key of the fare of the part at a place
unfoldable pub key_of : Tariff → Itinerary → CalculationLine → ℕ → LinePart → FareKey
key_of tariff trip line k part =
    key_between tariff trip (begin_of trip line k) (end_of (bare_parts line) k) (is_turned tariff trip line k) part

-- the day of the first sector of the part at a place, without its year
abbrev pub season_day : Itinerary → CalculationLine → ℕ → MonthDay
season_day trip line k = month_day_of (first_day trip (begin_of trip line k))

-- the record number of a part's FARE: of that with its key whose season holds the day of its first sector
abbrev pub record_for : Tariff → Itinerary → CalculationLine → ℕ → LinePart → Option ℕ
record_for tariff trip line k part = fare_number tariff (key_of tariff trip line k part) (season_day trip line k)

-- the record number of the FARE of the part at a place, from 1
unfoldable pub record_of : Tariff → Itinerary → CalculationLine → ℕ → Option ℕ
record_of tariff trip line k = option_and_then (record_for tariff trip line k) (slice_get line.parts (k - 1))

-- no record is the FARE of the part at a place
abbrev pub lacks_record : Tariff → Itinerary → CalculationLine → ℕ → Bool
lacks_record tariff trip line k = is_none (record_of tariff trip line k)

-- the first part without a FARE record
unfoldable pub unrecorded : Tariff → Itinerary → CalculationLine → Option ℕ
unrecorded tariff trip line = find (lacks_record tariff trip line) (places (bare_parts line))

-- a part with the end and the unit of the line and the number of its FARE record
abbrev pub recorded_part : Tariff → Itinerary → CalculationLine → ℕ → Part
recorded_part tariff trip line k = record {
  end = end_of (bare_parts line) k;
  unit = unit_of (bare_parts line) k;
  fare = unwrap_or (record_of tariff trip line k) 0;
}

-- the construction that a line determines: its ends and units with the records of its parts
unfoldable pub construction_of : Tariff → Itinerary → CalculationLine → List Part
construction_of tariff trip line = map (recorded_part tariff trip line) (places (bare_parts line))
