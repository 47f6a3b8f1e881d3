-- What a text asks to be audited, a line and the trip for which it is presented, or the first fault of the text.
use Rattle.std.specs.Prelude.{◌≡◌, ◌⊎◌, ℕ, true, List, [], ◌++◌, Option, Some, None, Result, Ok, Err, option_and_then}
use Rattle.std.specs.Prelude.{is_some, codes, decimal, MatchBool, MatchOption}
use Rattle.serde_json.specs.Data.{Data}
use Rattle.serde_json.specs.Find.{get, as_object, as_str}
use Rattle.fare_trip.specs.FaultText as trip_words
use Rattle.fare_trip.specs.Itinerary.{Itinerary}
use Rattle.fare_trip.specs.ItineraryText.{json_of, trip_of}
use Rattle.fare_trip.specs.declared.fault.Member.TheVariants as member
use Rattle.fare_trip.specs.declared.fault.TripFault.{TripFault}
use Rattle.fare_trip.specs.declared.fault.TripFault.TheVariants as trip_fault
use Rattle.fare_line.specs.declared.reading.BadLine.{BadLine}
use Rattle.fare_line.specs.Line.{CalculationLine, is_line}
use Rattle.fare_line.specs.LineText.{line_text}
use Rattle.fare_line.specs.LongestFront.{IsLongestFront}
use Rattle.fare_audit.specs.declared.fault.AuditFault.{AuditFault}
use Rattle.fare_audit.specs.declared.fault.AuditFault.TheVariants.{Memory, Trip, NoLine, Line}

-- what is read: a line and a trip, or the first fault
abbrev pub Reading : Type 0
Reading = Result (CalculationLine × Itinerary) AuditFault

-- a text is that of a line
abbrev pub IsTextOf : CalculationLine → List ℕ → Type 0
IsTextOf line text = (is_line line ≡ true) × (line_text line ≡ text)

-- a text stands for a line, or for none and begins one so far
abbrev pub IsLineReading : List ℕ → Result CalculationLine BadLine → Type 0
IsLineReading text (Ok line) = IsTextOf line text
IsLineReading text (Err bad) = ((line : CalculationLine) → IsTextOf line text → ⊥) × IsLongestFront text bad.0

-- a line with the trip that was read, or the trip's fault
abbrev pub beside : CalculationLine → Result Itinerary TripFault → Reading
beside line (Ok trip) = Ok (line, trip)
beside line (Err fault) = Err (Trip fault)

-- the trip of a member, which has to be there
abbrev pub trip_member : Option Data → Result Itinerary TripFault
trip_member None = Err (trip_fault.Missing member.Trip 0)
trip_member (Some value) = trip_of value

-- the line first, and then the trip
abbrev pub with_trip : Option Data → Result CalculationLine BadLine → Reading
with_trip trip (Ok line) = beside line (trip_member trip)
with_trip trip (Err bad) = Err (Line bad)

-- what an object's line, a string, and its trip are read as
abbrev pub ReadsLine : Data → List ℕ → Reading → Type 0
ReadsLine value text reading =
    (line : Result CalculationLine BadLine) × IsLineReading text line
    × (reading ≡ with_trip (get (codes "trip") value) line)

-- the string of an object's line, where it has one
abbrev pub line_string : Data → Option (List ℕ)
line_string value = option_and_then as_str (get (codes "line") value)

-- an object has a line, which is a string
abbrev pub ReadsObject : Data → Reading → Type 0
ReadsObject value reading =
    MatchOption (line_string value) (reading ≡ Err NoLine) (λ text. ReadsLine value text reading)

-- a value is an object
abbrev pub ReadsValue : Reading → Data → Type 0
ReadsValue reading value =
    MatchBool (is_some (as_object value)) (ReadsObject value reading)
    (reading ≡ Err (Trip (trip_fault.Bad member.Trip 0)))

-- bytes are a JSON text
abbrev pub Reads : List ℕ → Reading → Type 0
Reads bytes reading = MatchOption (json_of bytes) (reading ≡ Err (Trip trip_fault.NotJson)) (ReadsValue reading)

-- a reading is what the bytes are read as, unless memory was wanting
abbrev pub ReadsUnlessWanting : List ℕ → Reading → Type 0
ReadsUnlessWanting bytes (Ok found) = Reads bytes (Ok found)
ReadsUnlessWanting bytes (Err fault) = (fault ≡ Memory) ⊎ Reads bytes (Err fault)

-- the text of a fault, without the LF that ends its line; want of memory has none
abbrev pub fault_text : AuditFault → List ℕ
fault_text Memory = []
fault_text (Trip fault) = trip_words.fault_text fault
fault_text NoLine = codes "LINE MISSING"
fault_text (Line bad) = codes "LINE " ++ decimal bad.0
