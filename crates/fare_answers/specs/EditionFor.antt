-- The edition in which a trip is answered, or why there is none, in the order in which the refusals come: the edition
-- that the sale day selects, and the points of the trip.
use Rattle.std.specs.Prelude.{List, Option, Some, None, Result, Ok, Err}
use Rattle.fare_codes.specs.declared.city.City.{City}
use Rattle.fare_trip.specs.Itinerary.{Itinerary}
use Rattle.fare_tariff.specs.Tariff.{Tariff}
use Rattle.fare_rules.specs.Span.{placed}
use Rattle.fare_book.specs.Selected.{selected}
use Rattle.fare_answers.specs.declared.quote_fault.QuoteFault.{QuoteFault}
use Rattle.fare_answers.specs.declared.quote_fault.QuoteFault.TheVariants.{NoEdition, UnknownPlace}

-- an edition, or the city of which it has no record, if there is one
abbrev pub unless_unknown : Tariff → Option City → Result Tariff QuoteFault
unless_unknown tariff None = Ok tariff
unless_unknown tariff (Some city) = Err (UnknownPlace city)

-- an edition, or `UnknownPlace` of the first point of a trip that it doesn't know, if there is one
abbrev pub that_knows : Itinerary → Tariff → Result Tariff QuoteFault
that_knows trip tariff = unless_unknown tariff (placed tariff trip)

-- an edition that was looked for by the sale day of a trip, and `NoEdition` of that day where there is none
abbrev pub if_selected : Itinerary → Option Tariff → Result Tariff QuoteFault
if_selected trip None = Err (NoEdition trip.sale)
if_selected trip (Some tariff) = that_knows trip tariff

-- over the editions of a book: the one that the sale day selects, where it knows each point of the trip
abbrev pub edition_for : List Tariff → Itinerary → Result Tariff QuoteFault
edition_for editions trip = if_selected trip (selected editions trip.sale)
