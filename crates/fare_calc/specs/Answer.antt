-- The text that answers a quotation.
use Rattle.std.specs.Prelude.{ℕ, List, ◌++◌, Option, Some, None, codes, decimal}
use Rattle.fare_trip.specs.Itinerary.{Itinerary}
use Rattle.fare_tariff.specs.Tariff.{Tariff}
use Rattle.fare_rules.specs.declared.part.Part.{Part}
use Rattle.fare_calc.specs.LineOf.{line_of}
use Rattle.fare_line.specs.LineText.{line_text}
use Rattle.fare_calc.specs.Worksheet.{worksheet_text}

-- the line that names an edition: its number and its effective day
abbrev pub edition_line : Tariff → List ℕ
edition_line tariff = codes "EDITION " ++ decimal tariff.number ++ codes " " ++ tariff.effective ++ codes "\n"

-- the line that says that no construction is lawful
abbrev pub no_fare_line : List ℕ
no_fare_line = codes "NO FARE\n"

-- the line of the best construction and its worksheet, or that there is no fare
abbrev pub best_text : Tariff → Itinerary → Option (List Part) → List ℕ
best_text tariff trip None = no_fare_line
best_text tariff trip (Some parts) =
    line_text (line_of tariff trip parts) ++ codes "\n" ++ worksheet_text tariff trip parts

-- the answer for the best construction, or for none, in an edition
unfoldable pub answer_text : Tariff → Itinerary → Option (List Part) → List ℕ
answer_text tariff trip best = edition_line tariff ++ best_text tariff trip best
