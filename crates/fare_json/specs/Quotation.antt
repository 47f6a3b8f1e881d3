-- The JSON answer of a quotation over a book of editions.
use Rattle.std.specs.Prelude.{◌≡◌, ℕ, List, Option, option_map}
use Rattle.fare_trip.specs.Itinerary.{Itinerary}
use Rattle.fare_tariff.specs.Tariff.{Tariff}
use Rattle.fare_rules.specs.declared.part.Part.{Part}
use Rattle.fare_rules.specs.Best.{IsBestAnswer}
use Rattle.fare_answers.specs.Quotation.{Quotation, TellsFor, construction_of}
use Rattle.fare_json.specs.JsonText.{json_line}
use Rattle.fare_json.specs.QuotationData.{quotation_data}

-- in an edition that knows all points of the trip: the answer for the first least-priced lawful construction, or for
-- none where none is lawful
abbrev pub QuotesJsonPlaced : Itinerary → Tariff → List ℕ → Type 0
QuotesJsonPlaced trip tariff text =
    (best : Option (List Part × ℕ)) × IsBestAnswer tariff trip best
    × (text ≡ json_line (quotation_data tariff trip (option_map construction_of best)))

-- over the editions of a book: in the edition for the trip
unfoldable pub QuotesJson : List Tariff → Itinerary → Quotation → Type 0
QuotesJson editions trip quotation = TellsFor (QuotesJsonPlaced trip) editions trip quotation
