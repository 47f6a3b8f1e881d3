-- The JSON answer of the first lawful constructions of a trip over a book of editions.
use Rattle.std.specs.Prelude.{◌≡◌, ℕ, List, map, codes}
use Rattle.serde_json.specs.Data.{Data, string, array, object, no_members, member}
use Rattle.serde_json.specs.View.{items_of}
use Rattle.fare_trip.specs.Itinerary.{Itinerary}
use Rattle.fare_tariff.specs.Tariff.{Tariff}
use Rattle.fare_rules.specs.FirstK.{Priced, IsFirstK}
use Rattle.fare_line.specs.LineText.{line_text}
use Rattle.fare_calc.specs.LineOf.{line_of}
use Rattle.fare_answers.specs.Quotation.{Quotation, TellsFor}
use Rattle.fare_json.specs.JsonText.{json_line}
use Rattle.fare_json.specs.QuotationData.{edition_data, money}

-- a construction is its line and its price
unfoldable pub entry_data : Tariff → Itinerary → Priced → Data
entry_data tariff trip one =
    object (member (codes "line") (string (line_text (line_of tariff trip one.0)))
    (member (codes "total") (money one.1) no_members))

-- the first constructions, an empty list where there is no fare, and the edition
unfoldable pub first_data : Tariff → Itinerary → List Priced → Data
first_data tariff trip first =
    object (member (codes "best") (array (items_of (map (entry_data tariff trip) first)))
    (member (codes "edition") (edition_data tariff) no_members))

-- in an edition that knows all points of the trip: the answer for the first k lawful constructions
abbrev pub BestJsonPlaced : Itinerary → ℕ → Tariff → List ℕ → Type 0
BestJsonPlaced trip k tariff text =
    (first : List Priced) × IsFirstK tariff trip k first × (text ≡ json_line (first_data tariff trip first))

-- over the editions of a book: in the edition for the trip
unfoldable pub BestJson : List Tariff → Itinerary → ℕ → Quotation → Type 0
BestJson editions trip k quotation = TellsFor (BestJsonPlaced trip k) editions trip quotation
