-- The text of the first lawful constructions of a trip over a book of editions.
use Rattle.std.specs.Prelude.{◌≡◌, ℕ, suc, List, [], ◌∷◌, ◌++◌, Option, Some, None, codes, decimal}
use Rattle.fare_codes.specs.Numbers.{nuc_text}
use Rattle.fare_trip.specs.Itinerary.{Itinerary}
use Rattle.fare_tariff.specs.Tariff.{Tariff}
use Rattle.fare_rules.specs.FirstK.{Priced, IsFirstK}
use Rattle.fare_line.specs.LineText.{line_text}
use Rattle.fare_calc.specs.Answer.{edition_line, no_fare_line}
use Rattle.fare_calc.specs.LineOf.{line_of}
use Rattle.fare_answers.specs.Quotation.{Quotation, TellsFor}

-- a construction with its number: the number and the price, and then its calculation line
unfoldable pub entry_text : Tariff → Itinerary → ℕ → Priced → List ℕ
entry_text tariff trip number one =
    codes "BEST " ++ decimal number ++ codes " " ++ nuc_text one.1 ++ codes "\n"
    ++ line_text (line_of tariff trip one.0) ++ codes "\n"

-- constructions, numbered in turn from a number on
abbrev pub entries_text : Tariff → Itinerary → ℕ → List Priced → List ℕ
entries_text tariff trip number [] = []
entries_text tariff trip number (one ∷ rest) =
    entry_text tariff trip number one ++ entries_text tariff trip (suc number) rest

-- what stands at a place, with its number; nothing where nothing does
abbrev pub place_text : Tariff → Itinerary → ℕ → Option Priced → List ℕ
place_text tariff trip number None = []
place_text tariff trip number (Some one) = entry_text tariff trip number one

-- the first constructions, numbered from 1, or that there is no fare
abbrev pub first_text : Tariff → Itinerary → List Priced → List ℕ
first_text tariff trip [] = no_fare_line
first_text tariff trip (one ∷ rest) = entries_text tariff trip 1 (one ∷ rest)

-- in an edition that knows all points of the trip: the line that names it, and the first k lawful constructions
abbrev pub BestPlaced : Itinerary → ℕ → Tariff → List ℕ → Type 0
BestPlaced trip k tariff text =
    (first : List Priced) × IsFirstK tariff trip k first × (text ≡ edition_line tariff ++ first_text tariff trip first)

-- over the editions of a book: in the edition for the trip
unfoldable pub BestOver : List Tariff → Itinerary → ℕ → Quotation → Type 0
BestOver editions trip k quotation = TellsFor (BestPlaced trip k) editions trip quotation
