-- The quotation of a trip over a book of editions.
use Rattle.std.specs.Prelude.{◌≡◌, ℕ, List, Option, option_map, Result, Ok, Err, MatchResult}
use Rattle.fare_trip.specs.Itinerary.{Itinerary}
use Rattle.fare_tariff.specs.Tariff.{Tariff}
use Rattle.fare_rules.specs.declared.part.Part.{Part}
use Rattle.fare_rules.specs.Best.{IsBestAnswer}
use Rattle.fare_calc.specs.Answer.{answer_text}
use Rattle.fare_answers.specs.EditionFor.{edition_for}
use Rattle.fare_answers.specs.declared.quote_fault.QuoteFault.{QuoteFault}

-- a quotation: its text, or why there is none
abbrev pub Quotation : Type 0
Quotation = Result (List ℕ) QuoteFault

-- over the editions of a book: a text that is right in the edition for the trip, or why there is no such edition
abbrev pub TellsFor : (Tariff → List ℕ → Type 0) → List Tariff → Itinerary → Quotation → Type 0
TellsFor IsRight editions trip quotation =
    MatchResult (edition_for editions trip) (λ tariff. (text : List ℕ) × IsRight tariff text × (quotation ≡ Ok text))
    (λ fault. quotation ≡ Err fault)

-- the construction of a best answer, without its price
abbrev pub construction_of : List Part × ℕ → List Part
construction_of best = best.0

-- in an edition that knows all points of the trip: the answer text of the first least-priced lawful construction, or
-- of none where none is lawful
abbrev pub QuotesPlaced : Itinerary → Tariff → List ℕ → Type 0
QuotesPlaced trip tariff text =
    (best : Option (List Part × ℕ)) × IsBestAnswer tariff trip best
    × (text ≡ answer_text tariff trip (option_map construction_of best))

-- over the editions of a book: in the edition for the trip
unfoldable pub Quotes : List Tariff → Itinerary → Quotation → Type 0
Quotes editions trip quotation = TellsFor (QuotesPlaced trip) editions trip quotation
