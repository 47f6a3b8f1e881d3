-- The JSON answer of what would make a trip cheaper.
use Rattle.std.specs.Prelude.{◌≡◌, ℕ, List, Option, Some, None, map, codes}
use Rattle.serde_json.specs.Data.{Data, null, string, array, object, no_members, member}
use Rattle.serde_json.specs.View.{items_of}
use Rattle.fare_trip.specs.Itinerary.{Itinerary}
use Rattle.fare_tariff.specs.Tariff.{Tariff}
use Rattle.fare_rules.specs.declared.broken.Broken.{Broken}
use Rattle.fare_relaxed.specs.Terms.{term_name}
use Rattle.fare_answers.specs.Quotation.{Quotation, TellsFor}
use Rattle.fare_why.specs.Explanation.{Alternative, Explanation}
use Rattle.fare_why.specs.Reasons.{Explains}
use Rattle.fare_sentences.specs.BrokenWords.{broken_words}
use Rattle.fare_json.specs.JsonText.{json_line}
use Rattle.fare_json.specs.QuotationData.{count, edition_data, money}

-- an amount, where there is one
abbrev pub money_if : Option ℕ → Data
money_if None = null
money_if (Some hundredths) = money hundredths

-- a broken rule is its place, its number and its sentence
unfoldable pub broken_data : Broken → Data
broken_data broken =
    object (member (codes "place") (count broken.place)
    (member (codes "rule") (count broken.rule)
    (member (codes "words") (string (broken_words broken.rule broken.place)) no_members)))

-- a reason: the broken rule, the kind of condition, the line, what it saves where there is a fare, and the price
unfoldable pub reason_data : Alternative → Data
reason_data shown =
    object (member (codes "broken") (broken_data shown.broken)
    (member (codes "kind") (string (term_name shown.term))
    (member (codes "line") (string shown.line)
    (member (codes "saves") (money_if shown.saves)
    (member (codes "total") (money shown.total) no_members)))))

-- the edition, the price of the best construction, where one is lawful, and the reasons
unfoldable pub why_data : Tariff → Explanation → Data
why_data tariff why =
    object (member (codes "edition") (edition_data tariff)
    (member (codes "total") (money_if why.total)
    (member (codes "without") (array (items_of (map reason_data why.reasons))) no_members)))

-- in an edition that knows all points of the trip: the answer for what would make it cheaper
abbrev pub WhyJsonPlaced : Itinerary → Tariff → List ℕ → Type 0
WhyJsonPlaced trip tariff text =
    (why : Explanation) × Explains tariff trip why × (text ≡ json_line (why_data tariff why))

-- over the editions of a book: in the edition for the trip
unfoldable pub WhyJsonOver : List Tariff → Itinerary → Quotation → Type 0
WhyJsonOver editions trip quotation = TellsFor (WhyJsonPlaced trip) editions trip quotation
