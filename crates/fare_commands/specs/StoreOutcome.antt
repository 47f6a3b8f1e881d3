-- What a command with a store answers, and the bodies that it leaves. Each definition looks at one thing, in the order
-- in which the refusals come: the length of the source, what it holds, the bodies of the store, and their editions.
use Rattle.std.specs.Prelude.{◌≡◌, ℕ, Bool, true, false, List, Option, Some, Ok, Err, IfSome, MatchResult, MatchOption}
use Rattle.std.specs.Prelude.{MatchBool, nat_lt, length, map, count_by, ⊤}
use Rattle.fare_ports.specs.declared.limits.TheConstants.{MOST_TEXT}
use Rattle.fare_words.specs.declared.asked.Asked.{Asked}
use Rattle.fare_words.specs.declared.asked.Asked.TheVariants as ask
use Rattle.fare_trip.specs.Itinerary.{Itinerary}
use Rattle.fare_trip.specs.ItineraryText.{read_trip}
use Rattle.fare_tariff.specs.Tariff.{Tariff}
use Rattle.fare_csv.specs.TariffText.{edition_of}
use Rattle.fare_csv.specs.CanonicalText.{canonical_text}
use Rattle.fare_book.specs.Book.{BookState, numbered}
use Rattle.fare_book.specs.Editions.{editions_of}
use Rattle.fare_book.specs.Migration.{MigratesInPart, SameEditions, canonical_body, is_old}
use Rattle.fare_book.specs.Publish.{Answer as Publication, Offers}
use Rattle.fare_answers.specs.BestText.{BestOver}
use Rattle.fare_answers.specs.List.{list_text}
use Rattle.fare_answers.specs.Quotation.{Quotation, Quotes}
use Rattle.fare_why.specs.WhyText.{WhyOver}
use Rattle.fare_why_json.specs.WhyData.{WhyJsonOver}
use Rattle.fare_json.specs.BestData.{BestJson}
use Rattle.fare_json.specs.JsonText.{json_line}
use Rattle.fare_json.specs.ListData.{list_data}
use Rattle.fare_json.specs.Quotation.{QuotesJson}
use Rattle.fare_commands.specs.declared.exit.Exit.TheVariants as ended
use Rattle.fare_commands.specs.Answer.{Answer, answer_of, done, migrated_text, publication_answer}
use Rattle.fare_commands.specs.declared.limits.TheConstants.{MOST_ITINERARY}

-- the bodies of a store
abbrev pub Bodies : Type 0
Bodies = List (List ℕ)

-- what is told of a trip over editions: its quotation, its first constructions where so many are asked for, or what
-- would make it cheaper; each as a plain text or in JSON
abbrev pub Tells : Asked → Bool → List Tariff → Itinerary → Quotation → Type 0
Tells ask.Quotation false editions trip quotation = Quotes editions trip quotation
Tells (ask.Best k) false editions trip quotation = BestOver editions trip k quotation
Tells ask.Why false editions trip quotation = WhyOver editions trip quotation
Tells ask.Quotation true editions trip quotation = QuotesJson editions trip quotation
Tells (ask.Best k) true editions trip quotation = BestJson editions trip k quotation
Tells ask.Why true editions trip quotation = WhyJsonOver editions trip quotation

-- the answer to a trip over editions: what is told of it
abbrev pub AnswersTrip : Asked → Bool → Itinerary → List Tariff → Answer → Type 0
AnswersTrip asked json trip editions answer =
    (quotation : Quotation) × Tells asked json editions trip quotation × (answer ≡ answer_of quotation)

-- the answer over the editions that bodies stand for: `Damaged` where they stand for none
abbrev pub AnswersOver : (List Tariff → Answer → Type 0) → Bodies → Answer → Type 0
AnswersOver over bodies answer =
    MatchResult (editions_of bodies) (λ editions. over editions answer)
    (λ found. answer ≡ Err (ended.Damaged found.place found.damage))

-- the answer to `list`: the list of the editions, as a plain text or in JSON
abbrev pub Lists : Bool → List Tariff → Answer → Type 0
Lists false editions answer = answer ≡ Ok (done (list_text editions))
Lists true editions answer = answer ≡ Ok (done (json_line (list_data editions)))

-- the answer to `export`: the canonical text of the edition of this number, and `NoSuch` where there is none
abbrev pub Exports : ℕ → List Tariff → Answer → Type 0
Exports number editions answer =
    MatchOption (numbered number editions) (answer ≡ Err (ended.NoSuch number))
    (λ tariff. answer ≡ Ok (done (canonical_text tariff)))

-- the answer to an itinerary text: `BadTrip` of its first fault, if it has one, and else that to its trip
abbrev pub AnswersItineraryOver : Asked → Bool → List ℕ → Bodies → Answer → Type 0
AnswersItineraryOver asked json text bodies answer =
    MatchResult (read_trip text) (λ trip. AnswersOver (AnswersTrip asked json trip) bodies answer)
    (λ fault. answer ≡ Err (ended.BadTrip fault))

-- the answer to `quote`: `Limit` where the source is too long, and else that to its itinerary
abbrev pub AnswersQuote : Asked → Bool → List ℕ → Bodies → Answer → Type 0
AnswersQuote asked json source bodies answer =
    MatchBool (nat_lt MOST_ITINERARY (length source)) (answer ≡ Err ended.Limit)
    (AnswersItineraryOver asked json source bodies answer)

-- the answer to an edition over the editions that the bodies stand for, and what is left of the bodies: as that edition
-- is published in the settled book of these
abbrev pub AnswersEdition : Tariff → Bodies → Bodies → List Tariff → Answer → Type 0
AnswersEdition edition bodies left editions answer =
    (published : Publication) × (book : BookState) × Offers editions edition published book (Some bodies) (Some left)
    × (answer ≡ publication_answer published)

-- the answer to a tariff text: `BadTariff` of its first fault, if it has one, and else that to its edition
abbrev pub AnswersTariffOver : List ℕ → Bodies → Bodies → Answer → Type 0
AnswersTariffOver text bodies left answer =
    MatchResult (edition_of text) (λ edition. AnswersOver (AnswersEdition edition bodies left) bodies answer)
    (λ fault. answer ≡ Err (ended.BadTariff fault))

-- the answer to `publish`: `Limit` where the source is too long, and else that to its tariff
abbrev pub AnswersPublish : List ℕ → Bodies → Bodies → Answer → Type 0
AnswersPublish source bodies left answer =
    MatchBool (nat_lt MOST_TEXT (length source)) (answer ≡ Err ended.Limit)
    (AnswersTariffOver source bodies left answer)

-- all bodies are in the canonical spelling of their editions, and the answer is how many weren't
abbrev pub MigratesAll : Bodies → Bodies → Answer → Type 0
MigratesAll bodies left answer =
    (left ≡ map canonical_body bodies) × (answer ≡ Ok (done (migrated_text (count_by is_old bodies))))

-- the answer to `migrate`, and what is left of the bodies, where they stand for editions
abbrev pub AnswersMigrate : Bodies → Bodies → Answer → Type 0
AnswersMigrate bodies left answer = AnswersOver (λ _. MigratesAll bodies left) bodies answer

-- the bodies at some first places are in the canonical spelling of their editions, the others are as before, and they
-- stand for the same editions, or have the same damage
abbrev pub MayMigrate : Bodies → Bodies → Type 0
MayMigrate bodies left = MigratesInPart bodies left × SameEditions bodies left

-- a refusal leaves the bodies
abbrev pub RefusalLeaves : Answer → Bodies → Bodies → Type 0
RefusalLeaves (Ok text) bodies left = ⊤
RefusalLeaves (Err exit) bodies left = left ≡ bodies

-- the bodies of a store, where they are told
abbrev pub Told : Type 0
Told = Option Bodies

-- where a store tells the bodies that are left, this holds of those with which it was opened, which are the ones that
-- it told before, if it did, and of those that are left
abbrev pub OverStore : Told → Told → (Bodies → Bodies → Type 0) → Type 0
OverStore before after relation =
    IfSome after (λ left. (opened : Bodies) × IfSome before (λ bodies. bodies ≡ opened) × relation opened left)

-- the bodies are left, and this answer to them is right
abbrev pub ReadsStore : Told → Told → (Bodies → Type 0) → Type 0
ReadsStore before after answers = OverStore before after (λ bodies left. answers bodies × (left ≡ bodies))
