-- What `price` answers. Each definition looks at one thing, in the order in which the refusals come: the length of the
-- source, its tariff, its itinerary, and its quotation.
use Rattle.std.specs.Prelude.{◌≡◌, ℕ, Bool, List, [], ◌∷◌, Result, Err, MatchResult, MatchBool, nat_lt, length}
use Rattle.fare_words.specs.declared.asked.Asked.{Asked}
use Rattle.fare_trip.specs.Itinerary.{Itinerary}
use Rattle.fare_trip.specs.declared.fault.TripFault.{TripFault}
use Rattle.fare_tariff.specs.Tariff.{Tariff}
use Rattle.fare_csv.specs.TariffText.{edition_of}
use Rattle.fare_commands.specs.declared.exit.Exit.TheVariants as ended
use Rattle.fare_commands.specs.Answer.{Answer}
use Rattle.fare_commands.specs.CheckOutcome.{tariff_refusal}
use Rattle.fare_commands.specs.Input.{itinerary_text, tariff_text, itinerary_of}
use Rattle.fare_commands.specs.declared.limits.TheConstants.{MOST_PRICED}
use Rattle.fare_commands.specs.StoreOutcome.{AnswersTrip}

-- the answer to an itinerary over the book of one edition: `BadTrip` of its first fault, if it has one
abbrev pub AnswersItinerary : Asked → Bool → Tariff → Result Itinerary TripFault → Answer → Type 0
AnswersItinerary asked json tariff itinerary answer =
    MatchResult itinerary (λ trip. AnswersTrip asked json trip (tariff ∷ []) answer)
    (λ fault. answer ≡ Err (ended.BadTrip fault))

-- the answer to a source that isn't too long: `BadTariff` of the first fault of its tariff text, if that has one
unfoldable pub AnswersSource : Asked → Bool → List ℕ → Answer → Type 0
AnswersSource asked json source answer =
    MatchResult (edition_of (tariff_text source))
    (λ tariff. AnswersItinerary asked json tariff (itinerary_of (itinerary_text source)) answer)
    (λ fault. answer ≡ tariff_refusal json (tariff_text source) fault)

-- the answer to the source of `price`: `Limit` where it holds more bytes than that
abbrev pub AnswersPrice : Asked → Bool → List ℕ → Answer → Type 0
AnswersPrice asked json source answer =
    MatchBool (nat_lt MOST_PRICED (length source)) (answer ≡ Err ended.Limit) (AnswersSource asked json source answer)
