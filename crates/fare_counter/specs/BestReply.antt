-- The reply to a trip whose first constructions are asked for, plain or in JSON: the parameter first, then the
-- itinerary, then the trip.
use Rattle.std.specs.Prelude.{◌≡◌, ℕ, List, length, drop, Option, Some, None, Result, codes, MatchResult}
use Rattle.fare_codes.specs.declared.limits.TheConstants.{MOST_BEST}
use Rattle.fare_codes.specs.Numbers.{read_number}
use Rattle.fare_trip.specs.Itinerary.{Itinerary}
use Rattle.fare_trip.specs.ItineraryText.{read_trip}
use Rattle.fare_trip.specs.declared.fault.TripFault.{TripFault}
use Rattle.fare_tariff.specs.Tariff.{Tariff}
use Rattle.fare_csv.specs.Numbers.{above_zero}
use Rattle.fare_http.specs.declared.reply.Form.{Form}
use Rattle.fare_http.specs.declared.reply.Form.TheVariants.{Text, Json}
use Rattle.fare_http.specs.declared.reply.Reply.{Reply}
use Rattle.fare_answers.specs.BestText.{BestOver}
use Rattle.fare_answers.specs.Quotation.{Quotation}
use Rattle.fare_json.specs.BestData.{BestJson}
use Rattle.fare_desk.specs.Quoting.{fault_reply, quotation_reply}
use Rattle.fare_desk.specs.Replies.{no_route}

-- how many constructions may be asked for is 1 to MOST_BEST, written without a zero in front
abbrev pub asked_count : List ℕ → Option ℕ
asked_count text = above_zero (read_number MOST_BEST text)

-- what stands in a path of a form before the number of constructions
abbrev pub before_count : Form → List ℕ
before_count Text = codes "/best/"
before_count Json = codes "/json/best/"

-- what stands behind it
abbrev pub count_text : Form → List ℕ → List ℕ
count_text form path = drop (length (before_count form)) path

-- the first k constructions of a trip over the editions of a book: their text, or the JSON answer
abbrev pub BestIn : Form → List Tariff → Itinerary → ℕ → Quotation → Type 0
BestIn Text = BestOver
BestIn Json = BestJson

-- the reply to a trip: its first constructions over the editions of a book, or why there are none
abbrev pub IsFirstReply : Form → List Tariff → ℕ → Itinerary → Reply → Type 0
IsFirstReply form editions k trip reply =
    (quotation : Quotation) × BestIn form editions trip k quotation × (reply ≡ quotation_reply form quotation)

-- the reply to an itinerary: that to its trip, or its first fault
abbrev pub IsFirstOf : Form → List Tariff → ℕ → Result Itinerary TripFault → Reply → Type 0
IsFirstOf form editions k itinerary reply =
    MatchResult itinerary (λ trip. IsFirstReply form editions k trip reply) (λ bad. reply ≡ fault_reply form bad)

-- the reply to the text of an itinerary, whatever it is, where so many are asked for; what is no such number has no
-- route
abbrev pub IsBestReply : Form → List Tariff → Option ℕ → List ℕ → Reply → Type 0
IsBestReply form editions None body reply = reply ≡ no_route form
IsBestReply form editions (Some k) body reply = IsFirstOf form editions k (read_trip body) reply
