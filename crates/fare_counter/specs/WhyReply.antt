-- The reply to a trip of which it is asked what would make it cheaper, plain or in JSON.
use Rattle.std.specs.Prelude.{◌≡◌, ℕ, List, Result, MatchResult}
use Rattle.fare_trip.specs.Itinerary.{Itinerary}
use Rattle.fare_trip.specs.declared.fault.TripFault.{TripFault}
use Rattle.fare_tariff.specs.Tariff.{Tariff}
use Rattle.fare_answers.specs.Quotation.{Quotation}
use Rattle.fare_http.specs.declared.reply.Form.{Form}
use Rattle.fare_http.specs.declared.reply.Form.TheVariants.{Text, Json}
use Rattle.fare_http.specs.declared.reply.Reply.{Reply}
use Rattle.fare_why.specs.WhyText.{WhyOver}
use Rattle.fare_why_json.specs.WhyData.{WhyJsonOver}
use Rattle.fare_desk.specs.Quoting.{fault_reply, quotation_reply}

-- the reasons of a trip over the editions of a book: their text, or the JSON answer
abbrev pub WhyIn : Form → List Tariff → Itinerary → Quotation → Type 0
WhyIn Text = WhyOver
WhyIn Json = WhyJsonOver

-- the reply to a trip: its reasons over the editions of a book, or why there are none
abbrev pub IsReasonsReply : Form → List Tariff → Itinerary → Reply → Type 0
IsReasonsReply form editions trip reply =
    (quotation : Quotation) × WhyIn form editions trip quotation × (reply ≡ quotation_reply form quotation)

-- the reply to an itinerary: that to its trip, or its first fault
abbrev pub IsWhyReply : Form → List Tariff → Result Itinerary TripFault → Reply → Type 0
IsWhyReply form editions itinerary reply =
    MatchResult itinerary (λ trip. IsReasonsReply form editions trip reply) (λ bad. reply ≡ fault_reply form bad)
