-- The reply to an itinerary, plain or in JSON.
use Rattle.std.specs.Prelude.{◌≡◌, ℕ, List, Result, Ok, Err, MatchResult, codes}
use Rattle.fare_trip.specs.Itinerary.{Itinerary}
use Rattle.fare_trip.specs.declared.fault.TripFault.{TripFault}
use Rattle.fare_tariff.specs.Tariff.{Tariff}
use Rattle.fare_answers.specs.Quotation.{Quotation, Quotes}
use Rattle.fare_answers.specs.declared.quote_fault.QuoteFault.{QuoteFault}
use Rattle.fare_answers.specs.declared.quote_fault.QuoteFault.TheVariants.{Memory, NoEdition, UnknownPlace}
use Rattle.fare_http.specs.declared.reply.Form.{Form}
use Rattle.fare_http.specs.declared.reply.Form.TheVariants.{Text, Json}
use Rattle.fare_http.specs.declared.reply.Reply.{Reply}
use Rattle.fare_http.specs.declared.reply.Status.TheVariants.{BadRequest, InsufficientStorage, Okay}
use Rattle.fare_http.specs.declared.reply.Status.TheVariants.{UnprocessableContent}
use Rattle.fare_json.specs.Quotation.{QuotesJson}
use Rattle.fare_sentences.specs.declared.fault.Fault.TheVariants as fault
use Rattle.fare_desk.specs.Replies.{line, refused, says}

-- a quotation of a trip over the editions of a book: its worksheet, or the JSON answer
abbrev pub QuotesIn : Form → List Tariff → Itinerary → Quotation → Type 0
QuotesIn Text = Quotes
QuotesIn Json = QuotesJson

-- why a trip isn't answered; want of memory is no quotation
abbrev pub refusal_reply : Form → QuoteFault → Reply
refusal_reply form (NoEdition day) = refused form UnprocessableContent (fault.NoEdition day)
refusal_reply form (UnknownPlace city) = refused form UnprocessableContent (fault.UnknownPlace city)
refusal_reply form Memory = says Text InsufficientStorage (line (codes "NO MEMORY"))

-- a quotation's text, or its refusal
abbrev pub quotation_reply : Form → Quotation → Reply
quotation_reply form (Ok text) = says form Okay text
quotation_reply form (Err refusal) = refusal_reply form refusal

-- the reply to a trip: its quotation over the editions of the book
abbrev pub IsTripReply : Form → List Tariff → Itinerary → Reply → Type 0
IsTripReply form editions trip reply =
    (quotation : Quotation) × QuotesIn form editions trip quotation × (reply ≡ quotation_reply form quotation)

-- the first fault of an itinerary
abbrev pub fault_reply : Form → TripFault → Reply
fault_reply form bad = refused form BadRequest (fault.Trip bad)

-- the reply to an itinerary: that to its trip, or its first fault
abbrev pub IsQuoteReply : Form → List Tariff → Result Itinerary TripFault → Reply → Type 0
IsQuoteReply form editions itinerary reply =
    MatchResult itinerary (λ trip. IsTripReply form editions trip reply) (λ bad. reply ≡ fault_reply form bad)
