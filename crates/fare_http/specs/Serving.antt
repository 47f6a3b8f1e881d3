-- What one exchange makes of the bytes that a connection brings, and of a handler. Of a connection that doesn't tell
-- them, some bytes are spoken of: then only the steps of the handler and the causes are said.
use Rattle.std.specs.Prelude.{◌≡◌, ℕ, ◌<◌, List, [], Option, length, take}
use Rattle.fare_http.specs.declared.reply.Reply.{Reply}
use Rattle.fare_http.specs.declared.request.Request.{Request}
use Rattle.fare_http.specs.declared.sending.Exchange.{Exchange}
use Rattle.fare_http.specs.declared.sending.Exchange.TheVariants.{Served, Cut}
use Rattle.fare_http.specs.Answers.{answer_bytes, no_memory_bytes, reply_bytes}
use Rattle.fare_http.specs.Heads.{Takes}
use Rattle.fare_http.specs.Refusals.{EndsInside, IsRefused}
use Rattle.fare_http.specs.Requests.{IsWhole}
use Rattle.fare_http.specs.Sending.{sent_more}

-- of what the connection brings, some first bytes were taken; this holds of what is left behind them, and of them
abbrev pub Brings : Option (List ℕ) → (Option (List ℕ) → List ℕ → Type 0) → Type 0
Brings connection property = (left : Option (List ℕ)) × Takes connection left (property left)

-- the connection brings the whole of this request
abbrev pub BringsWhole : Option (List ℕ) → Request → Type 0
BringsWhole connection request = Brings connection (λ left. IsWhole request)

-- the connection brings bytes of which this is the fixed answer
abbrev pub BringsRefused : Option (List ℕ) → Reply → Type 0
BringsRefused connection reply = Brings connection (λ left. IsRefused reply)

-- the connection ends before its request is whole
abbrev pub BringsTooLittle : Option (List ℕ) → Type 0
BringsTooLittle connection = Brings connection EndsInside

-- some first bytes of an answer, and not all of it
abbrev pub IsFrontOf : List ℕ → List ℕ → Type 0
IsFrontOf answer bytes = (count : ℕ) × (count < length answer) × (bytes ≡ take count answer)

module _ {H : Type 0} (step : H → List ℕ → List ℕ → List ℕ → Option Reply → H → Type 0) where
  -- what a connection brings is answered by these bytes, with the handler before and after: a whole request by one step
  -- of the handler; bytes that have a fixed answer by that, and the handler is as before, as it is where memory was
  -- wanting before it was asked
  pub data IsServed (connection : Option (List ℕ)) (old : H) (answer : List ℕ) (new : H) : Type 0 where
    whole : (request : Request) (reply : Option Reply) → BringsWhole connection request
        → step old request.method request.path request.body reply new → answer ≡ answer_bytes reply
        → IsServed connection old answer new
    fixed : (reply : Reply) → BringsRefused connection reply → answer ≡ reply_bytes reply → new ≡ old
        → IsServed connection old answer new
    wanting : answer ≡ no_memory_bytes → new ≡ old → IsServed connection old answer new

  -- the exchange is cut off after these bytes were sent: no byte, with the handler as before, where the connection
  -- ended before its request was whole or a read failed, and some first bytes of the answer where a write failed
  pub data IsCutOff (connection : Option (List ℕ)) (old : H) (sent : List ℕ) (new : H) (Fails : Type 0) : Type 0 where
    ended : BringsTooLittle connection → sent ≡ [] → new ≡ old → IsCutOff connection old sent new Fails
    unread : Fails → sent ≡ [] → new ≡ old → IsCutOff connection old sent new Fails
    unsent : (answer : List ℕ) → Fails → IsServed connection old answer new → IsFrontOf answer sent
        → IsCutOff connection old sent new Fails

  -- how an exchange ends: what the connection brought, the handler before, the bytes sent and the handler after, and
  -- what a failure of the door shows
  abbrev pub Exchanges : Exchange → Option (List ℕ) → H → List ℕ → H → Type 0 → Type 0
  Exchanges Served connection old sent new Fails = IsServed connection old sent new
  Exchanges Cut connection old sent new Fails = IsCutOff connection old sent new Fails

  -- the same, where the bytes sent are those by which what was sent at the current place has grown
  abbrev pub ExchangesAt : Exchange → Option (List ℕ) → H → Option ℕ → Option (List (List ℕ)) → Option (List (List ℕ))
      → H → Type 0 → Type 0
  ExchangesAt exchange connection old place before after new Fails =
      (sent : List ℕ) × (after ≡ sent_more place before sent) × Exchanges exchange connection old sent new Fails
