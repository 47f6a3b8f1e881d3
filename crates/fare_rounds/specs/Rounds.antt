-- What a round makes of the bytes that its connections bring, and of a handler.
use Rattle.std.specs.Prelude.{◌≡◌, ◌≤◌, ◌+◌, ℕ, List, [], ◌∷◌, Option, MatchBool}
use Rattle.fare_http.specs.declared.reply.Reply.{Reply}
use Rattle.fare_http.specs.declared.sending.Exchange.{Exchange}
use Rattle.fare_http.specs.Serving.{Exchanges}
use Rattle.fare_rounds.specs.Entries.{is_publication}

-- the exchange on one connection of a round: what it brings, how it ended, the bytes sent, and how many of its reads and
-- writes failed
pub record Exchanged : Type 0 where
  pub connection : Option (List ℕ)
  pub ending : Exchange
  pub sent : List ℕ
  pub failures : ℕ

-- how many reads and writes failed in all
abbrev pub failures_of : List Exchanged → ℕ
failures_of [] = 0
failures_of (exchanged ∷ later) = exchanged.failures + failures_of later

module _ {H : Type 0} (step : H → List ℕ → List ℕ → List ℕ → Option Reply → H → Type 0) where
  -- one request of a round that began with this handler: a `POST /editions` is one step of the handler; any other has
  -- an answer that the handler had at the round's start, staying as it was, and leaves the handler as before
  abbrev pub RoundStep : H → H → List ℕ → List ℕ → List ℕ → Option Reply → H → Type 0
  RoundStep start old method path body reply new =
      MatchBool (is_publication method path) (step old method path body reply new)
      (step start method path body reply start × (new ≡ old))

  -- the connections of a round, in the order of arrival: each one's exchange is that of serving it with such a step, and
  -- only its own failures cut it off
  abbrev pub IsRound : H → H → List Exchanged → H → Type 0
  IsRound start old [] new = new ≡ old
  IsRound start old (exchanged ∷ later) new =
      (between : H)
      × Exchanges (RoundStep start) exchanged.ending exchanged.connection old exchanged.sent between
      (1 ≤ exchanged.failures)
      × IsRound start between later new
