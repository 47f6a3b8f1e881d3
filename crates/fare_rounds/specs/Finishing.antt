-- How the connections that a round holds are answered.
use Rattle.std.specs.Prelude.{◌≡◌, ℕ, ◌+◌, ◌≤◌, List, [], ◌∷◌, Option, None, Some, All, MatchBool, map, option_map}
use Rattle.fare_http.specs.declared.reply.Reply.{Reply}
use Rattle.fare_http.specs.declared.request.Request.{Request}
use Rattle.fare_http.specs.declared.sending.Exchange.{Exchange}
use Rattle.fare_http.specs.declared.sending.Exchange.TheVariants.{Served, Cut}
use Rattle.fare_http.specs.Answers.{answer_bytes}
use Rattle.fare_http.specs.Serving.{IsFrontOf}
use Rattle.fare_ports.specs.Door.{with_more_at}
use Rattle.fare_rounds.specs.declared.entry.Entry.{Entry}
use Rattle.fare_rounds.specs.Entries.{is_publication}
use Rattle.fare_rounds.specs.Taking.{RoseBy}

-- an answer: the reply, none being want of memory, how its exchange ended, the bytes sent, and how many of its writes
-- failed
pub record Answered : Type 0 where
  pub reply : Option Reply
  pub ending : Exchange
  pub sent : List ℕ
  pub failures : ℕ

-- how many writes failed
abbrev pub failed_writes : List Answered → ℕ
failed_writes [] = 0
failed_writes (answer ∷ answered) = answer.failures + failed_writes answered

-- how many exchanges were served
abbrev pub served_count : List Exchange → ℕ
served_count [] = 0
served_count (Served ∷ endings) = served_count endings + 1
served_count (Cut ∷ endings) = served_count endings

-- how many exchanges were cut off
abbrev pub cut_count : List Exchange → ℕ
cut_count [] = 0
cut_count (Served ∷ endings) = cut_count endings
cut_count (Cut ∷ endings) = cut_count endings + 1

-- these bytes of an answer were sent: all of them, or some first ones where a write failed
abbrev pub SentAs : ℕ → Exchange → List ℕ → List ℕ → Type 0
SentAs failures Served answer sent = sent ≡ answer
SentAs failures Cut answer sent = (1 ≤ failures) × IsFrontOf answer sent

-- an answer was sent
abbrev pub IsSent : Answered → Type 0
IsSent answered = SentAs answered.failures answered.ending (answer_bytes answered.reply) answered.sent

-- what was sent, with each of these pieces more on the connection of its place
abbrev pub sent_each : List ℕ → List (List ℕ) → List (List ℕ) → List (List ℕ)
sent_each [] pieces lists = lists
sent_each (place ∷ places) [] lists = lists
sent_each (place ∷ places) (piece ∷ pieces) lists = sent_each places pieces (with_more_at (Some place) piece lists)

-- these answers were sent, each on the connection of its place, in order; each failed write was counted
pub record Answers (places : List ℕ) (old new : Option (List (List ℕ))) (before after : ℕ) (answered : List Answered)
    : Type 0 where
  pub each : All IsSent answered
  pub failed : RoseBy (failed_writes answered) before after
  pub sent : new ≡ option_map (sent_each places (map (λ answer. answer.sent) answered)) old

module _ {H : Type 0} (step : H → List ℕ → List ℕ → List ℕ → Option Reply → H → Type 0) where
  -- a `POST /editions` is answered by one step of the handler; all else keeps its own reply, and the handler is as
  -- before
  abbrev pub IsReplied : Option Request → Option Reply → H → Option Reply → H → Type 0
  IsReplied None own old reply new = (reply ≡ own) × (new ≡ old)
  IsReplied (Some request) own old reply new =
      MatchBool (is_publication request.method request.path)
      (step old request.method request.path request.body reply new) ((reply ≡ own) × (new ≡ old))

  -- the replies of the entries, each `POST /editions` being answered in the order of arrival
  abbrev pub InTurn : List Entry → H → List (Option Reply) → H → Type 0
  InTurn [] old [] new = new ≡ old
  InTurn [] old (reply ∷ replies) new = ⊥
  InTurn (entry ∷ entries) old [] new = ⊥
  InTurn (entry ∷ entries) old (reply ∷ replies) new =
      (between : H) × IsReplied entry.request entry.reply old reply between × InTurn entries between replies new
