-- What each step of a handler keeps, what is served keeps.
use Rattle.std.proofs.Common.{◌≡◌, ◌≤◌, ℕ, List, [], ◌∷◌, Option, Bool, true, false, refl, sym, subst}
use Rattle.std.specs.Prelude.{MatchBool}
use Rattle.fare_http.specs.declared.reply.Reply.{Reply}
use Rattle.fare_http.specs.declared.sending.Exchange.{Exchange}
use Rattle.fare_http.specs.declared.sending.Exchange.TheVariants.{Served, Cut}
use Rattle.fare_http.specs.Serving.{Exchanges, IsServed, IsCutOff, whole, fixed, wanting, ended, unread, unsent}
use Rattle.fare_rounds.specs.Entries.{is_publication}
use Rattle.fare_rounds.specs.Rounds.{Exchanged, IsRound, RoundStep}
use Rattle.fare_serve.specs.Service.{AreRounds, DoorState, IsNextRound, IsService, Standing}

module _ {H : Type 0} (step : H → List ℕ → List ℕ → List ℕ → Option Reply → H → Type 0) (Keeps : H → H → Type 0)
    (same : (handler : H) → Keeps handler handler)
    (steps : (old : H) (method path body : List ℕ) (reply : Option Reply) (new : H) → step old method path body reply new
    → Keeps old new) where
  stays : (old new : H) → new ≡ old → Keeps old new
  stays old new is = subst (λ (handler : H). Keeps old handler) (sym is) (same old)

  served-keeps : (connection : Option (List ℕ)) (old : H) (answer : List ℕ) (new : H)
      → IsServed step connection old answer new → Keeps old new
  served-keeps connection old answer new (whole request reply brings taken is) =
      steps old request.method request.path request.body reply new taken
  served-keeps connection old answer new (fixed reply brings is stay) = stays old new stay
  served-keeps connection old answer new (wanting is stay) = stays old new stay

  pub exchange-keeps : (ending : Exchange) (connection : Option (List ℕ)) (old : H) (sent : List ℕ) (new : H) (Fails : Type 0)
      → Exchanges step ending connection old sent new Fails → Keeps old new
  exchange-keeps Served connection old sent new Fails served = served-keeps connection old sent new served
  exchange-keeps Cut connection old sent new Fails (ended brings none stay) = stays old new stay
  exchange-keeps Cut connection old sent new Fails (unread fails none stay) = stays old new stay
  exchange-keeps Cut connection old sent new Fails (unsent answer fails served front) =
      served-keeps connection old answer new served

  pub round-step-keeps : (start : H) (old : H) (method path body : List ℕ) (reply : Option Reply) (new : H)
      → RoundStep step start old method path body reply new → Keeps old new
  round-step-keeps start old method path body reply new taken = by (is_publication method path) taken
    where
      by : (test : Bool)
          → MatchBool test (step old method path body reply new) (step start method path body reply start × (new ≡ old))
          → Keeps old new
      by true taken = steps old method path body reply new taken
      by false taken = stays old new taken.1

module _ {H : Type 0} (step : H → List ℕ → List ℕ → List ℕ → Option Reply → H → Type 0) (Keeps : H → H → Type 0)
    (same : (handler : H) → Keeps handler handler)
    (further : (one two three : H) → Keeps one two → Keeps two three → Keeps one three)
    (steps : (old : H) (method path body : List ℕ) (reply : Option Reply) (new : H) → step old method path body reply new
    → Keeps old new) where
  round-keeps : (start old : H) (round : List Exchanged) (new : H) → IsRound step start old round new → Keeps old new
  round-keeps start old [] new is = subst (λ (handler : H). Keeps old handler) (sym is) (same old)
  round-keeps start old (exchanged ∷ later) new are =
      further old are.0 new
      (exchange-keeps (RoundStep step start) Keeps same (round-step-keeps step Keeps same steps start) exchanged.ending
      exchanged.connection old exchanged.sent are.0 (1 ≤ exchanged.failures) are.1)
      (round-keeps start are.0 later new are.2)

  rounds-keep : (count most : ℕ) (old : Standing H) (rounds : List (List Exchanged)) (new : Standing H)
      → AreRounds step count most old rounds new → Keeps old.handler new.handler
  rounds-keep count most old [] new is =
      subst (λ (state : Standing H). Keeps old.handler state.handler) (sym is) (same old.handler)
  rounds-keep count most old (round ∷ rounds) new are =
      further old.handler are.0.handler new.handler
      (round-keeps old.handler old.handler round are.0.handler are.1.exchanges)
      (rounds-keep count most are.0 rounds new are.2)

  -- whatever was served
  pub service-keeps : (count most port : ℕ) (first last : H) (before after : DoorState) (served cut : ℕ)
      → IsService step count most port first last before after served cut → Keeps first last
  service-keeps count most port first last before after served cut service =
      rounds-keep count most
      (record {
        handler = first;
        door = record before { port = service.heard; faults = service.listened };
        served = 0;
        cut = 0;
      }) service.rounds
      (record { handler = last; door = after; served = served; cut = cut }) service.each
