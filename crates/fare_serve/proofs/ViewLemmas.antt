-- What is served by a handler, told of what a view shows of it.
use Rattle.std.proofs.Common.{◌≡◌, ◌≤◌, ℕ, List, [], ◌∷◌, Option, Bool, true, false, Result, Ok, Err, Vec, refl, ap}
use Rattle.std.specs.Prelude.{MatchBool}
use Rattle.fare_http.specs.declared.reply.Reply.{Reply}
use Rattle.fare_http.specs.declared.sending.Exchange.{Exchange}
use Rattle.fare_http.specs.declared.sending.Exchange.TheVariants.{Served, Cut}
use Rattle.fare_http.specs.Serving.{Exchanges, IsServed, IsCutOff, whole, fixed, wanting, ended, unread, unsent}
use Rattle.fare_rounds.specs.Entries.{is_publication}
use Rattle.fare_rounds.specs.Rounds.{Exchanged, IsRound, RoundStep}
use Rattle.fare_serve.specs.Service.{AreRounds, DoorState, IsNextRound, IsService, ServesAll, ServesSome, Standing}

module _ {H S : Type 0} (view : H → S)
    (step : H → List ℕ → List ℕ → List ℕ → Option Reply → H → Type 0)
    (shown : S → List ℕ → List ℕ → List ℕ → Option Reply → S → Type 0)
    (shows : (old : H) (method path body : List ℕ) (reply : Option Reply) (new : H) → step old method path body reply new
    → shown (view old) method path body reply (view new)) where
  served-as : (connection : Option (List ℕ)) (old : H) (answer : List ℕ) (new : H) → IsServed step connection old answer new
      → IsServed shown connection (view old) answer (view new)
  served-as connection old answer new (whole request reply brings steps is) =
      whole request reply brings (shows old request.method request.path request.body reply new steps) is
  served-as connection old answer new (fixed reply brings is same) = fixed reply brings is (ap view same)
  served-as connection old answer new (wanting is same) = wanting is (ap view same)

  cut-as : (connection : Option (List ℕ)) (old : H) (sent : List ℕ) (new : H) (Fails : Type 0)
      → IsCutOff step connection old sent new Fails → IsCutOff shown connection (view old) sent (view new) Fails
  cut-as connection old sent new Fails (ended brings none same) = ended brings none (ap view same)
  cut-as connection old sent new Fails (unread fails none same) = unread fails none (ap view same)
  cut-as connection old sent new Fails (unsent answer fails served front) =
      unsent answer fails (served-as connection old answer new served) front

  pub exchange-as : (ending : Exchange) (connection : Option (List ℕ)) (old : H) (sent : List ℕ) (new : H) (Fails : Type 0)
      → Exchanges step ending connection old sent new Fails → Exchanges shown ending connection (view old) sent (view new) Fails
  exchange-as Served connection old sent new Fails served = served-as connection old sent new served
  exchange-as Cut connection old sent new Fails cut = cut-as connection old sent new Fails cut

  pub round-step-as : (start : H) (old : H) (method path body : List ℕ) (reply : Option Reply) (new : H)
      → RoundStep step start old method path body reply new
      → RoundStep shown (view start) (view old) method path body reply (view new)
  round-step-as start old method path body reply new taken = by (is_publication method path) taken
    where
      by : (test : Bool)
          → MatchBool test (step old method path body reply new) (step start method path body reply start × (new ≡ old))
          → MatchBool test (shown (view old) method path body reply (view new))
          (shown (view start) method path body reply (view start) × (view new ≡ view old))
      by true taken = shows old method path body reply new taken
      by false taken = (shows start method path body reply start taken.0, ap view taken.1)

module _ {H S : Type 0} (view : H → S)
    (step : H → List ℕ → List ℕ → List ℕ → Option Reply → H → Type 0)
    (shown : S → List ℕ → List ℕ → List ℕ → Option Reply → S → Type 0)
    (shows : (old : H) (method path body : List ℕ) (reply : Option Reply) (new : H) → step old method path body reply new
    → shown (view old) method path body reply (view new)) where
  round-as : (start old : H) (round : List Exchanged) (new : H) → IsRound step start old round new
      → IsRound shown (view start) (view old) round (view new)
  round-as start old [] new same = ap view same
  round-as start old (exchanged ∷ later) new are = (
    view are.0,
    exchange-as view (RoundStep step start) (RoundStep shown (view start))
        (round-step-as view step shown shows start) exchanged.ending exchanged.connection old exchanged.sent are.0
        (1 ≤ exchanged.failures) are.1,
    round-as start are.0 later new are.2,
  )

  -- what stands between two rounds, with what the view shows of the handler
  abbrev pub seen : Standing H → Standing S
  seen state = record { handler = view state.handler; door = state.door; served = state.served; cut = state.cut }

  next-as : (count most : ℕ) (old new : Standing H) (round : List Exchanged) → IsNextRound step count most old new round
      → IsNextRound shown count most (seen old) (seen new) round
  next-as count most old new round next = record {
    exchanges = round-as old.handler old.handler round new.handler next.exchanges;
    failed = next.failed;
    port = next.port;
    waiting = next.waiting;
    sent = next.sent;
    served = next.served;
    cut = next.cut;
    few = next.few;
    full = next.full;
  }

  rounds-as : (count most : ℕ) (old : Standing H) (rounds : List (List Exchanged)) (new : Standing H)
      → AreRounds step count most old rounds new → AreRounds shown count most (seen old) rounds (seen new)
  rounds-as count most old [] new same = ap seen same
  rounds-as count most old (round ∷ rounds) new are =
      (seen are.0, next-as count most old are.0 round are.1, rounds-as count most are.0 rounds new are.2)

  service-as : (count most port : ℕ) (first last : H) (before after : DoorState) (served cut : ℕ)
      → IsService step count most port first last before after served cut
      → IsService shown count most port (view first) (view last) before after served cut
  service-as count most port first last before after served cut service = record {
    heard = service.heard;
    listened = service.listened;
    asked = service.asked;
    rounds = service.rounds;
    each = rounds-as count most
        (record {
          handler = first;
          door = record before { port = service.heard; faults = service.listened };
          served = 0;
          cut = 0;
        }) service.rounds
        (record { handler = last; door = after; served = served; cut = cut }) service.each;
    let_in = service.let_in;
    within = service.within;
  }

  -- what was served by the handler was served by what the view shows of it
  pub all-as : (count most port : ℕ) (first last : H) (before after : DoorState) (text : List ℕ)
      → ServesAll step count most port first last before after text
      → ServesAll shown count most port (view first) (view last) before after text
  all-as count most port first last before after text serves = record {
    served = serves.served;
    cut = serves.cut;
    service = service-as count most port first last before after serves.served serves.cut serves.service;
    heard = serves.heard;
    all = serves.all;
    said = serves.said;
  }

  pub some-as : (count most port : ℕ) (first last : H) (before after : DoorState)
      → ServesSome step count most port first last before after
      → ServesSome shown count most port (view first) (view last) before after
  some-as count most port first last before after serves = record {
    served = serves.served;
    cut = serves.cut;
    service = service-as count most port first last before after serves.served serves.cut serves.service;
  }
