-- A round of one connection.
use Rattle.std.proofs.Common.{◌≡◌, ◌≤◌, ℕ, Bool, true, false, List, Option, [], ◌∷◌, sym, subst, arith}
use Rattle.std.specs.Prelude.{MatchBool}
use Rattle.fare_http.specs.declared.reply.Reply.{Reply}
use Rattle.fare_http.specs.declared.sending.Exchange.{Exchange}
use Rattle.fare_http.specs.declared.sending.Exchange.TheVariants.{Served, Cut}
use Rattle.fare_http.specs.Serving.{Exchanges, IsServed, whole, fixed, wanting, ended, unread, unsent}
use Rattle.fare_ports.specs.Cause.{Rose}
use Rattle.fare_rounds.specs.Entries.{is_publication}
use Rattle.fare_rounds.specs.Rounds.{Exchanged, IsRound, RoundStep, failures_of}
use Rattle.fare_rounds.specs.Taking.{RoseBy}

module _ {H : Type 0} (step : H → List ℕ → List ℕ → List ℕ → Option Reply → H → Type 0) where
  -- at its start a step of a round is one of the handler
  first-step : (is : Bool) (old new : H) (method path body : List ℕ) (reply : Option Reply)
      → MatchBool is (step old method path body reply new) (step old method path body reply old × (new ≡ old))
      → step old method path body reply new
  first-step true old new method path body reply taken = taken
  first-step false old new method path body reply taken =
      subst (λ handler. step old method path body reply handler) (sym taken.1) taken.0

  first-served : (connection : Option (List ℕ)) (old new : H) (answer : List ℕ)
      → IsServed (RoundStep step old) connection old answer new → IsServed step connection old answer new
  first-served connection old new answer (whole request reply brings taken is) =
      whole request reply brings
      (first-step (is_publication request.method request.path) old new request.method request.path request.body reply taken)
      is
  first-served connection old new answer (fixed reply brings is stays) = fixed reply brings is stays
  first-served connection old new answer (wanting is stays) = wanting is stays

  first-exchange : (Fails : Type 0) (ending : Exchange) (connection : Option (List ℕ)) (old new : H) (sent : List ℕ)
      → Exchanges (RoundStep step old) ending connection old sent new Fails
      → Exchanges step ending connection old sent new Fails
  first-exchange Fails Served connection old new sent served = first-served connection old new sent served
  first-exchange Fails Cut connection old new sent (ended short none stays) = ended short none stays
  first-exchange Fails Cut connection old new sent (unread fails none stays) = unread fails none stays
  first-exchange Fails Cut connection old new sent (unsent answer fails served front) =
      unsent answer fails (first-served connection old new answer served) front

  -- a cause that shows another
  exchange-later : (F G : Type 0) → (F → G) → (ending : Exchange) (connection : Option (List ℕ)) (old new : H)
      (sent : List ℕ) → Exchanges step ending connection old sent new F → Exchanges step ending connection old sent new G
  exchange-later F G later Served connection old new sent served = served
  exchange-later F G later Cut connection old new sent (ended short none stays) = ended short none stays
  exchange-later F G later Cut connection old new sent (unread fails none stays) = unread (later fails) none stays
  exchange-later F G later Cut connection old new sent (unsent answer fails served front) =
      unsent answer (later fails) served front

  -- it is the exchange on that connection, whose failures are among those that were counted
  pub one-exchange : (first last : ℕ) (old new : H) (exchanged : Exchanged)
      → IsRound step old old (exchanged ∷ []) new → RoseBy (failures_of (exchanged ∷ [])) first last
      → Exchanges step exchanged.ending exchanged.connection old exchanged.sent new (Rose first last)
  one-exchange first last old new exchanged round rose =
      subst (λ handler. Exchanges step exchanged.ending exchanged.connection old exchanged.sent handler (Rose first last))
      (sym round.2)
      (exchange-later (1 ≤ exchanged.failures) (Rose first last) (λ some. omega (arith, some, rose)) exchanged.ending
      exchanged.connection old round.0 exchanged.sent
      (first-exchange (1 ≤ exchanged.failures) exchanged.ending exchanged.connection old round.0 exchanged.sent round.1))
