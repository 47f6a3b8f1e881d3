-- An exchange is served or cut off as its answer was sent.
use Rattle.std.proofs.Common.{◌≡◌, ◌≤◌, ◌⊎◌, inl, inr, ℕ, List, [], Option, take, refl, sym, ◌∙◌, arith}
use Rattle.fare_ports.specs.Cause.{Rose}
use Rattle.fare_http.specs.declared.reply.Reply.{Reply}
use Rattle.fare_http.specs.declared.sending.Exchange.{Exchange}
use Rattle.fare_http.specs.declared.sending.Exchange.TheVariants.{Served, Cut}
use Rattle.fare_http.specs.Sending.{sent_more, SentPrefix}
use Rattle.fare_http.specs.Serving.{IsServed, ExchangesAt, BringsTooLittle, ended, unread, unsent}
use Rattle.fare_http.proofs.SendingLemmas.{sent_more-nil}

-- a count that rose from a later value rose from an earlier one
pub rose-from : (first then last : ℕ) → first ≤ then → Rose then last → Rose first last
rose-from first then last grew rose = omega (arith, grew, rose)

module _ {H : Type 0} (step : H → List ℕ → List ℕ → List ℕ → Option Reply → H → Type 0) where
  -- an answer was sent, whole or in part
  pub answer-sent : (exchange : Exchange) (connection : Option (List ℕ)) (old new : H) (place : Option ℕ)
      (before after : Option (List (List ℕ))) (answer : List ℕ) (first then last : ℕ)
      → IsServed step connection old answer new → first ≤ then
      → (exchange ≡ Served → after ≡ sent_more place before answer)
      → (exchange ≡ Cut → SentPrefix place before after answer) → (exchange ≡ Cut → Rose then last)
      → ExchangesAt step exchange connection old place before after new (Rose first last)
  answer-sent Served connection old new place before after answer first then last served grew whole part rose =
      (answer, whole refl, served)
  answer-sent Cut connection old new place before after answer first then last served grew whole part rose =
      let front = part refl in
      let fails = rose-from first then last grew (rose refl) in
      (take front.0 answer, front.2, unsent answer fails served (front.0, front.1, refl))

  -- nothing was sent, since the request wasn't whole
  pub nothing-sent : (connection : Option (List ℕ)) (handler : H) (place : Option ℕ)
      (before after : Option (List (List ℕ))) (Fails : Type 0) → after ≡ before → BringsTooLittle connection ⊎ Fails
      → ExchangesAt step Cut connection handler place before after handler Fails
  nothing-sent connection handler place before after Fails stays (inl short) =
      ([], stays ∙ sym (sent_more-nil place before), ended short refl refl)
  nothing-sent connection handler place before after Fails stays (inr fails) =
      ([], stays ∙ sym (sent_more-nil place before), unread fails refl refl)
