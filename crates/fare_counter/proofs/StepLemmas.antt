-- A step of a counter, by the bytes of the request: a publication is a `POST /editions`.
use Rattle.std.proofs.Common.{◌≡◌, ◌≤◌, ℕ, List, Option, Some, None, Bool, true, false, refl, sym, ap, subst, codes, bytes_eq, arith}
use Rattle.std.specs.Prelude.{IfSome, MatchOption}
use Rattle.std.proofs.lemmas.Bool.{and_parts, and_from, both_ways}
use Rattle.std.proofs.lemmas.Slice.Eq.{bytes_eq-Decides}
use Rattle.matchit.proofs.OnLiterals.{matchit_on_literals}
use Rattle.fare_http.specs.declared.reply.Reply.{Reply}
use Rattle.fare_rounds.specs.Entries.{is_publication}
use Rattle.fare_desk.specs.declared.routes.Route.TheVariants.{Editions}
use Rattle.fare_desk.specs.Publishing.{AsksToPublish, DeskState, IsDeskStep}
use Rattle.fare_desk.specs.Routes.{desk_rows, route_of}
use Rattle.fare_desk.specs.Viewing.{IsAnswer}
use Rattle.fare_counter.specs.declared.routes.CounterRoute.{CounterRoute}
use Rattle.fare_counter.specs.Counter.{IsCounterAnswer, IsCounterStep, IsOwnReply}
use Rattle.fare_counter.specs.Routes.{counter_route_of}
use Rattle.fare_counter.proofs.PathLemmas.{editions_path}

editions_route : route_of (codes "/editions") ≡ Some Editions
unfolding desk_rows matchit_on_literals
editions_route = refl

asks : (method path : List ℕ) → is_publication method path ≡ true → AsksToPublish method path
asks method path test =
    let parts = and_parts (bytes_eq method (codes "POST")) (bytes_eq path (codes "/editions")) test in
    let by_path : path ≡ codes "/editions" = (bytes_eq-Decides path (codes "/editions")).0 parts.1 in
    ((bytes_eq-Decides method (codes "POST")).0 parts.0, subst (λ p. route_of p ≡ Some Editions) (sym by_path) editions_route)

asks_not : (method path : List ℕ) → is_publication method path ≡ false → AsksToPublish method path → ⊥
asks_not method path test asks =
    let by_method = (bytes_eq-Decides method (codes "POST")).1 asks.0 in
    let by_path = (bytes_eq-Decides path (codes "/editions")).1 (editions_path path asks.1) in
    both_ways (is_publication method path) test
    (and_from (bytes_eq method (codes "POST")) (bytes_eq path (codes "/editions")) by_method by_path)

-- a request that isn't a publication and has its answer, or finds memory wanting, is a step that changes nothing
pub viewed : (now : DeskState) (method path body : List ℕ) (reply : Option Reply) → is_publication method path ≡ false
    → IfSome reply (IsCounterAnswer now.book.editions method path body) → IsCounterStep now now method path body reply
viewed now method path body reply other answered = by (counter_route_of path) answered
  where
    by : (taken : Option CounterRoute)
        → IfSome reply (λ one. MatchOption taken (IsAnswer now.book.editions method path body one)
        (λ route. IsOwnReply now.book.editions route method path body one))
        → MatchOption taken (IsDeskStep now now method path body reply)
        (λ route. (now ≡ now) × IfSome reply (IsOwnReply now.book.editions route method path body))
    by None answered = record {
      publication = λ asks. absurd (asks_not method path other asks);
      view = λ not. record { stays = refl; answered = answered };
    }
    by (Some route) answered = (refl, answered)

stays-even : (old new : DeskState) → new ≡ old → old.faults ≤ new.faults
stays-even old new stays =
    let same : old.faults ≡ new.faults = ap (λ (state : DeskState). state.faults) (sym stays) in omega arith

desk-rises : (old new : DeskState) (method path body : List ℕ) (reply : Option Reply)
    → IsDeskStep old new method path body reply → old.faults ≤ new.faults
desk-rises old new method path body reply step = by (is_publication method path) refl
  where
    by : (test : Bool) → is_publication method path ≡ test → old.faults ≤ new.faults
    by true e = (step.publication (asks method path e)).never_falls
    by false e = stays-even old new (step.view (asks_not method path e)).stays

-- in no step the keeper's count of failures falls
pub rises : (old new : DeskState) (method path body : List ℕ) (reply : Option Reply)
    → IsCounterStep old new method path body reply → old.faults ≤ new.faults
rises old new method path body reply step = by (counter_route_of path) step
  where
    by : (taken : Option CounterRoute)
        → MatchOption taken (IsDeskStep old new method path body reply)
        (λ route. (new ≡ old) × IfSome reply (IsOwnReply old.book.editions route method path body))
        → old.faults ≤ new.faults
    by None taken = desk-rises old new method path body reply taken
    by (Some route) taken = stays-even old new taken.0
