-- What a counter does with a request: it answers its own routes and changes nothing, and any other request is its
-- desk's. The path chooses the form and the route, then the method is looked at, then the parameter and the body.
use Rattle.std.specs.Prelude.{◌≡◌, ℕ, List, Option, IfSome, MatchOption}
use Rattle.fare_trip.specs.ItineraryText.{read_trip}
use Rattle.fare_tariff.specs.Tariff.{Tariff}
use Rattle.fare_http.specs.declared.reply.Form.{Form}
use Rattle.fare_http.specs.declared.reply.Reply.{Reply}
use Rattle.fare_desk.specs.Publishing.{DeskState, IsDeskStep}
use Rattle.fare_desk.specs.Replies.{IsAskedBy, form_of}
use Rattle.fare_desk.specs.Viewing.{IsAnswer}
use Rattle.fare_counter.specs.AuditReply.{IsAuditReply}
use Rattle.fare_counter.specs.BestReply.{IsBestReply, asked_count, count_text}
use Rattle.fare_counter.specs.CheckReply.{check_reply}
use Rattle.fare_counter.specs.DiffReply.{diff_reply}
use Rattle.fare_counter.specs.Routes.{counter_route_of, method_of}
use Rattle.fare_counter.specs.WhyReply.{IsWhyReply}
use Rattle.fare_counter.specs.declared.routes.CounterRoute.{CounterRoute}
use Rattle.fare_counter.specs.declared.routes.CounterRoute.TheVariants.{Best, Audit, Why, Check, Diff}

-- the reply of each of the counter's own routes that is asked by its method
abbrev pub IsReplyAt : Form → List Tariff → CounterRoute → List ℕ → List ℕ → Reply → Type 0
IsReplyAt form editions Best path body reply =
    IsBestReply form editions (asked_count (count_text form path)) body reply
IsReplyAt form editions Audit path body reply = IsAuditReply form editions body reply
IsReplyAt form editions Why path body reply = IsWhyReply form editions (read_trip body) reply
IsReplyAt form editions Check path body reply = reply ≡ check_reply body
IsReplyAt form editions Diff path body reply = reply ≡ diff_reply editions path

-- the reply of each of the counter's own routes, which are asked by one method alone
abbrev pub IsOwnReply : List Tariff → CounterRoute → List ℕ → List ℕ → List ℕ → Reply → Type 0
IsOwnReply editions route method path body reply =
    IsAskedBy (form_of path) (method_of route) method reply
    (IsReplyAt (form_of path) editions route path body reply)

-- the answer to a request that changes nothing: that of the counter's own route, where the path takes one, else the
-- desk's
abbrev pub IsCounterAnswer : List Tariff → List ℕ → List ℕ → List ℕ → Reply → Type 0
IsCounterAnswer editions method path body reply =
    MatchOption (counter_route_of path) (IsAnswer editions method path body reply)
    (λ route. IsOwnReply editions route method path body reply)

-- a request of the counter's own routes changes nothing, and is answered unless memory is wanting; any other is a step
-- of the desk
abbrev pub IsCounterStep : DeskState → DeskState → List ℕ → List ℕ → List ℕ → Option Reply → Type 0
IsCounterStep old new method path body reply =
    MatchOption (counter_route_of path) (IsDeskStep old new method path body reply)
    (λ route. (new ≡ old) × IfSome reply (IsOwnReply old.book.editions route method path body))
