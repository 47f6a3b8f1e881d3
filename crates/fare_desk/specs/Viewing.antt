-- What a request is answered that changes nothing: the path chooses the form and the route, then the method is looked
-- at, then the parameter and the body.
use Rattle.std.specs.Prelude.{◌≡◌, ℕ, List, ◌++◌, length, drop, Option, Some, None, codes, decimal}
use Rattle.fare_codes.specs.Numbers.{read_number}
use Rattle.fare_codes.specs.declared.limits.TheConstants.{LAST_EDITION}
use Rattle.fare_trip.specs.ItineraryText.{read_trip}
use Rattle.fare_tariff.specs.Tariff.{Tariff}
use Rattle.fare_csv.specs.CanonicalText.{canonical_text}
use Rattle.fare_csv.specs.Numbers.{above_zero}
use Rattle.fare_book.specs.Book.{numbered}
use Rattle.fare_http.specs.declared.reply.Form.{Form}
use Rattle.fare_http.specs.declared.reply.Form.TheVariants.{Text, Json}
use Rattle.fare_http.specs.declared.reply.Reply.{Reply}
use Rattle.fare_http.specs.declared.reply.Status.TheVariants.{NotFound, Okay}
use Rattle.fare_answers.specs.List.{list_text}
use Rattle.fare_json.specs.JsonText.{json_line}
use Rattle.fare_json.specs.ListData.{list_data}
use Rattle.fare_desk.specs.Batching.{IsBatchReply}
use Rattle.fare_desk.specs.Quoting.{IsQuoteReply}
use Rattle.fare_desk.specs.Replies.{IsAskedBy, form_of, line, no_route, says}
use Rattle.fare_desk.specs.Routes.{method_of, route_of}
use Rattle.fare_desk.specs.declared.routes.Route.{Route}
use Rattle.fare_desk.specs.declared.routes.Route.TheVariants.{Editions, Edition, Listing, Quote, Batch}

-- the list of the editions of a book: its text, or the JSON answer
abbrev pub list_body : Form → List Tariff → List ℕ
list_body Text editions = list_text editions
list_body Json editions = json_line (list_data editions)

-- the reply that lists the editions of a book
abbrev pub list_reply : Form → List Tariff → Reply
list_reply form editions = says form Okay (list_body form editions)

-- the number of an edition is 1 to LAST_EDITION, written without a zero in front
abbrev pub edition_number : List ℕ → Option ℕ
edition_number text = above_zero (read_number LAST_EDITION text)

-- what stands in a path behind `/editions/`
abbrev pub number_text : List ℕ → List ℕ
number_text path = drop (length (codes "/editions/")) path

-- a book has no edition of this number
abbrev pub no_such_edition : ℕ → Reply
no_such_edition number = says Text NotFound (line (codes "NO SUCH EDITION " ++ decimal number))

-- the canonical text of an edition that was looked for by its number, if there is one
abbrev pub found_reply : ℕ → Option Tariff → Reply
found_reply number (Some tariff) = says Text Okay (canonical_text tariff)
found_reply number None = no_such_edition number

-- an edition of a book, by its number; what is no number of an edition has no route
abbrev pub edition_reply : List Tariff → Option ℕ → Reply
edition_reply editions None = no_route Text
edition_reply editions (Some number) = found_reply number (numbered number editions)

-- the reply of each route that is asked by its method. To a request that changes nothing `/editions` is only read
abbrev pub IsReplyAt : Form → List Tariff → Route → List ℕ → List ℕ → Reply → Type 0
IsReplyAt form editions Editions path body reply = reply ≡ list_reply form editions
IsReplyAt form editions Edition path body reply =
    reply ≡ edition_reply editions (edition_number (number_text path))
IsReplyAt form editions Listing path body reply = reply ≡ list_reply form editions
IsReplyAt form editions Quote path body reply = IsQuoteReply form editions (read_trip body) reply
IsReplyAt form editions Batch path body reply = IsBatchReply form editions body reply

-- the reply of each route, and that to a path without one
abbrev pub IsRouteReply : Form → List Tariff → Option Route → List ℕ → List ℕ → List ℕ → Reply → Type 0
IsRouteReply form editions None method path body reply = reply ≡ no_route form
IsRouteReply form editions (Some route) method path body reply =
    IsAskedBy form (method_of route) method reply (IsReplyAt form editions route path body reply)

-- the answer to a request that changes nothing, over the editions of a book
abbrev pub IsAnswer : List Tariff → List ℕ → List ℕ → List ℕ → Reply → Type 0
IsAnswer editions method path body reply = IsRouteReply (form_of path) editions (route_of path) method path body reply
