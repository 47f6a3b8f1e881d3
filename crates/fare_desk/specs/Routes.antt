-- The routes of requests, and which of them a path takes.
use Rattle.std.specs.Prelude.{ℕ, List, [], Option, option_map, Result, Ok, Err, codes}
use Rattle.matchit.specs.Order.{placed}
use Rattle.matchit.specs.Route.{Scan, parse_route}
use Rattle.matchit.specs.Router.{RouteOf, route_from}
use Rattle.matchit.specs.Rows.{RowsOf}
use Rattle.matchit.specs.Seek.{first}
use Rattle.matchit.specs.declared.error.InsertError.{InsertError}
use Rattle.fare_sentences.specs.declared.fault.OneMethod.{OneMethod}
use Rattle.fare_sentences.specs.declared.fault.OneMethod.TheVariants.{Get, Post}
use Rattle.fare_desk.specs.declared.routes.Route.{Route}
use Rattle.fare_desk.specs.declared.routes.Route.TheVariants.{Editions, Edition, Listing, Quote, Batch}

-- the rows of a router of these routes
abbrev pub RouteRows : Type 0
RouteRows = RowsOf (RouteOf Route)

-- rows with that of a pattern that reads well, in its place
abbrev pub with_scan : Result Scan InsertError → Route → RouteRows → RouteRows
with_scan (Ok scan) route rows = placed (scan.pattern, route_from scan route) rows
with_scan (Err error) route rows = rows

-- rows with that of one more pattern
abbrev pub with_pattern : List ℕ → Route → RouteRows → RouteRows
with_pattern pattern route rows = with_scan (parse_route pattern) route rows

-- the rows of the desk
unfoldable pub desk_rows : RouteRows
desk_rows =
    with_pattern (codes "/json/batch") Batch
    (with_pattern (codes "/json/quote") Quote
    (with_pattern (codes "/json/editions") Listing
    (with_pattern (codes "/batch") Batch
    (with_pattern (codes "/quote") Quote
    (with_pattern (codes "/editions/{n}") Edition
    (with_pattern (codes "/editions") Editions []))))))

-- the route that a path takes among the desk's
abbrev pub route_of : List ℕ → Option Route
route_of path = option_map (λ row. row.value) (first desk_rows path)

-- the method of a route, where it is said to take one. A publication is asked for at `/editions` too
abbrev pub method_of : Route → OneMethod
method_of Editions = Get
method_of Edition = Get
method_of Listing = Get
method_of Quote = Post
method_of Batch = Post
