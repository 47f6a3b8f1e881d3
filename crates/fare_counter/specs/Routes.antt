-- The routes that a counter answers itself, and which of them a path takes.
use Rattle.std.specs.Prelude.{ℕ, List, [], Option, option_map, Result, Ok, Err, codes}
use Rattle.matchit.specs.Order.{placed}
use Rattle.matchit.specs.Route.{Scan, parse_route}
use Rattle.matchit.specs.Router.{RouteOf, route_from}
use Rattle.matchit.specs.Rows.{RowsOf}
use Rattle.matchit.specs.Seek.{first}
use Rattle.matchit.specs.declared.error.InsertError.{InsertError}
use Rattle.fare_counter.specs.declared.routes.CounterRoute.{CounterRoute}
use Rattle.fare_sentences.specs.declared.fault.OneMethod.{OneMethod}
use Rattle.fare_sentences.specs.declared.fault.OneMethod.TheVariants.{Get, Post}
use Rattle.fare_counter.specs.declared.routes.CounterRoute.TheVariants.{Best, Audit, Why, Check, Diff}

-- the rows of a router of these routes
abbrev pub RouteRows : Type 0
RouteRows = RowsOf (RouteOf CounterRoute)

-- rows with that of a pattern that reads well, in its place
abbrev pub with_scan : Result Scan InsertError → CounterRoute → RouteRows → RouteRows
with_scan (Ok scan) route rows = placed (scan.pattern, route_from scan route) rows
with_scan (Err error) route rows = rows

-- rows with that of one more pattern
abbrev pub with_pattern : List ℕ → CounterRoute → RouteRows → RouteRows
with_pattern pattern route rows = with_scan (parse_route pattern) route rows

-- the rows of a counter
unfoldable pub counter_rows : RouteRows
counter_rows =
    with_pattern (codes "/json/why") Why
    (with_pattern (codes "/json/audit") Audit
    (with_pattern (codes "/json/best/{k}") Best
    (with_pattern (codes "/editions/{n}/diff/{m}") Diff
    (with_pattern (codes "/check") Check
    (with_pattern (codes "/why") Why
    (with_pattern (codes "/audit") Audit
    (with_pattern (codes "/best/{k}") Best [])))))))

-- the route that a path takes among the counter's own
abbrev pub counter_route_of : List ℕ → Option CounterRoute
counter_route_of path = option_map (λ row. row.value) (first counter_rows path)

-- the one method of a route
abbrev pub method_of : CounterRoute → OneMethod
method_of Best = Post
method_of Audit = Post
method_of Why = Post
method_of Check = Post
method_of Diff = Get
