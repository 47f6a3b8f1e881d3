use Rattle.std.proofs.Common.{ap, codes, ◌∙◌}
use Rattle.fare_desk.specs.declared.routes.Route.TheVariants.{Editions, Edition, Listing, Quote, Batch}
use Rattle.fare_desk.specs.Routes.{desk_rows, with_pattern}
use Rattle.fare_desk.proofs.routes.Routes.new.Goals as goal

pub invariant_of-result : goal.invariant_of-result
unfolding desk_rows
invariant_of-result c =
    let editions = c.in_ok-put.ensures ∙ ap (with_pattern (codes "/editions") Editions) c.new-router.ensures in
    let edition = c.in_ok-put-2.ensures ∙ ap (with_pattern (codes "/editions/{n}") Edition) editions in
    let quote = c.in_ok-put-3.ensures ∙ ap (with_pattern (codes "/quote") Quote) edition in
    let batch = c.in_ok-put-4.ensures ∙ ap (with_pattern (codes "/batch") Batch) quote in
    let listing = c.in_ok-put-5.ensures ∙ ap (with_pattern (codes "/json/editions") Listing) batch in
    let json_quote = c.in_ok-put-6.ensures ∙ ap (with_pattern (codes "/json/quote") Quote) listing in
    record { all = c.in_ok-put-7.ensures ∙ ap (with_pattern (codes "/json/batch") Batch) json_quote }
