use Rattle.std.proofs.Common.{◌∙◌, ℕ, ◌<◌, ◌≤◌, subst}
use Rattle.fare_trip.specs.Itinerary.{Itinerary, count}
use Rattle.fare_branch.specs.LeastPrice.{least_price}
use Rattle.fare_branch.proofs.WholeLemmas.{whole_is_best}
use Rattle.fare_branch.proofs.quoter.best_by.Goals as goal

pub returns : goal.returns
returns c =
    let fixed : ℕ = least_price c.args.bound.edition.value c.args.bound.trip.value in
    let some : 0 < count c.args.table.now.trip =
    subst (λ (trip : Itinerary). 0 < count trip) c.trip.ensures
    (subst (λ n. 0 < n) c.count-sectors.ensures.value c.count-sectors.ensures.some) in
    whole_is_best c.args.table.now.edition c.args.table.now.trip c.choices.result c.choices.ensures
    (λ parts price lawful. c.first_part_is_a_choice.ensures c.args.table.now.edition c.args.table.now.trip parts price
    some lawful)
    fixed c.search.new.bound.own.least
    (subst (λ fixed. fixed ≤ c.search.new.bound.own.least) (c.search.ensures.fixed ∙ c.new-bound.ensures.fixed)
    c.search.new.bound.own.above)
    c.requires c.search.result c.search.ensures.searched
