use Rattle.std.proofs.Common.{◌≡◌, ◌≤◌, subst, ◌∙◌, arith}
use Rattle.fare_branch.specs.LeastPrice.{least_price}
use Rattle.fare_branch.specs.Search.{IsLeastPrice}
use Rattle.fare_branch.proofs.LeastLemmas.{least_no_more, least_price_is}
use Rattle.fare_branch.proofs.plan.opening_price.Goals as goal

pub returns-clause-price : goal.returns-clause-price
returns-clause-price c =
    let is : IsLeastPrice c.args.table.now.edition c.args.table.now.trip (least_price c.new-bound.result.edition.value c.new-bound.result.trip.value) =
    subst (λ e. IsLeastPrice e c.args.table.now.trip (least_price c.new-bound.result.edition.value c.new-bound.result.trip.value)) c.edition.ensures
    (subst (λ t. IsLeastPrice c.edition.result.now t (least_price c.new-bound.result.edition.value c.new-bound.result.trip.value)) c.trip.ensures c.new-bound.ensures.fixed) in
    let low : least_price c.args.table.now.edition c.args.table.now.trip ≤ least_price c.new-bound.result.edition.value c.new-bound.result.trip.value =
    least_no_more c.args.table.now.edition c.args.table.now.trip (least_price c.args.table.now.edition c.args.table.now.trip) (least_price c.new-bound.result.edition.value c.new-bound.result.trip.value) (least_price_is c.args.table.now.edition c.args.table.now.trip) is in
    let kept : least_price c.seen.new.self.edition.value c.seen.new.self.trip.value ≡ least_price c.new-bound.result.edition.value c.new-bound.result.trip.value =
    c.seen.ensures.fixed ∙ c.opened-first.ensures.fixed in
    let floor : least_price c.seen.new.self.edition.value c.seen.new.self.trip.value ≤ c.seen.result = c.seen.ensures.floor in
    omega arith
