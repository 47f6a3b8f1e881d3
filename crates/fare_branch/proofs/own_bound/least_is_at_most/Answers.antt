use Rattle.fare_branch.specs.Search.{IsLeastPrice}
use Rattle.fare_branch.specs.LeastPrice.{least_price}
use Rattle.fare_branch.proofs.LeastLemmas.{least_price_is}
use Rattle.fare_branch.proofs.own_bound.least_is_at_most.Goals as goal

pub returns : goal.returns
returns c =
    let least : IsLeastPrice c.args.edition.now c.args.trip.now (least_price c.args.edition.now c.args.trip.now) =
    least_price_is c.args.edition.now c.args.trip.now in
    record { least = least; at_most = least.under c.requires.0 c.args.price c.requires.1 }
