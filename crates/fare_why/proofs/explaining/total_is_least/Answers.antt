use Rattle.std.proofs.Common.{◌≡◌, ℕ, sym, subst}
use Rattle.std.specs.Prelude.{Option, IfSome}
use Rattle.fare_branch.specs.LeastPrice.{least_price}
use Rattle.fare_why.specs.Asked.{NoneIsCheaper}
use Rattle.fare_why.proofs.Known.{best_is_least, none_cheaper}
use Rattle.fare_why.proofs.explaining.total_is_least.Goals as goal

pub returns : goal.returns
returns c = record {
  reached = subst (λ (total : Option ℕ). IfSome total (λ price. price ≡ least_price c.args.edition.now c.args.trip.now)) (sym c.requires.total)
      (best_is_least c.args.edition.now c.args.trip.now c.args.best.now c.requires.best);
  least = subst (λ (total : Option ℕ). NoneIsCheaper c.args.edition.now c.args.trip.now total) (sym c.requires.total)
      (none_cheaper c.args.edition.now c.args.trip.now c.args.best.now c.requires.best);
}
