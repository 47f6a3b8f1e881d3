use Rattle.std.proofs.Common.{List, None, subst}
use Rattle.fare_rules.specs.declared.part.Part.{Part}
use Rattle.fare_units.specs.Walk.{Walks, Completes}
use Rattle.fare_units.proofs.StepLemmas.{best_of_walk}
use Rattle.fare_units.proofs.best.plain.plain_best.Goals as goal

pub returns : goal.returns
returns c =
    let P : List Part → Type 0 = λ xs. Walks c.args.edition.now c.args.trip.now (Completes xs) None c.walk.result in
    best_of_walk c.args.edition.now c.args.trip.now c.walk.result (subst P c.new.ensures c.walk.ensures)
