-- what was searched for each kind, in order, and what of it is there
use Rattle.std.proofs.Common.{List, map, subst}
use Rattle.fare_relaxed.specs.declared.term.Term.{Term}
use Rattle.fare_relaxed.specs.Terms.{all_terms}
use Rattle.fare_why.specs.Asked.{AreSearched, shown_in}
use Rattle.fare_why.proofs.Gathered.{zipped}
use Rattle.fare_why.proofs.explaining.reasons_of.Goals as goal

pub returns : goal.returns
returns g c =
    let searched : AreSearched c.args.asked.now.edition.now c.args.asked.now.trip.now c.args.asked.now.total all_terms c.in_ok-slots.slots.items =
    subst (λ (terms : List Term). AreSearched c.args.asked.now.edition.now c.args.asked.now.trip.now c.args.asked.now.total terms c.in_ok-slots.slots.items) c.all_terms-terms.ensures c.in_ok-slots.ensures in (
      map shown_in c.in_ok-slots.slots.items,
      zipped c.args.asked.now.edition.now c.args.asked.now.trip.now c.args.asked.now.total all_terms c.in_ok-slots.slots.items searched c.in_ok-reasons.ensures.there,
      c.in_ok-reasons.ensures.shown,
    )
