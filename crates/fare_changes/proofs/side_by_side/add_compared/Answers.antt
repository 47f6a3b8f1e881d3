use Rattle.fare_changes.proofs.Answered.{add_all}
use Rattle.fare_changes.proofs.side_by_side.add_compared.Goals as goal

pub returns : goal.returns
returns g c =
    add_all c.gather.result c.args.comparer.now.old.now c.args.comparer.now.new.now c.args.items.now c.in_ok-answers.answers.items
    c.deref.result.now c.args.compared.now.items c.gather.new.compared.items c.in_ok-answers.ensures c.deref.ensures.value c.gather.ensures
