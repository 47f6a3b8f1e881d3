use Rattle.std.proofs.Common.{arith}
use Rattle.fare_csv.proofs.NamesText.{form-step}
use Rattle.fare_csv.proofs.laws.list_law.Goals as goal

pub loop-i-preserved : goal.loop-i-preserved
loop-i-preserved c =
    let name = c.index-names-i in
    form-step c.args.names.now c.loop-i.i name.result (omega arith) name.is c.loop-i.invariant c.name_law.ensures
