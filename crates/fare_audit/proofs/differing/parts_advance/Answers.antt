use Rattle.fare_audit.proofs.AdvanceLemmas.{line_advances, line_is_short}
use Rattle.fare_audit.proofs.differing.parts_advance.Goals as goal

pub returns-clause-advances : goal.returns-clause-advances
returns-clause-advances c = line_advances c.args.trip.now c.args.line.now c.law.ensures c.requires

pub returns-clause-few : goal.returns-clause-few
returns-clause-few c = line_is_short c.args.line.now c.law.ensures
