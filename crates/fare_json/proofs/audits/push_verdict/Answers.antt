-- Each piece stands behind the one before it.
use Rattle.std.proofs.Common.{◌++◌, append_assoc, arith, refl}
use Rattle.fare_json.proofs.audits.push_verdict.Goals as goal

pub returns-in-Figures : goal.returns-in-Figures
returns-in-Figures c = rw c.in-Figures.is c.push_numbered-in-Figures.ensures
