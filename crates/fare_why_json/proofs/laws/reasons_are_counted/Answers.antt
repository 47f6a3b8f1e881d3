use Rattle.std.proofs.Common.{arith}
use Rattle.fare_why_json.proofs.laws.reasons_are_counted.Goals as goal

pub returns : goal.returns
returns c k d low = c.loop-one.invariant k d (omega arith)
