use Rattle.std.proofs.Common.{arith}
use Rattle.fare_json.proofs.reading_back.parts_are_counted.Goals as goal

pub returns : goal.returns
returns c k d low = c.loop-one.invariant k d (omega arith)
