-- the earliest so far
use Rattle.std.proofs.Common.{take}
use Rattle.fare_split.specs.Rows.{IsEarliest}
use Rattle.fare_split.proofs.earliest.earliest.Given as goal

abbrev pub invariant-loop-result : goal.invariant-loop-result
invariant-loop-result l = IsEarliest (take l.result-index l.results) l.best
