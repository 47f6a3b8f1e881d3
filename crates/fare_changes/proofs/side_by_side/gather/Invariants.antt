-- the answers before this one were gathered
use Rattle.std.proofs.Common.{take}
use Rattle.fare_changes.proofs.Answered.{Gathered}
use Rattle.fare_changes.proofs.side_by_side.gather.Given as goal

abbrev pub invariant-loop-answer : goal.invariant-loop-answer
invariant-loop-answer l = Gathered (take l.answer-index l.answers) l.fn.compared.items l.compared.items
