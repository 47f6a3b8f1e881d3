-- what is looked for among the entries that are left
use Rattle.std.proofs.Common.{◌≡◌, drop}
use Rattle.std.specs.Prelude.{slice_get}
use Rattle.fare_branch.proofs.ChoiceLemmas.{fares}
use Rattle.fare_branch.proofs.pieces.nth_of.Given as goal

abbrev pub invariant-loop-entry : goal.invariant-loop-entry
invariant-loop-entry l = slice_get (fares (drop l.entry-index l.entries)) l.left ≡ slice_get (fares l.fn.entries) l.fn.n
