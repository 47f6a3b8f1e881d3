-- the key isn't at the places that were passed
use Rattle.std.proofs.Common.{map}
use Rattle.fare_index.proofs.Walked.{IsWalked, left_from}
use Rattle.fare_index.proofs.places.seek.Given as goal

abbrev pub invariant-loop-place : goal.invariant-loop-place
invariant-loop-place g l = IsWalked l.places.slots (map g.T.Keyed.key_of l.items) l.key l.from l.at

abbrev pub decreases-loop-place : goal.decreases-loop-place
decreases-loop-place g l = left_from (map g.T.Keyed.key_of l.items) l.at
