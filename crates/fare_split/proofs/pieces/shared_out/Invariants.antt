-- the pieces so far share out the choices up to their end
use Rattle.std.proofs.Common.{◌≡◌, ◌≤◌, ◌+◌, length}
use Rattle.fare_split.proofs.RangeLemmas.{AreUpTo}
use Rattle.fare_split.proofs.pieces.shared_out.Given as goal

abbrev pub invariant-loop-place : goal.invariant-loop-place
invariant-loop-place l = record {
  many : length l.pieces.items + 1 ≡ l.place;
  within : l.place ≤ l.fn.workers;
  low : l.first ≤ l.count;
  split : AreUpTo l.first l.pieces.items;
}
