-- what was found in the pieces so far
use Rattle.std.proofs.Common.{◌≡◌, take, length}
use Rattle.fare_branch.specs.Shares.{AreFoundIn}
use Rattle.fare_branch.proofs.searching.search_share.Given as goal

abbrev pub invariant-loop-piece : goal.invariant-loop-piece
invariant-loop-piece g l = record {
  fixed : g.B.Bound.fixed l.bound ≡ g.B.Bound.fixed l.fn.bound;
  many : length l.finds.items ≡ l.piece-index;
  finds : AreFoundIn l.plan.table.now.edition l.plan.table.now.trip l.share (g.B.Bound.least l.bound) (take l.piece-index l.plan.pieces.now) l.finds.items;
}
