-- what was walked so far
use Rattle.std.proofs.Common.{◌≡◌, ◌≤◌, max}
use Rattle.fare_branch.specs.Search.{BeginsIn}
use Rattle.fare_branch.specs.Sought.{IsWalk}
use Rattle.fare_branch.proofs.searching.walk_piece.Given as goal

abbrev pub invariant-loop-number : goal.invariant-loop-number
invariant-loop-number g l = record {
  fixed : g.S.Seeker.fixed l.seeker l.known ≡ g.S.Seeker.fixed l.fn.seeker l.fn.known;
  holds : g.S.Seeker.holds l.fn.table.edition l.fn.table.trip l.seeker l.known;
  within : l.number ≤ max l.fn.piece.first l.fn.piece.past;
  walk : IsWalk l.fn.table.edition l.fn.table.trip (BeginsIn l.fn.table.edition l.fn.table.trip (record { first = l.fn.piece.first; past = l.number })) (g.S.Seeker.passed l.fn.seeker l.fn.known) (g.S.Seeker.has l.fn.seeker l.fn.known) (g.S.Seeker.passed l.seeker l.known) (g.S.Seeker.has l.seeker l.known);
}
