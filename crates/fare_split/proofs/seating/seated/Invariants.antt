-- the workers so far, and the seat that is split
use Rattle.std.proofs.Common.{◌≡◌, All, length}
use Rattle.fare_split.specs.PriceWord.{first_view, floor_of}
use Rattle.fare_split.specs.Workers.{IsSeated}
use Rattle.fare_split.proofs.seating.seated.Given as goal

abbrev pub invariant-loop-worker : goal.invariant-loop-worker
invariant-loop-worker l = record {
  at : l.seat.table_id ≡ l.fn.word.shared.table_id;
  knows : l.seat.me.0 ≡ first_view (floor_of l.fn.word.shared.key);
  many : length l.made.items ≡ l._worker;
  seated : All (IsSeated l.fn.word.shared.table_id (floor_of l.fn.word.shared.key)) l.made.items;
}
