-- nothing for each piece so far
use Rattle.std.proofs.Common.{◌≡◌, None, length}
use Rattle.std.specs.Prelude.{All}
use Rattle.fare_split.proofs.settling.unsettled.Given as goal

abbrev pub invariant-loop-piece : goal.invariant-loop-piece
invariant-loop-piece l = record {
  many : length l.results.items ≡ l._piece-index;
  none : All (λ result. result ≡ None) l.results.items;
}
