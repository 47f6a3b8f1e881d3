use Rattle.std.proofs.Common.{◌≡◌}
use Rattle.std.specs.Prelude.{Ok}
use Rattle.fare_csv.specs.Joined.{joined}
use Rattle.fare_csv.proofs.read_pieces.joined.Given as goal

abbrev pub invariant-loop-found : goal.invariant-loop-found
invariant-loop-found l = joined l.yielded ≡ Ok l.records.items
