-- the results so far
use Rattle.std.proofs.Common.{◌≡◌, length}
use Rattle.fare_split.specs.Workers.{results_of}
use Rattle.fare_split.proofs.settling.settled.Given as goal

abbrev pub invariant-loop-number : goal.invariant-loop-number
invariant-loop-number l = record {
  many : length l.results.items ≡ l.number;
  results : l.results.items ≡ results_of l.fn.workers l.least l.number;
}
