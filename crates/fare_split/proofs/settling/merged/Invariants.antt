-- the earliest with what is left
use Rattle.std.proofs.Common.{◌≡◌, None, drop}
use Rattle.fare_split.specs.Workers.{merged_from}
use Rattle.fare_split.proofs.settling.merged.Given as goal

abbrev pub invariant-loop-worker : goal.invariant-loop-worker
invariant-loop-worker l = merged_from l.best (drop l.worker-index l.workers) l.number ≡ merged_from None l.workers l.number
