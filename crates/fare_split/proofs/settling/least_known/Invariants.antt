-- the least with what is left
use Rattle.std.proofs.Common.{◌≡◌, drop}
use Rattle.fare_branch.specs.declared.bound.TheConstants.{NO_PRICE}
use Rattle.fare_split.specs.Workers.{least_from}
use Rattle.fare_split.proofs.settling.least_known.Given as goal

abbrev pub invariant-loop-worker : goal.invariant-loop-worker
invariant-loop-worker l = least_from l.least (drop l.worker-index l.workers) ≡ least_from NO_PRICE l.workers
