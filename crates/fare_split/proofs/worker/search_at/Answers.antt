use Rattle.std.proofs.Common.{length, arith}
use Rattle.fare_branch.proofs.ShareLemmas.{are_falls}
use Rattle.fare_split.proofs.worker.search_at.Goals as goal

pub returns-clause-found : goal.returns-clause-found
returns-clause-found g c =
    are_falls (record { number = c.args.number; count = length c.args.plan.now.pieces.now }) c.args.plan.now.table.now.edition c.args.plan.now.table.now.trip
    (c.search_share-finds.new.bound.seat.me.0.least) c.seen-least.result c.args.plan.now.pieces.now c.search_share-finds.result.items (omega arith) c.search_share-finds.ensures.found
