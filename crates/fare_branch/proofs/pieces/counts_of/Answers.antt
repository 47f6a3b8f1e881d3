use Rattle.std.proofs.Common.{length-set, ◌∙◌, arith}
use Rattle.fare_branch.proofs.ChoiceLemmas.{counts_put}
use Rattle.fare_branch.proofs.pieces.counts_of.Goals as goal

pub loop-end-preserved : goal.loop-end-preserved
loop-end-preserved c = record {
  long = length-set c.loop-end.counts c.loop-end.end c.count_of.result ∙ c.loop-end.invariant.long;
  known = counts_put c.args.table.now.edition c.args.table.now.trip c.loop-end.counts c.loop-end.end c.entries.result.now c.count_of.result (omega (arith, c.loop-end.invariant.long)) c.entries.ensures.entries c.count_of.ensures c.loop-end.invariant.known;
}
