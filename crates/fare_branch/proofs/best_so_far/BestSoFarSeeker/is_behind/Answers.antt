use Rattle.std.proofs.Common.{sym, ◌∙◌}
use Rattle.fare_branch.proofs.ShareLemmas.{beaten_in}
use Rattle.fare_branch.proofs.best_so_far.BestSoFarSeeker.is_behind.Goals as goal

pub returns-else-is_other : goal.returns-else-is_other
returns-else-is_other g c beaten tariff trip holds =
    beaten_in c.args.self.now.share (g.B.Bound.least c.args._bound.now) c.args.floor c.args.self.now.found c.args.front.now (sym c.is_beaten.ensures ∙ beaten)
