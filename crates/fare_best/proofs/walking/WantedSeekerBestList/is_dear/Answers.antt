use Rattle.std.proofs.Common.{sym, ◌∙◌}
use Rattle.fare_best.proofs.WalkedLemmas.{dear_is_passed}
use Rattle.fare_best.proofs.walking.WantedSeekerBestList.is_dear.Goals as goal

pub returns-clause-dear : goal.returns-clause-dear
returns-clause-dear c dear tariff trip holds =
    dear_is_passed tariff trip c.args.self.now.count c.args.self.now.limit c.args.found.now c.args.floor holds.0 holds.2 (sym c.is_dear.ensures ∙ dear)
