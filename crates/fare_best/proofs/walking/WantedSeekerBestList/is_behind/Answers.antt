use Rattle.std.proofs.Common.{List, ap, sym, ◌∙◌}
use Rattle.fare_rules.specs.declared.part.Part.{Part}
use Rattle.fare_ranking.specs.Ranking.{is_behind}
use Rattle.fare_best.proofs.WalkedLemmas.{behind_is_passed}
use Rattle.fare_best.proofs.walking.WantedSeekerBestList.is_behind.Goals as goal

pub returns : goal.returns
returns c behind tariff trip holds =
    behind_is_passed tariff trip c.args.self.now.count c.args.self.now.limit c.args.found.now c.args.front.now c.args.floor holds.0 holds.2
    (sym (c.is_behind.ensures ∙ ap (λ (parts : List Part). is_behind c.args.self.now.count c.args.found.now parts c.args.floor) c.construction.ensures) ∙ behind)
