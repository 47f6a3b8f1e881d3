use Rattle.std.proofs.Common.{List, ap, sym, subst, ◌∙◌}
use Rattle.fare_rules.specs.declared.part.Part.{Part}
use Rattle.fare_rules.specs.FirstK.{Priced}
use Rattle.fare_units.specs.Walk.{IsList}
use Rattle.fare_branch.specs.Sought.{IsWalk}
use Rattle.fare_ranking.specs.Ranking.{first_with}
use Rattle.fare_best.specs.Walked.{IsListed, IsPassed, IsRanked}
use Rattle.fare_best.proofs.WalkedLemmas.{taken_ranks, walk_taken}
use Rattle.fare_best.proofs.walking.WantedSeekerBestList.take.Goals as goal

pub returns-clause-holds : goal.returns-clause-holds
returns-clause-holds c =
    let P : List Priced → Type 0 = λ after. IsRanked c.args._table.now.edition c.args._table.now.trip c.args.self.now.count after in (
      c.requires.holds.0,
      c.requires.holds.1,
      subst P (sym (c.insert.ensures ∙ ap (λ (parts : List Part). first_with c.args.self.now.count (parts, c.args.price) c.args.found.now) c.to_construction.ensures))
          (taken_ranks c.args._table.now.edition c.args._table.now.trip c.args.self.now.count c.args.self.now.limit c.args.front.now c.args.price c.args.found.now c.requires.lawful c.requires.holds.2),
    )

pub returns-clause-walk : goal.returns-clause-walk
returns-clause-walk c =
    let P : List Priced → Type 0 = λ after. IsWalk c.args._table.now.edition c.args._table.now.trip (IsList c.args.front.now) (IsPassed c.args.self.now.count c.args.self.now.limit c.args.found.now) (IsListed c.args.found.now) (IsPassed c.args.self.now.count c.args.self.now.limit after) (IsListed after) in
    subst P (sym (c.insert.ensures ∙ ap (λ (parts : List Part). first_with c.args.self.now.count (parts, c.args.price) c.args.found.now) c.to_construction.ensures))
    (walk_taken c.args._table.now.edition c.args._table.now.trip c.args.self.now.count c.args.self.now.limit c.args.front.now c.args.price c.args.found.now c.requires.lawful c.requires.holds.2)
