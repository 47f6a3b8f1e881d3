use Rattle.std.proofs.Common.{refl, rules, tests}
use Rattle.std.proofs.lemmas.Iterator.{YieldsList-from_range}
use Rattle.std.proofs.lemmas.Iterator.Search.{any_from_yields_List}
use Rattle.fare_rules.specs.UnitRules.{is_misfit}
use Rattle.fare_lawful.proofs.rules.combine.has_misfit.Goals as goal

pub returns : goal.returns
returns c = any_from_yields_List (is_misfit c.args.edition.now c.args.parts.now c.args.k) _ _ c.any.result c.any.ensures.ran
    (YieldsList-from_range 1 c.args.k _ (cc) refl) (λ x b q k. search (rules, tests))
