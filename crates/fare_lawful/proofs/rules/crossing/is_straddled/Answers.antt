use Rattle.std.proofs.Common.{◌≡◌, ◌+◌, true, refl, sym, ◌∙◌, rules, tests}
use Rattle.std.proofs.lemmas.Iterator.{YieldsList-from_range}
use Rattle.std.proofs.lemmas.Iterator.Search.{any_from_yields_List}
use Rattle.fare_rules.specs.Shape.{is_same_unit, is_begun_before}
use Rattle.fare_lawful.proofs.rules.crossing.is_straddled.Goals as goal

pub returns-then-is_same_unit : goal.returns-then-is_same_unit
returns-then-is_same_unit c =
    let same : is_same_unit c.args.parts.now c.args.d c.args.b ≡ true = sym c.is_same_unit.ensures ∙ c.if-is_same_unit.true in
    rw same (any_from_yields_List (is_begun_before c.args.parts.now c.args.b) _ _ c.any.result c.any.ensures.ran
    (YieldsList-from_range (c.args.b + 1) c.args.d _ (cc) refl) (λ x b q k. search (rules, tests)))
