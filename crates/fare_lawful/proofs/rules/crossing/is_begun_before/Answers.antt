use Rattle.std.proofs.Common.{◌≡◌, false, refl, sym, ◌∙◌, rules, tests}
use Rattle.std.proofs.lemmas.Iterator.{YieldsList-from_range}
use Rattle.std.proofs.lemmas.Iterator.Search.{any_from_yields_List}
use Rattle.fare_rules.specs.Shape.{is_same_unit}
use Rattle.fare_lawful.proofs.rules.crossing.is_begun_before.Goals as goal

pub returns-then-not-is_same_unit : goal.returns-then-not-is_same_unit
returns-then-not-is_same_unit c =
    let same : is_same_unit c.args.parts.now c.args.c c.args.b ≡ false = sym c.is_same_unit.ensures ∙ c.if-not-is_same_unit.true in
    rw same (any_from_yields_List (is_same_unit c.args.parts.now c.args.c) _ _ c.any.result c.any.ensures.ran
    (YieldsList-from_range 1 c.args.b _ (cc) refl) (λ x b q k. search (rules, tests)))
