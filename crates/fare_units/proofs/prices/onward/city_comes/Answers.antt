use Rattle.std.proofs.Common.{◌≡◌, ◌+◌, refl, ap, ◌∙◌, rules, tests}
use Rattle.std.specs.List.{list_any}
use Rattle.std.proofs.lemmas.Iterator.{YieldsList-from_range}
use Rattle.std.proofs.lemmas.Iterator.Search.{any_from_yields_List}
use Rattle.fare_rules.specs.Numbers.{numbers}
use Rattle.fare_units.specs.Onward.{is_in_city}
use Rattle.fare_units.proofs.prices.onward.city_comes.Goals as goal

pub returns : goal.returns
returns c =
    let found : c.any.result ≡ list_any (is_in_city c.args.trip.now c.args.city) (numbers (c.args.after + 1) (c.count-count.result + 1)) =
    any_from_yields_List (is_in_city c.args.trip.now c.args.city) _ _ c.any.result c.any.ensures.ran
    (YieldsList-from_range (c.args.after + 1) (c.count-count.result + 1) _ (cc) refl) (λ x b q k. search (rules, tests)) in
    found ∙ ap (λ n. list_any (is_in_city c.args.trip.now c.args.city) (numbers (c.args.after + 1) (n + 1))) c.count-count.ensures.value
