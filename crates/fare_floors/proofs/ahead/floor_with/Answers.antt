use Rattle.std.proofs.Common.{◌≡◌, ◌+◌, ◌∙◌, ap, arith}
use Rattle.std.specs.Prelude.{option_map}
use Rattle.fare_bounds.specs.Covers.{least_cost}
use Rattle.fare_floors.specs.Costs.{or_nothing}
use Rattle.fare_legs.specs.Floor.{capped_sum}
use Rattle.fare_floors.proofs.ahead.floor_with.Goals as goal

pub returns-clause-up : goal.returns-clause-up
returns-clause-up c behind e =
    let least : c.entry_least.result ≡ or_nothing (least_cost c.args.entry.now) = c.entry_least.ensures.value in
    c.lowered_to.ensures.kept (c.args.ahead.now.spent + or_nothing (least_cost c.args.entry.now) + behind)
    (capped_sum c.saturating_add-paid.result behind, c.paid_with.ensures ∙ ap (option_map (capped_sum c.saturating_add-paid.result)) (c.behind_of.ensures ∙ e), omega arith)

pub returns-clause-above : goal.returns-clause-above
returns-clause-above c = c.lowered_to.ensures.above
