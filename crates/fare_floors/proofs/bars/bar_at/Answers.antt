use Rattle.std.proofs.Common.{◌≡◌, ℕ, ◌+◌, ◌-◌, ◌≤◌, sym, ◌∙◌, arith}
use Rattle.std.specs.Prelude.{Some}
use Rattle.fare_bounds.specs.Covers.{rest_at}
use Rattle.fare_floors.proofs.BarLemmas.{bar_is}
use Rattle.fare_floors.proofs.bars.bar_at.Goals as goal

pub returns : goal.returns
returns c =
    let homing = c.args.homing.now in
    let low : rest_at homing.rest 0 ≡ Some c.in-Some.all = sym c.number_at.ensures ∙ sym c.amount.ensures ∙ c.in-Some.is in
    let limit : ℕ = c.saturating_add-least.result - 1 in
    let most : c.saturating_add-least.result - 1 + 1 ≤ c.in-Some.all + c.least_excess.result = omega (arith, c.if-least-eq0.false, c.saturating_add-least.ensures) in
    bar_is c.args.table.now homing c.requires.homings c.requires.free c.args.ceiling c.requires.ceiling c.args.dear c.least_excess.result c.in-Some.all limit c.requires.dear c.least_excess.ensures low most
