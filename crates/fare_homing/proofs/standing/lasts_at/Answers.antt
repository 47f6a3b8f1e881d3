use Rattle.std.proofs.Common.{◌≡◌, ℕ, true, sym, subst, ◌∙◌}
use Rattle.fare_rules.specs.Construction.{begin_after}
use Rattle.fare_legs.specs.Costs.{back_cost}
use Rattle.fare_homing.specs.Homing.{may_go_on}
use Rattle.fare_homing.specs.HomingRows.{IsPart}
use Rattle.fare_homing.proofs.standing.lasts_at.Goals as goal

pub returns : goal.returns
returns c j x is =
    let tariff = c.args.table.now.edition in
    let trip = c.args.table.now.trip in
    let begins : begin_after trip c.args.start.now.behind ≡ c.args.start.now.point = sym c.requires.point in
    let M : ℕ → Type 0 = λ a. may_go_on tariff trip c.args.stand a ≡ true in
    let A : ℕ → Type 0 = λ a. IsPart tariff trip back_cost a j x in
    c.last_row.ensures (c.may_go_on.ensures ∙ subst M begins is.near) j x (c.requires.legs.last j x (subst A begins is.part))
