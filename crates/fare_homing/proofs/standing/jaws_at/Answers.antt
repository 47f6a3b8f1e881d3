use Rattle.std.proofs.Common.{◌≡◌, ℕ, true, sym, subst, ◌∙◌}
use Rattle.fare_rules.specs.Construction.{begin_after}
use Rattle.fare_legs.specs.Costs.{back_cost, is_same_city}
use Rattle.fare_homing.specs.HomingRows.{IsPart}
use Rattle.fare_homing.proofs.standing.jaws_at.Goals as goal

pub returns : goal.returns
returns c =
    let tariff = c.args.table.now.edition in
    let trip = c.args.table.now.trip in
    let start = c.args.start.now in
    let i = c.args.unit.i in
    let stand = c.args.unit.stand in
    let begins : begin_after trip i ≡ start.point = sym c.requires.point in
    let here : c.is.result ≡ is_same_city trip stand start.point = cc in
    let C : ℕ → Type 0 = λ a. is_same_city trip stand a ≡ true in
    record {
      last = λ j x city part.
          let A : ℕ → Type 0 = λ a. IsPart tariff trip back_cost a j x in
          c.lowered_by.ensures.kept j x (c.last_row-last.ensures (here ∙ subst C begins city) j x (c.requires.legs.last j x (subst A begins part)));
      nested = c.lowered_by.ensures.under;
    }
