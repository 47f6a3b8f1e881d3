use Rattle.std.proofs.Common.{Bool, Option, subst, sym, arith}
use Rattle.std.specs.Prelude.{if◌then◌else◌}
use Rattle.fare_bounds.specs.Covers.{rest_at}
use Rattle.fare_legs.specs.declared.ceiling.Ceiling.{Ceiling}
use Rattle.fare_legs.specs.Costs.{IsUpTo}
use Rattle.fare_homing.specs.HomingRows.{IsBetween}
use Rattle.fare_legs.specs.Countries.{heads_in}
use Rattle.fare_homing.proofs.HomingRowLemmas.{step_up}
use Rattle.fare_homing.proofs.BetweenLemmas.{cost_is_within}
use Rattle.fare_homing.proofs.between.step_to.Goals as goal

pub returns-in-None : goal.returns-in-None
returns-in-None c x part =
    let P : Option Ceiling → Type 0 = λ ceiling. IsBetween c.args.table.now.edition c.args.table.now.trip ceiling c.args.start.now.point c.args.home c.args.b x in
    let Q : Bool → Type 0 = λ heads. IsUpTo x (if heads then rest_at c.args.start.now.legs.now.last c.args.b else rest_at c.args.start.now.legs.now.first c.args.b) in
    let up : Q (heads_in c.args.start.now.countries.now c.args.start.now.point c.args.b c.args.home) =
    step_up c.args.table.now.edition c.args.table.now.trip c.args.start.now.countries.now c.args.start.now.point c.args.b c.args.home x (rest_at c.args.start.now.legs.now.first c.args.b) (rest_at c.args.start.now.legs.now.last c.args.b) c.requires.countries (omega (arith, c.requires.point, c.requires.end)) c.requires.end c.requires.home
    (c.requires.legs.first c.args.b) (c.requires.legs.last c.args.b) (subst P c.in-None.is part) in
    subst (IsUpTo x) (sym c.leg_to.ensures) (subst Q (sym c.heads_in-heads.ensures) up)

pub returns-in_default : goal.returns-in_default
returns-in_default c x part =
    c.least_within.ensures x (cost_is_within c.args.table.now.edition c.args.table.now.trip c.args.start.now.countries.now c.args.homing.now.of_two c.args.homing.now.unit_ceiling c.args.start.now.point c.args.b c.args.home x c.heads_in-heads.result c.requires.countries (omega (arith, c.requires.point, c.requires.end)) c.requires.end c.requires.home c.heads_in-heads.ensures c.requires.of_two part)
