use Rattle.std.proofs.Common.{sym, subst}
use Rattle.std.specs.Prelude.{IfSome, Option, Some}
use Rattle.fare_legs.specs.declared.ceiling.Ceiling.{Ceiling}
use Rattle.fare_legs.specs.Ceiling.{IsCeiling}
use Rattle.fare_homing.specs.declared.homing.Bar.{Bar}
use Rattle.fare_homing.proofs.UnitLemmas.{units_by_all}
use Rattle.fare_homing.specs.Units.{IsBar, IsUnitCeiling}
use Rattle.fare_homing.proofs.homing.unit_ceiling_of.Goals as goal

pub returns-in-None : goal.returns-in-None
returns-in-None c tariff trip alike bar =
    let P : Option Ceiling → Type 0 = λ known. IsUnitCeiling tariff trip known (Some c.in-Some.known) in
    subst P (sym c.in-Some.is) (units_by_all tariff trip c.in-Some.known (subst (IsCeiling tariff trip) c.in-Some.is alike))

pub returns-in-Some-bar : goal.returns-in-Some-bar
returns-in-Some-bar c tariff trip alike bar =
    let P : Option Ceiling → Type 0 = λ known. IsUnitCeiling tariff trip known (Some c.unit_ceiling_by.result) in
    let B : Option Bar → Type 0 = λ found. IfSome found (IsBar tariff trip) in
    let here : IsBar tariff trip c.in-Some-bar.bar = subst B c.in-Some-bar.is bar in
    subst P (sym c.in-Some.is) (c.unit_ceiling_by.ensures tariff trip (subst (IsCeiling tariff trip) c.in-Some.is alike) here)
