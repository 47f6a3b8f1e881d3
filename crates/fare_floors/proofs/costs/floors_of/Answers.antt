use Rattle.std.proofs.Common.{◌≡◌, ℕ, ◌<◌, length, length-set, set, sym, subst, ◌∙◌, inl, inr, arith}
use Rattle.std.specs.Prelude.{slice_index}
use Rattle.std.proofs.lemmas.Bool.{cases_eq}
use Rattle.std.proofs.lemmas.List.{get_or-set_same, get_or-set_other}
use Rattle.fare_floors.specs.Costs.{unit_floor}
use Rattle.fare_floors.proofs.costs.floors_of.Goals as goal

pub loop-unit-preserved : goal.loop-unit-preserved
loop-unit-preserved c =
    let floors = c.loop-unit.floors in
    let here = c.loop-unit.unit in
    let number = c.unit_floor.result in
    let long : here < length floors = omega (arith, c.loop-unit.invariant.long) in
    record {
      long = length-set floors here number ∙ c.loop-unit.invariant.long;
      known = λ unit low less. elim (cases_eq unit here) [
        | inl same ↦
            let P : ℕ → Type 0 = λ u. slice_index (set floors here number) u ≡ unit_floor c.args.table.now.edition c.args.table.now.trip c.args.parts.now u in
            subst P (sym same) (get_or-set_same floors here number 0 long ∙ c.unit_floor.ensures.value)
        | inr other ↦ get_or-set_other floors here unit number 0 other ∙ c.loop-unit.invariant.known unit low (omega arith)
      ];
    }
