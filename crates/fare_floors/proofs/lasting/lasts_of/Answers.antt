use Rattle.std.proofs.Common.{◌≡◌, ℕ, ◌+◌, ◌-◌, length-set, set, ap, subst, sym, ◌∙◌, refl, inl, inr, arith}
use Rattle.std.specs.Prelude.{Option, None}
use Rattle.std.proofs.lemmas.Bool.{cases_eq}
use Rattle.std.proofs.lemmas.List.{get_or-set_same, get_or-set_other}
use Rattle.fare_trip.specs.Itinerary.{count}
use Rattle.fare_component.proofs.LawLemmas.{entry_is_of_fare}
use Rattle.fare_bounds.specs.Covers.{rest_at}
use Rattle.fare_legs.specs.Costs.{IsUpTo}
use Rattle.fare_floors.specs.LastParts.{IsUnderLasts}
use Rattle.fare_floors.proofs.lasting.lasts_of.Goals as goal

pub loop-s-init : goal.loop-s-init
loop-s-init c = record {
  long = refl;
  known = λ i s low le home behind entry stands there.
      let is = entry_is_of_fare c.args.going.now.table.now.edition c.args.going.now.table.now.trip s home entry there in
      let n : c.count-s.result ≡ count c.args.going.now.table.now.trip = c.count-s.ensures.value ∙ ap count c.trip.ensures in
      absurd (omega (arith, is.rises, is.within));
}

pub loop-s-preserved : goal.loop-s-preserved
loop-s-preserved c =
    let Under : ℕ → Option ℕ → Type 0 = λ s number. IsUnderLasts c.args.going.now.table.now c.args.going.now.front.now c.args.going.now.unit c.args.homes.now s number in
    record {
      long = length-set c.loop-s.row (c.loop-s.s - 1) c.least_from.result ∙ c.loop-s.invariant.long;
      known = λ i s low le.
          elim (cases_eq i (c.loop-s.s - 1)) [
            | inl same ↦
                let Q : ℕ → Type 0 = λ j. Under s (rest_at (set c.loop-s.row (c.loop-s.s - 1) c.least_from.result) j) in
                let here : Under s c.least_from.result =
                elim (cases_eq s (c.loop-s.s - 1)) [
                  | inl first ↦ (let R : ℕ → Type 0 = λ j. Under j c.least_from.result in subst R (sym first) c.least_from.ensures.lasts)
                  | inr later ↦ λ home behind entry stands there cost e may.
                      c.least_from.ensures.kept (cost + behind) (subst (IsUpTo (cost + behind)) (sym c.number_at-later.ensures) (c.loop-s.invariant.known (c.loop-s.s - 1 + 1) s (omega arith) (omega arith) home behind entry stands there cost e may))
                ] in
                subst Q (sym same) (subst (Under s) (sym (get_or-set_same c.loop-s.row (c.loop-s.s - 1) c.least_from.result None (omega (arith, c.loop-s.invariant.long)))) here)
            | inr other ↦ subst (Under s) (sym (get_or-set_other c.loop-s.row (c.loop-s.s - 1) i c.least_from.result None other)) (c.loop-s.invariant.known i s (omega arith) le)
          ];
    }

pub returns : goal.returns
returns c i s low le = c.loop-s.invariant.known i s (omega arith) le
