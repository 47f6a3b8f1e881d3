use Rattle.std.proofs.Common.{rules, ◌≡◌, ℕ, ◌<◌, ◌≤◌, true, length, sym, subst, ◌∙◌, ap, inl, inr, arith, length-set, set}
use Rattle.std.specs.Prelude.{None}
use Rattle.std.proofs.lemmas.Bool.{cases_eq}
use Rattle.std.proofs.lemmas.List.{get_or-set_same, get_or-set_other}
use Rattle.fare_trip.specs.Itinerary.{count}
use Rattle.fare_rules.specs.Construction.{begin_after}
use Rattle.fare_component.proofs.LawLemmas.{entry_is_of_fare}
use Rattle.fare_bounds.specs.Covers.{rest_at}
use Rattle.fare_legs.specs.Barred.{unless_barred}
use Rattle.fare_legs.specs.Costs.{IsUpTo, first_cost, single_cost}
use Rattle.fare_homing.specs.Homing.{homing_at, may_end_at}
use Rattle.fare_homing.specs.HomingRows.{IsPart}
use Rattle.fare_legs.specs.Pairs.{HasPair}
use Rattle.fare_homing.specs.Rows.{begun_from, jaw_from}
use Rattle.fare_homing.proofs.HomingRowLemmas.{part_after}
use Rattle.fare_homing.proofs.whole.wholes_at.Goals as goal

pub loop-home-init : goal.loop-home-init
loop-home-init c = record {
  long = search rules;
  alone = λ j cost low less part. absurd (omega arith);
  first = λ b j x y cost low less. absurd (omega arith);
}

pub loop-home-preserved : goal.loop-home-preserved
loop-home-preserved c =
    let tariff = c.args.table.now.edition in
    let trip = c.args.table.now.trip in
    let homing = c.args.homing.now in
    let start = c.args.start.now.point in
    let row = c.loop-home.row in
    let here = c.loop-home.home in
    let number = c.whole_to.result in
    let long : here < length row = omega (arith, c.loop-home.invariant.long) in
    record {
      long = length-set row here number ∙ c.loop-home.invariant.long;
      alone = λ j cost low less part. elim (cases_eq j here) [
        | inl same ↦
            let P : ℕ → Type 0 = λ k. IsUpTo cost (rest_at (set row here number) k) in
            let A : ℕ → Type 0 = λ k. IsPart tariff trip (unless_barred c.args.table.now.edition c.args.start.now.barred.now single_cost) start k cost in
            subst P (sym same) (subst (IsUpTo cost) (sym (get_or-set_same row here number None long)) (c.whole_to.ensures.alone cost (subst A same part)))
        | inr other ↦ subst (IsUpTo cost) (sym (get_or-set_other row here j number None other)) (c.loop-home.invariant.alone j cost low (omega arith) part)
      ];
      first = λ b j x y cost low less may part before up sum pair. elim (cases_eq j here) [
        | inl same ↦
            let P : ℕ → Type 0 = λ k. IsUpTo cost (rest_at (set row here number) k) in
            let M : ℕ → Type 0 = λ k. may_end_at tariff trip start k ≡ true in
            let L : ℕ → Type 0 = λ k. b < k in
            let U : ℕ → Type 0 = λ k. IsUpTo y (homing_at trip (begun_from homing b) (jaw_from homing b) start b k) in
            let H : ℕ → Type 0 = λ k. HasPair tariff trip c.args.start.now.barred.now start k cost in
            subst P (sym same) (subst (IsUpTo cost) (sym (get_or-set_same row here number None long)) (c.whole_to.ensures.first b x y cost (subst M same may) part (subst L same before) (subst U same up) sum (subst H same pair)))
        | inr other ↦ subst (IsUpTo cost) (sym (get_or-set_other row here j number None other)) (c.loop-home.invariant.first b j x y cost low (omega arith) may part before up sum pair)
      ];
    }

pub returns : goal.returns
returns c =
    let tariff = c.args.table.now.edition in
    let trip = c.args.table.now.trip in
    let homing = c.args.homing.now in
    let last : c.count-count.result ≡ count trip = c.count-count.ensures.value ∙ ap count c.trip.ensures in
    let begins : begin_after trip c.args.start.now.behind ≡ c.args.start.now.point = sym c.requires.point in
    record {
      alone = λ j cost part.
          let after = part_after tariff trip (unless_barred c.args.table.now.edition c.args.start.now.barred.now single_cost) c.args.start.now.behind j cost part in
          let A : ℕ → Type 0 = λ a. IsPart tariff trip (unless_barred c.args.table.now.edition c.args.start.now.barred.now single_cost) a j cost in
          let within : j ≤ count trip = after.1 in
          c.loop-home.invariant.alone j cost after.0 (omega arith) (subst A begins part);
      first = λ b j x y cost may part less up sum pair.
          let after = part_after tariff trip (unless_barred c.args.table.now.edition c.args.start.now.barred.now first_cost) c.args.start.now.behind b x part in
          let within : j ≤ count trip = (entry_is_of_fare tariff trip pair.begin j pair.last pair.last_there).within in
          let M : ℕ → Type 0 = λ a. may_end_at tariff trip a j ≡ true in
          let A : ℕ → Type 0 = λ a. IsPart tariff trip (unless_barred c.args.table.now.edition c.args.start.now.barred.now first_cost) a b x in
          let U : ℕ → Type 0 = λ a. IsUpTo y (homing_at trip (begun_from homing b) (jaw_from homing b) a b j) in
          let H : ℕ → Type 0 = λ a. HasPair tariff trip c.args.start.now.barred.now a j cost in
          c.loop-home.invariant.first b j x y cost (omega (arith, after.0)) (omega arith) (subst M begins may) (subst A begins part) less (subst U begins up) sum (subst H begins pair);
    }
