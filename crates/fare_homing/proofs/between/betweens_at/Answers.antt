use Rattle.std.proofs.Common.{rules, ◌≡◌, ℕ, ◌+◌, ◌<◌, false, sym, subst, ◌∙◌, ap, inl, inr, arith, length, length-set, set}
use Rattle.std.specs.Prelude.{None}
use Rattle.std.proofs.lemmas.Bool.{cases_eq}
use Rattle.std.proofs.lemmas.List.{get_or-set_same, get_or-set_other}
use Rattle.fare_bounds.specs.Covers.{rest_at}
use Rattle.fare_component.proofs.LawLemmas.{entry_is_of_fare}
use Rattle.fare_legs.specs.Costs.{IsUpTo, is_same_city}
use Rattle.fare_rules.specs.Construction.{begin_after}
use Rattle.fare_trip.specs.Itinerary.{count}
use Rattle.fare_homing.specs.HomingRows.{IsBetween}
use Rattle.fare_homing.specs.Rows.{closing_from}
use Rattle.fare_homing.proofs.between.betweens_at.Goals as goal

pub loop-j-init : goal.loop-j-init
loop-j-init c = record {
  long = search rules;
  between = λ b j x y low less before. absurd (omega arith);
}

pub loop-j-preserved : goal.loop-j-preserved
loop-j-preserved c =
    let start = c.args.start.now in
    let least = c.loop-j.least in
    let here = c.loop-j.j in
    let number = c.reach_between.result in
    let long : here < length least = omega (arith, c.loop-j.invariant.long) in
    let tariff = c.args.table.now.edition in
    let trip = c.args.table.now.trip in
    record {
      long = length-set least here number ∙ c.loop-j.invariant.long;
      between = λ b j x y low less before apart part more. elim (cases_eq j here) [
        | inl same ↦
            let P : ℕ → Type 0 = λ k. IsUpTo (x + y) (rest_at (set least here number) k) in
            let A : ℕ → Type 0 = λ k. is_same_city trip k b ≡ false in
            let X : ℕ → Type 0 = λ k. IsBetween tariff trip c.args.homing.now.unit_ceiling start.point k b x in
            let Y : ℕ → Type 0 = λ k. IsUpTo y (closing_from c.args.homing.now b b k) in
            let up_here : IsUpTo (x + y) number = c.reach_between.ensures b x y low (omega arith) (subst A same apart) (subst X same part) (subst Y same more) in
            subst P (sym same) (subst (IsUpTo (x + y)) (sym (get_or-set_same least here number None long)) up_here)
        | inr other ↦ subst (IsUpTo (x + y)) (sym (get_or-set_other least here j number None other)) (c.loop-j.invariant.between b j x y low less (omega arith) apart part more)
      ];
    }

pub returns : goal.returns
returns c b j x y part less apart within more =
    let tariff = c.args.table.now.edition in
    let trip = c.args.table.now.trip in
    let start = c.args.start.now in
    let last : c.count-count.result ≡ count trip = c.count-count.ensures.value ∙ ap count c.trip.ensures in
    let begins : begin_after trip start.behind ≡ start.point = sym c.requires.point in
    let is = entry_is_of_fare tariff trip (begin_after trip start.behind) b part.part.entry part.part.there in
    let A : ℕ → Type 0 = λ a. IsBetween tariff trip c.args.homing.now.unit_ceiling a j b x in
    let L : ℕ → Type 0 = λ a. a < b in
    c.loop-j.invariant.between b j x y (subst L begins is.rises) less (omega arith) apart (subst A begins part) more
