use Rattle.std.proofs.Common.{rules, ◌≡◌, ℕ, sym, subst, ◌∙◌, ap, inl, inr, arith, length-set, set}
use Rattle.std.specs.Prelude.{slice_index_or}
use Rattle.std.proofs.lemmas.Bool.{cases_eq}
use Rattle.std.proofs.lemmas.List.{get_or-set_same, get_or-set_other}
use Rattle.fare_trip.specs.Itinerary.{count}
use Rattle.fare_rules.specs.Construction.{begin_after}
use Rattle.fare_legs.specs.declared.legs.LegRows.{LegRows}
use Rattle.fare_legs.specs.Legs.{AreLegsOf, no_legs}
use Rattle.fare_legs.proofs.legs.legs_behind.Goals as goal

pub loop-i-init : goal.loop-i-init
loop-i-init c = record { long = search rules; known = λ i low. absurd (omega arith) }

pub loop-i-preserved : goal.loop-i-preserved
loop-i-preserved c =
    let tariff = c.args.table.now.edition in
    let trip = c.args.table.now.trip in
    let rows = c.loop-i.rows in
    let here = c.loop-i.i in
    let begins : c.begin_after.result ≡ begin_after trip here = c.begin_after.ensures.value ∙ ap (λ t. begin_after t here) c.trip-trip.ensures in
    let A : ℕ → Type 0 = λ a. AreLegsOf tariff trip c.args.barred.now a c.legs.result in
    record {
      long = length-set rows here c.legs.result ∙ c.loop-i.invariant.long;
      known = λ i low. elim (cases_eq i here) [
        | inl same ↦
            let P : ℕ → Type 0 = λ k. AreLegsOf tariff trip c.args.barred.now (begin_after trip k) (slice_index_or (set rows here c.legs.result) k no_legs) in
            let Q : LegRows → Type 0 = λ legs. AreLegsOf tariff trip c.args.barred.now (begin_after trip here) legs in
            subst P (sym same) (subst Q (sym (get_or-set_same rows here c.legs.result no_legs (omega (arith, c.loop-i.invariant.long, c.count-i-end.ensures.at_most)))) (subst A begins c.legs.ensures))
        | inr other ↦
            let Q : LegRows → Type 0 = λ legs. AreLegsOf tariff trip c.args.barred.now (begin_after trip i) legs in
            subst Q (sym (get_or-set_other rows here i c.legs.result no_legs other)) (c.loop-i.invariant.known i (omega arith))
      ];
    }

pub returns : goal.returns
returns c i low =
    let last : c.count-i-end.result ≡ count c.args.table.now.trip = c.count-i-end.ensures.value ∙ ap count c.trip-trip.ensures in
    c.loop-i.invariant.known i (omega arith)
