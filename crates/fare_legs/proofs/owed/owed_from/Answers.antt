use Rattle.std.proofs.Common.{◌≡◌, ℕ, ◌+◌, ◌<◌, ◌≤◌, List, true, false, inl, inr, subst, sym, ◌∙◌, arith}
use Rattle.std.specs.Prelude.{Option}
use Rattle.std.proofs.lemmas.Bool.{both_ways, cases_eq}
use Rattle.fare_trip.specs.Itinerary.{count}
use Rattle.fare_bounds.specs.Covers.{rest_at}
use Rattle.fare_component.specs.Table.{entries_of}
use Rattle.fare_legs.specs.Costs.{IsUpTo, is_same_city}
use Rattle.fare_legs.specs.Least.{IsCost}
use Rattle.fare_legs.specs.Owed.{IsOwed, owed_by}
use Rattle.fare_legs.proofs.owed.owed_from.Goals.{then-comes_again, else-comes_again}
use Rattle.fare_legs.proofs.owed.owed_from.Goals as goal

pub loop-a-init : goal.loop-a-init
loop-a-init c home owed low high is before = absurd (omega arith)

pub loop-a-preserved : goal.loop-a-preserved
loop-a-preserved c =
    let tariff = c.args.table.now.edition in
    let trip = c.args.table.now.trip in
    let stand = c.args.stand in
    let a = c.loop-a.a in
    let Known : List (Option ℕ) → Type 0 = λ row. (home owed : ℕ) → stand < home → home ≤ count trip → (is : IsOwed tariff trip stand home owed) → is.start < a + 1 → IsUpTo owed (rest_at row home) in
    let there : (k home : ℕ) → is_same_city trip k home ≡ true → is_same_city c.trip-trip.result.now k home ≡ true = λ k home city. subst (λ of. is_same_city of k home ≡ true) (sym c.trip-trip.ensures) city in
    elim c.if-comes_again.branch [
      | then-comes_again w ↦
          subst Known (sym w.row-is) (λ home owed low high is before.
          elim (cases_eq is.start a) [
            | inl same ↦
                let C : ℕ → Type 0 = λ k. is_same_city c.trip-trip.result.now k home ≡ true in
                let cost : IsCost (owed_by tariff trip is.start stand) (entries_of tariff trip is.start stand) owed = record { entry = is.entry; there = is.there; costs = is.owes } in
                let K : ℕ → Type 0 = λ k. IsCost (owed_by tariff trip k stand) (entries_of tariff trip k stand) owed in
                w.lowered_in-row.ensures.here home owed low (subst (λ of. home ≤ count of) (sym c.trip-trip.ensures) high) (subst C same (there is.start home is.city)) (w.least_owed.ensures owed (subst K same cost))
            | inr other ↦ w.lowered_in-row.ensures.kept home owed (c.loop-a.invariant home owed low high is (omega arith))
          ])
      | else-comes_again w ↦
          subst Known (sym w.row-is) (λ home owed low high is before.
          elim (cases_eq is.start a) [
            | inl same ↦
                let C : ℕ → Type 0 = λ k. is_same_city c.trip-trip.result.now k home ≡ true in
                let never : is_same_city c.trip-trip.result.now a home ≡ false = c.comes_again.ensures w.if-comes_again.false home low (subst (λ of. home ≤ count of) (sym c.trip-trip.ensures) high) in
                absurd (both_ways (is_same_city c.trip-trip.result.now a home) never (subst C same (there is.start home is.city)))
            | inr other ↦ c.loop-a.invariant home owed low high is (omega arith)
          ])
    ]

pub returns : goal.returns
returns c home owed low high is = c.loop-a.invariant home owed low high is (omega (arith, is.rises))
