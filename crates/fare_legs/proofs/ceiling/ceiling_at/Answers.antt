use Rattle.std.proofs.Common.{◌≡◌, ℕ, ◌+◌, subst, sym, ap, ◌∙◌, refl, inl, inr, arith}
use Rattle.std.specs.Bool.{IsTrue}
use Rattle.std.proofs.lemmas.Bool.{cases_eq}
use Rattle.fare_codes.specs.declared.indicator.Indicator.{Indicator}
use Rattle.fare_trip.specs.Itinerary.{Itinerary, count}
use Rattle.fare_tariff.specs.Tariff.{Tariff}
use Rattle.fare_rules.specs.Indicator.{indicator}
use Rattle.fare_legs.proofs.ceiling.ceiling_at.Goals as goal

here : (tariff t : Tariff) (trip u : Itinerary) (i : ℕ) (found : Indicator) → t ≡ tariff → u ≡ trip → found ≡ indicator t u i (i + 1) → indicator tariff trip i (i + 1) ≡ found
here tariff t trip u i found a b e = sym (e ∙ ap (λ x. indicator x u i (i + 1)) a ∙ ap (λ x. indicator tariff x i (i + 1)) b)

pub loop-i-init : goal.loop-i-init
loop-i-init c i low =
    let same : 0 ≡ i = omega arith in
    let P : ℕ → Type 0 = λ k. indicator c.args.table.now.edition c.args.table.now.trip k (k + 1) ≡ c.indicator-first.result in
    subst P same (here c.args.table.now.edition c.edition-edition.result.now c.args.table.now.trip c.trip-trip.result.now 0 c.indicator-first.result c.edition-edition.ensures c.trip-trip.ensures c.indicator-first.ensures)

pub loop-i-preserved : goal.loop-i-preserved
loop-i-preserved c i low =
    elim (cases_eq i c.loop-i.i) [
      | inl same ↦
          let P : ℕ → Type 0 = λ k. indicator c.args.table.now.edition c.args.table.now.trip k (k + 1) ≡ c.indicator-first.result in
          let alike : c.indicator.result ≡ c.indicator-first.result = c.is.ensures.same.0 (subst IsTrue (sym c.if-not-is.false) refl) in
          subst P (sym same) (here c.args.table.now.edition c.edition-edition.result.now c.args.table.now.trip c.trip-trip.result.now c.loop-i.i c.indicator.result c.edition-edition.ensures c.trip-trip.ensures c.indicator.ensures ∙ alike)
      | inr other ↦ c.loop-i.invariant i (omega arith)
    ]

pub returns : goal.returns
returns c =
    let last : c.count-sectors.result ≡ count c.args.table.now.trip = c.count-sectors.ensures.value ∙ ap count c.trip-trip.ensures in
    (refl, λ i low. c.loop-i.invariant i (omega arith))
