use Rattle.std.proofs.Common.{◌≡◌, ℕ, ap, subst, sym, ◌∙◌, inl, inr, arith}
use Rattle.std.specs.Prelude.{Some, Contains}
use Rattle.std.proofs.lemmas.Bool.{cases_eq}
use Rattle.std.proofs.lemmas.Option.{same_Some}
use Rattle.fare_trip.specs.Itinerary.{count}
use Rattle.fare_component.specs.Table.{entries_of}
use Rattle.fare_component.proofs.LawLemmas.{entry_is_of_fare}
use Rattle.fare_bounds.specs.Covers.{rest_at}
use Rattle.fare_floors.specs.LastParts.{IsUnderLast}
use Rattle.fare_floors.proofs.lasting.least_from.Goals as goal
use Rattle.fare_floors.proofs.lasting.least_from.Goals.{in-Some, in_default}

pub loop-home-init : goal.loop-home-init
loop-home-init c = record {
  kept = λ most up. up;
  lasts = λ home behind entry less stands there.
      let is = entry_is_of_fare c.args.going.now.table.now.edition c.args.going.now.table.now.trip c.args.s home entry there in
      absurd (omega (arith, is.rises));
}

pub loop-home-preserved : goal.loop-home-preserved
loop-home-preserved c =
    elim c.match-amount.branch [
      | in-Some w ↦ rw w.least-is (record {
        kept = λ most up. w.least_over-least.ensures.kept most (c.loop-home.invariant.kept most up);
        lasts = λ home behind entry less stands there.
            elim (cases_eq home c.loop-home.home) [
              | inl same ↦
                  let S : ℕ → Type 0 = λ j. rest_at c.args.homes.now j ≡ Some behind in
                  let C : ℕ → Type 0 = λ j. Contains (entries_of c.args.going.now.table.now.edition c.args.going.now.table.now.trip c.args.s j) entry in
                  let T : ℕ → ℕ → Type 0 = λ j b. IsUnderLast c.args.going.now.table.now c.args.going.now.front.now c.args.going.now.unit c.args.s j b entry w.least_over-least.result in
                  let is_behind : w.in-Some.behind ≡ behind = same_Some w.in-Some.behind behind (sym w.in-Some.is ∙ c.amount.ensures ∙ c.number_at.ensures ∙ subst S same stands) in
                  let here : T c.loop-home.home w.in-Some.behind = w.least_over-least.ensures.lasts entry (subst C same there) in
                  let there_too : T c.loop-home.home behind = subst (T c.loop-home.home) is_behind here in
                  let U : ℕ → Type 0 = λ j. T j behind in
                  subst U (sym same) there_too
              | inr other ↦ λ cost e may. w.least_over-least.ensures.kept _ (c.loop-home.invariant.lasts home behind entry (omega arith) stands there cost e may)
            ];
      })
      | in_default w ↦ rw w.least-is (record {
        kept = c.loop-home.invariant.kept;
        lasts = λ home behind entry less stands there.
            elim (cases_eq home c.loop-home.home) [
              | inl same ↦
                  let S : ℕ → Type 0 = λ j. rest_at c.args.homes.now j ≡ Some behind in
                  absurd (w.in_default.not-Some behind (c.amount.ensures ∙ c.number_at.ensures ∙ subst S same stands))
              | inr other ↦ c.loop-home.invariant.lasts home behind entry (omega arith) stands there
            ];
      })
    ]

pub returns-clause-lasts : goal.returns-clause-lasts
returns-clause-lasts c home behind entry stands there =
    let is = entry_is_of_fare c.args.going.now.table.now.edition c.args.going.now.table.now.trip c.args.s home entry there in
    let n : c.count-sectors.result ≡ count c.args.going.now.table.now.trip = c.count-sectors.ensures.value ∙ ap count c.trip.ensures in
    c.loop-home.invariant.lasts home behind entry (omega (arith, is.within)) stands there
