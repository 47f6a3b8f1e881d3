use Rattle.std.proofs.Common.{◌≡◌, ◌<◌, ◌≤◌, ℕ, true, sym, subst, ap, ◌∙◌, inl, inr, arith}
use Rattle.std.specs.Prelude.{Contains}
use Rattle.std.proofs.lemmas.Bool.{cases_eq}
use Rattle.fare_trip.specs.Itinerary.{count}
use Rattle.fare_component.specs.declared.table.entry.Entry.{Entry}
use Rattle.fare_component.specs.Table.{entries_of}
use Rattle.fare_legs.specs.Barred.{is_barred}
use Rattle.fare_legs.specs.Threes.{IsFlown}
use Rattle.fare_legs.proofs.threes.are_all_rules.Goals as goal

pub loop-a-init : goal.loop-a-init
loop-a-init c = λ a b less. absurd (omega arith)

pub loop-a-preserved : goal.loop-a-preserved
loop-a-preserved c = λ a b less rises within. elim (cases_eq a c.loop-a.a) [
  | inl same ↦
      let P : ℕ → Type 0 = λ k. (entry : Entry) → Contains (entries_of c.args.table.now.edition c.args.table.now.trip k b) entry → is_barred c.args.table.now.edition c.args.rules.now entry.fare ≡ true in
      let told : c.are_rules_from.result ≡ true = cc in
      subst P (sym same) (c.are_rules_from.ensures told b (omega arith) within)
  | inr other ↦ c.loop-a.invariant a b (omega arith) rises within
]

pub returns : goal.returns
returns c = λ t number flown.
    let last : c.count-count.result ≡ count c.args.table.now.trip = c.count-count.ensures.value ∙ ap count c.trip.ensures in
    let B : ℕ → Type 0 = λ k. is_barred c.args.table.now.edition c.args.rules.now k ≡ true in
    subst B flown.fare (c.loop-a.invariant flown.a flown.b (omega (arith, flown.rises, flown.within)) flown.rises flown.within flown.entry flown.there)
