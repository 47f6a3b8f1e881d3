use Rattle.std.proofs.Common.{◌≡◌, ◌<◌, ◌≤◌, ℕ, true, sym, subst, ap, ◌∙◌, inl, inr, arith}
use Rattle.std.specs.Prelude.{Contains}
use Rattle.std.proofs.lemmas.Bool.{cases_eq}
use Rattle.fare_trip.specs.Itinerary.{count}
use Rattle.fare_component.specs.declared.table.entry.Entry.{Entry}
use Rattle.fare_component.specs.Table.{entries_of}
use Rattle.fare_legs.specs.Barred.{is_barred}
use Rattle.fare_legs.proofs.threes.are_rules_from.Goals as goal

pub loop-b-init : goal.loop-b-init
loop-b-init c = λ b low less. absurd (omega arith)

pub loop-b-preserved : goal.loop-b-preserved
loop-b-preserved c = λ b low less. elim (cases_eq b c.loop-b.b) [
  | inl same ↦
      let P : ℕ → Type 0 = λ k. (entry : Entry) → Contains (entries_of c.args.table.now.edition c.args.table.now.trip c.args.a k) entry → is_barred c.args.table.now.edition c.args.rules.now entry.fare ≡ true in
      let told : c.are_rules_of_span.result ≡ true = cc in
      subst P (sym same) (c.are_rules_of_span.ensures told)
  | inr other ↦ c.loop-b.invariant b low (omega arith)
]

pub returns : goal.returns
returns c = λ t b low within.
    let last : c.count-count.result ≡ count c.args.table.now.trip = c.count-count.ensures.value ∙ ap count c.trip.ensures in
    c.loop-b.invariant b low (omega arith)
