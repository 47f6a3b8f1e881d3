use Rattle.std.proofs.Common.{◌≡◌, ℕ, ◌+◌, ◌<◌, ◌≤◌, sym, subst, ◌∙◌, ap, inl, inr, arith}
use Rattle.std.specs.Prelude.{Contains, slice_index}
use Rattle.std.proofs.lemmas.Bool.{cases_eq}
use Rattle.fare_trip.specs.Itinerary.{count}
use Rattle.fare_component.specs.Table.{entries_of}
use Rattle.fare_component.proofs.LawLemmas.{entry_is_of_fare}
use Rattle.fare_branch.specs.Crowding.{taken}
use Rattle.fare_branch.proofs.crowding.need_at.Goals as goal

pub loop-b-init : goal.loop-b-init
loop-b-init c = λ b entry less there may.
    let is = entry_is_of_fare c.args.crowding.now.table.now.edition c.args.crowding.now.table.now.trip c.args.a b entry there in
    let rises : c.args.a < b = is.rises in
    absurd (omega arith)

pub loop-b-preserved : goal.loop-b-preserved
loop-b-preserved c = λ b entry less there may.
    let tariff = c.args.crowding.now.table.now.edition in
    let lonely = c.args.crowding.now.lonely.now in
    elim (cases_eq b c.loop-b.b) [
      | inl same ↦
          let P : ℕ → Type 0 = λ i. Contains (entries_of tariff c.args.crowding.now.table.now.trip c.args.a i) entry in
          let Q : ℕ → Type 0 = λ i. c.lesser_need-least.result ≤ taken tariff lonely entry + slice_index c.args.needs.now i in
          subst Q (sym same) (c.lesser_need-least.ensures.under entry (subst P same there) may)
      | inr other ↦
          let before : c.loop-b.least ≤ taken tariff lonely entry + slice_index c.args.needs.now b = c.loop-b.invariant b entry (omega arith) there may in
          let kept : c.lesser_need-least.result ≤ c.loop-b.least = c.lesser_need-least.ensures.kept in
          omega arith
    ]

pub returns : goal.returns
returns c b entry there =
    let trip = c.args.crowding.now.table.now.trip in
    let is = entry_is_of_fare c.args.crowding.now.table.now.edition trip c.args.a b entry there in
    let last : c.count-count.result ≡ count trip = c.count-count.ensures.value ∙ ap count c.trip.ensures in
    let within : b ≤ count trip = is.within in
    c.loop-b.invariant b entry (omega arith) there
