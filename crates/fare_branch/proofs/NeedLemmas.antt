-- How many rules of some fares the parts take that come behind first parts, point by point.
use Rattle.std.proofs.Common.{◌≡◌, ℕ, ◌+◌, ◌<◌, ◌≤◌, List, length, replicate, set, sym, subst, ◌∙◌, inl, inr, arith}
use Rattle.std.specs.Prelude.{Contains, slice_index}
use Rattle.std.proofs.lemmas.Bool.{cases_eq, cases_lt}
use Rattle.std.proofs.lemmas.List.{get_or_past, get_or-replicate, get_or-set_same, get_or-set_other, length-replicate}
use Rattle.fare_trip.specs.Itinerary.{Itinerary, count}
use Rattle.fare_tariff.specs.Tariff.{Tariff}
use Rattle.fare_rules.specs.declared.part.Part.{Part}
use Rattle.fare_rules.specs.Construction.{begin_after}
use Rattle.fare_rules.proofs.CoverLemmas.{begins_later}
use Rattle.fare_component.specs.declared.table.entry.Entry.{Entry}
use Rattle.fare_component.specs.Table.{entries_of}
use Rattle.fare_component.proofs.LawLemmas.{entry_is_of_fare}
use Rattle.fare_branch.specs.Crowding.{AreNeeds, IsNeed, taken}

-- a row of zeros has 0 at each point
pub all_zero : (n i : ℕ) → slice_index (replicate n 0) i ≡ 0
all_zero n i =
    elim (cases_lt i n) [
      | inl within ↦ get_or-replicate n i 0 0 within
      | inr past ↦ get_or_past (replicate n 0) i 0 (rw length-replicate past)
    ]

module _ (tariff : Tariff) (trip : Itinerary) (fares : List ℕ) (front : List Part) where
  -- at the trip's end nothing is taken
  pub needs_at_end : (needs : List ℕ) → slice_index needs (count trip) ≡ 0 → AreNeeds tariff trip fares front (count trip) needs
  needs_at_end needs e = record { at_end = e; steps = λ i low high. absurd (omega arith) }

  -- a part ends behind the point where it begins
  rises : (a b : ℕ) (entry : Entry) → Contains (entries_of tariff trip a b) entry → a < b
  rises a b entry there = (entry_is_of_fare tariff trip a b entry there).rises

  -- a number is put at the point before
  pub put_need : (needs : List ℕ) (i need : ℕ) → i < length needs → i < count trip → AreNeeds tariff trip fares front (i + 1) needs
      → IsNeed tariff trip fares front needs (begin_after trip i) need → AreNeeds tariff trip fares front i (set needs i need)
  put_need needs i need long within known here = record {
    at_end = get_or-set_other needs i (count trip) need 0 (λ e. absurd (omega arith)) ∙ known.at_end;
    steps = λ j low high b entry there may.
        let less : begin_after trip j < b = rises (begin_after trip j) b entry there in
        let later : j ≤ begin_after trip j = begins_later trip j in
        let behind : slice_index (set needs i need) b ≡ slice_index needs b = get_or-set_other needs i b need 0 (λ e. absurd (omega arith)) in
        elim (cases_eq j i) [
          | inl same ↦
              let at : slice_index (set needs i need) j ≡ need = subst (λ k. slice_index (set needs i need) k ≡ need) (sym same) (get_or-set_same needs i need 0 long) in
              let P : ℕ → Type 0 = λ k. Contains (entries_of tariff trip (begin_after trip k) b) entry in
              let up : need ≤ taken tariff fares entry + slice_index needs b = here b entry (subst P same there) may in
              omega arith
          | inr other ↦
              let at : slice_index (set needs i need) j ≡ slice_index needs j = get_or-set_other needs i j need 0 other in
              let up : slice_index needs j ≤ taken tariff fares entry + slice_index needs b = known.steps j (omega arith) high b entry there may in
              omega arith
        ];
  }
