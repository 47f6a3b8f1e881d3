-- What is kept of the numbers of a range, and how it stands in order.
use Rattle.std.proofs.Common.{◌≡◌, refl, ℕ, zero, suc, ◌+◌, ◌-◌, ◌<◌, ◌≤◌, Bool, true, false, ◌⊎◌, length, get_or, ap, sym, subst, ◌∙◌, arith, inl, inr}
use Rattle.std.specs.Prelude.{Option, Some, None, AllPairs, Contains, option_and_then, filter_map, is_some, slice_get, nat_le}
use Rattle.std.specs.List.{list_any, range_with_len}
use Rattle.std.proofs.lemmas.Bool.{cases_Bool, cases_eq, and_parts, or_cases, or_left, or_right, false≢true, ltb-true, leb-true}
use Rattle.std.proofs.lemmas.Option.{none-some, cond_some, slice_get_within, option_and_then_some}
use Rattle.std.proofs.lemmas.Slice.Eq.{bytes_eq-Decides}
use Rattle.fare_trip.specs.Itinerary.{Itinerary, count, point}
use Rattle.fare_records.specs.Record.{FareRecord}
use Rattle.fare_tariff.specs.Tariff.{Tariff}
use Rattle.fare_tariff.specs.Lookup.{fare_at, fare_in, number_at}
use Rattle.fare_rules.specs.Numbers.{numbers}
use Rattle.fare_rules.specs.ComponentAmount.{component_amount, is_repeated, is_same_city, repeats_city, runs_between}
use Rattle.fare_rules.proofs.RuleLemmas.{usable_from_amount}
use Rattle.fare_component.specs.declared.table.entry.Entry.{Entry}
use Rattle.fare_component.specs.Table.{ComesBefore, IsEntry, entries_of, entry_at, entry_of, has_amount, is_span}
use Rattle.fare_component.proofs.EntryLemmas.{amount_of_fare, entries_of_span, no_entries_beyond, option_cases}

-- an entry that is made of a number has that number
abbrev OfItsNumber : (ℕ → Option Entry) → Type 0
OfItsNumber f = (k : ℕ) (entry : Entry) → f k ≡ Some entry → entry.fare ≡ k

module _ (f : ℕ → Option Entry) where
  -- what is made of a number of a range is kept
  pub kept_in : (first n k : ℕ) (entry : Entry) → first ≤ k → k < first + n → f k ≡ Some entry
      → Contains (filter_map f (range_with_len first n)) entry
  kept_in first zero k entry low high e = absurd (omega arith)
  kept_in first (suc n) k entry low high e =
      elim (cases_eq k first) [
        | inl same ↦
            let here : f first ≡ Some entry = subst (λ i. f i ≡ Some entry) same e in
            rw here (0, omega arith, refl)
        | inr other ↦
            let rest = kept_in (first + 1) n k entry (omega arith) (omega arith) e in
            elim (option_cases (f first)) [
              | inl none ↦ rw none rest
              | inr found ↦ rw found.1 (suc rest.0, omega (arith, rest.1), rest.2)
            ]
      ]

  -- what is kept at a place is made of a number of the range
  pub of_kept : (first n place : ℕ) (other : Entry) → place < length (filter_map f (range_with_len first n))
      → (k : ℕ) × (first ≤ k) × (f k ≡ Some (get_or (filter_map f (range_with_len first n)) place other))
  of_kept first zero place other h = absurd (omega arith)
  of_kept first (suc n) zero other h =
      elim (option_cases (f first)) [
        | inl none ↦
            let rest = of_kept (first + 1) n zero other (rw none at h) in
            rw none (rest.0, omega (arith, rest.1), rest.2)
        | inr found ↦
            rw found.1 (first, omega arith, found.1)
      ]
  of_kept first (suc n) (suc place) other h =
      elim (option_cases (f first)) [
        | inl none ↦
            let rest = of_kept (first + 1) n (suc place) other (rw none at h) in
            rw none (rest.0, omega (arith, rest.1), rest.2)
        | inr found ↦
            let more : suc place < suc (length (filter_map f (range_with_len (first + 1) n))) = rw found.1 at h in
            let rest = of_kept (first + 1) n place other (omega arith) in
            rw found.1 (rest.0, omega (arith, rest.1), rest.2)
      ]

  -- what is kept rises where each entry has its number
  pub kept_rise : OfItsNumber f → (first n i j : ℕ) (other : Entry) → i < j
      → j < length (filter_map f (range_with_len first n))
      → (get_or (filter_map f (range_with_len first n)) i other).fare < (get_or (filter_map f (range_with_len first n)) j other).fare
  kept_rise own first zero i j other less h = absurd (omega arith)
  kept_rise own first (suc n) i zero other less h = absurd (omega arith)
  kept_rise own first (suc n) zero (suc j) other less h =
      elim (option_cases (f first)) [
        | inl none ↦ rw none (kept_rise own (first + 1) n zero (suc j) other less (rw none at h))
        | inr found ↦
            let more : suc j < suc (length (filter_map f (range_with_len (first + 1) n))) = rw found.1 at h in
            let rest = of_kept (first + 1) n j other (omega arith) in
            let low = own first found.0 found.1 in
            let high = own rest.0 (get_or (filter_map f (range_with_len (first + 1) n)) j other) rest.2 in
            rw found.1 (omega (arith, rest.1, low, high))
      ]
  kept_rise own first (suc n) (suc i) (suc j) other less h =
      elim (option_cases (f first)) [
        | inl none ↦ rw none (kept_rise own (first + 1) n (suc i) (suc j) other less (rw none at h))
        | inr found ↦
            let more : suc j < suc (length (filter_map f (range_with_len (first + 1) n))) = rw found.1 at h in
            rw found.1 (kept_rise own (first + 1) n i j other (omega arith) (omega arith))
      ]

-- the number of a fare is one of a record
fare_is_recorded : (tariff : Tariff) (number : ℕ) (fare : FareRecord) → fare_at tariff number ≡ Some fare
    → (2 ≤ number) × (number < number_at (length tariff.records))
fare_is_recorded tariff number fare e =
    elim (cases_Bool (nat_le 2 number)) [
      | inl low ↦
          let found : option_and_then fare_in (slice_get tariff.records (number - 2)) ≡ Some fare = rw low at e in
          let h = leb-true 2 number low in
          option_and_then_some fare_in (slice_get tariff.records (number - 2)) fare found (λ one there filed.
          (h, omega (arith, slice_get_within tariff.records (number - 2) one there)))
      | inr high ↦ absurd (none-some fare (rw high at e))
    ]

recorded : (tariff : Tariff) (trip : Itinerary) (a b number : ℕ)
    → has_amount (entry_of tariff trip a b number) ≡ true
    → (2 ≤ number) × (number < number_at (length tariff.records))
recorded tariff trip a b number h =
    elim (or_cases _ _ h) [
      | inl out ↦ let found = amount_of_fare tariff trip a b number false out in fare_is_recorded tariff number found.0 found.1
      | inr back ↦ let found = amount_of_fare tariff trip a b number true back in fare_is_recorded tariff number found.0 found.1
    ]

entry_there : (tariff : Tariff) (trip : Itinerary) (a b number : ℕ)
    → has_amount (entry_of tariff trip a b number) ≡ true
    → entry_at tariff trip a b number ≡ Some (entry_of tariff trip a b number)
unfolding entry_at
entry_there tariff trip a b number h = rw h

of_entry : (tariff : Tariff) (trip : Itinerary) (a b number : ℕ) (entry : Entry)
    → entry_at tariff trip a b number ≡ Some entry
    → (has_amount (entry_of tariff trip a b number) ≡ true) × (entry_of tariff trip a b number ≡ entry)
unfolding entry_at
of_entry tariff trip a b number entry e =
    cond_some (has_amount (entry_of tariff trip a b number)) (entry_of tariff trip a b number) entry e

of_its_number : (tariff : Tariff) (trip : Itinerary) (a b : ℕ) → OfItsNumber (entry_at tariff trip a b)
of_its_number tariff trip a b k entry e = sym (ap (λ (x : Entry). x.fare) (of_entry tariff trip a b k entry e).1)

-- each fare that has an amount for a span is one of its entries
pub amount_is_entry : (tariff : Tariff) (trip : Itinerary) (a b number : ℕ) → a < b → b ≤ count trip
    → has_amount (entry_of tariff trip a b number) ≡ true
    → Contains (entries_of tariff trip a b) (entry_of tariff trip a b number)
amount_is_entry tariff trip a b number rises within h =
    let past = number_at (length tariff.records) in
    let place = recorded tariff trip a b number h in
    rw (entries_of_span tariff trip a b rises within)
    (kept_in (entry_at tariff trip a b) 2 (past - 2) number (entry_of tariff trip a b number) place.0 (omega (arith, place.1)) (entry_there tariff trip a b number h))

-- what stands among the entries of a span is an entry
pub entry_is_of_fare : (tariff : Tariff) (trip : Itinerary) (a b : ℕ) (entry : Entry)
    → Contains (entries_of tariff trip a b) entry → IsEntry tariff trip a b entry
entry_is_of_fare tariff trip a b entry there =
    elim (cases_Bool (is_span trip a b)) [
      | inl span ↦
          let ends = and_parts _ _ span in
          let rises = ltb-true a b ends.0 in
          let within = leb-true b (count trip) ends.1 in
          let e = entries_of_span tariff trip a b rises within in
          let found : Contains (filter_map (entry_at tariff trip a b) (numbers 2 (number_at (length tariff.records)))) entry = rw e at there in
          let made = of_kept (entry_at tariff trip a b) 2 (number_at (length tariff.records) - 2) found.0 entry found.1 in
          let of = of_entry tariff trip a b made.0 entry (made.2 ∙ ap Some found.2) in
          let number : made.0 ≡ entry.fare = ap (λ (x : Entry). x.fare) of.1 in
          record {
            rises = rises;
            within = within;
            whole = sym of.1 ∙ ap (entry_of tariff trip a b) number;
            amount = sym (ap has_amount of.1) ∙ of.0;
          }
      | inr none ↦
          let found = rw (no_entries_beyond tariff trip a b none) at there in
          absurd (omega (arith, found.1))
    ]

-- the entries of a span stand in the order of their numbers
pub entries_in_order : (tariff : Tariff) (trip : Itinerary) (a b : ℕ) → AllPairs ComesBefore (entries_of tariff trip a b)
entries_in_order tariff trip a b =
    elim (cases_Bool (is_span trip a b)) [
      | inl span ↦
          let ends = and_parts _ _ span in
          let e = entries_of_span tariff trip a b (ltb-true a b ends.0) (leb-true b (count trip) ends.1) in
          rw e (λ i j other less h. kept_rise (entry_at tariff trip a b) (of_its_number tariff trip a b) 2 (number_at (length tariff.records) - 2) i j other less h)
      | inr none ↦ rw (no_entries_beyond tariff trip a b none) (λ i j other less h. absurd (omega arith))
    ]

-- a test that a number of a range passes is passed in the range
any_at : (test : ℕ → Bool) (first n k : ℕ) → first ≤ k → k < first + n → test k ≡ true
    → list_any test (range_with_len first n) ≡ true
any_at test first zero k low high e = absurd (omega arith)
any_at test first (suc n) k low high e =
    elim (cases_eq k first) [
      | inl same ↦ or_left (test first) (list_any test (range_with_len (first + 1) n)) (subst (λ i. test i ≡ true) same e)
      | inr other ↦ or_right (test first) (list_any test (range_with_len (first + 1) n)) (any_at test (first + 1) n k (omega arith) (omega arith) e)
    ]

-- a span whose ends are one city repeats it
repeats_end : (trip : Itinerary) (a b : ℕ) → a < b → is_same_city trip b a ≡ true → repeats_city trip a b ≡ true
unfolding repeats_city
repeats_end trip a b rises same =
    any_at (is_repeated trip a) a ((b + 1) - a) b (omega arith) (omega arith)
    (any_at (is_same_city trip b) a (b - a) a (omega arith) (omega arith) same)

-- a fare that may be used in both directions runs from both ends of its span
from_one_end : (trip : Itinerary) (a b : ℕ) (fare : FareRecord) → runs_between trip a b false fare ≡ true
    → runs_between trip a b true fare ≡ true → point trip b ≡ point trip a
unfolding runs_between
from_one_end trip a b fare out back =
    sym ((bytes_eq-Decides fare.from (point trip b)).0 (and_parts _ _ back).0)
    ∙ (bytes_eq-Decides fare.from (point trip a)).0 (and_parts _ _ out).0

-- so no fare has an amount in both directions
not_both : (tariff : Tariff) (trip : Itinerary) (a b number : ℕ) → a < b
    → is_some (component_amount tariff trip a b number false) ≡ true
    → is_some (component_amount tariff trip a b number true) ≡ true → ⊥
not_both tariff trip a b number rises out back =
    let found = amount_of_fare tariff trip a b number false out in
    let there = usable_from_amount tariff trip a b number false found.0 found.1 out in
    let home = usable_from_amount tariff trip a b number true found.0 found.1 back in
    let one = from_one_end trip a b found.0 there.pair home.pair in
    let same = (bytes_eq-Decides (point trip b) (point trip a)).1 one in
    false≢true (sym there.distinct ∙ repeats_end trip a b rises same)

-- an entry has an amount in one direction alone
pub entry_has_one_direction : (tariff : Tariff) (trip : Itinerary) (a b : ℕ) (entry : Entry)
    → Contains (entries_of tariff trip a b) entry → (entry.out ≡ None) ⊎ (entry.back ≡ None)
entry_has_one_direction tariff trip a b entry there =
    let of = entry_is_of_fare tariff trip a b entry there in
    let out = ap (λ (x : Entry). x.out) of.whole in
    let back = ap (λ (x : Entry). x.back) of.whole in
    elim (option_cases (component_amount tariff trip a b entry.fare false)) [
      | inl none ↦ inl (out ∙ none)
      | inr found ↦ elim (option_cases (component_amount tariff trip a b entry.fare true)) [
        | inl none ↦ inr (back ∙ none)
        | inr other ↦ absurd (not_both tariff trip a b entry.fare of.rises (ap is_some found.1) (ap is_some other.1))
      ]
    ]
