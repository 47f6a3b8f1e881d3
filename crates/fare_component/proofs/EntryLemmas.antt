-- The entries of a span are those of the fares between its ends.
use Rattle.std.proofs.Common.{◌≡◌, refl, ℕ, zero, suc, ◌+◌, ◌-◌, ◌<◌, ◌≤◌, Bool, true, false, cond, ◌&&◌, not, List, [], ◌∷◌, ◌++◌, length, ap, sym, ◌∙◌, ◌⊎◌, arith, inl, inr}
use Rattle.std.specs.Prelude.{Option, Some, None, is_some, option_and_then, filter_map, slice_get}
use Rattle.std.specs.Option.{option_to_list}
use Rattle.std.specs.List.{cons_option}
use Rattle.std.proofs.lemmas.Bool.{and_from, false_from_ne_true, false≢true, le-leb, lt-ltb}
use Rattle.std.proofs.lemmas.List.{append-nil}
use Rattle.std.proofs.lemmas.List.Elements.{filter_map-append}
use Rattle.std.proofs.lemmas.Option.{none-some, same_Some}
use Rattle.fare_codes.specs.declared.city.City.{City}
use Rattle.fare_codes.specs.declared.indicator.Indicator.{Indicator}
use Rattle.fare_codes.specs.Same.{same_indicator}
use Rattle.fare_trip.specs.Itinerary.{Itinerary, count, point}
use Rattle.fare_records.specs.declared.record.Record.{Record}
use Rattle.fare_records.specs.declared.record.Record.TheVariants as filed
use Rattle.fare_records.specs.Record.{FareRecord}
use Rattle.fare_tariff.specs.Tariff.{Tariff}
use Rattle.fare_tariff.specs.Lookup.{fare_at, fare_in, is_fare_between, number_at}
use Rattle.fare_rules.specs.Numbers.{numbers}
use Rattle.fare_rules.specs.Span.{holds_surface}
use Rattle.fare_rules.specs.Indicator.{indicator}
use Rattle.fare_rules.specs.ComponentAmount.{component_amount, has_indicator, is_filed_between, repeats_city, runs_between, span_surcharge}
use Rattle.fare_rules.proofs.AmountLemmas.{MayBeUsed}
use Rattle.fare_rules.proofs.NumberLemmas.{numbers_more}
use Rattle.fare_rules.proofs.RuleLemmas.{usable_from_amount}
use Rattle.fare_component.specs.declared.table.entry.Entry.{Entry}
use Rattle.fare_component.specs.Candidates.{holds_at, files_at}
use Rattle.fare_component.specs.Table.{entry_at, entry_of, entries_of, has_amount, is_span}

-- there is a value or none
pub option_cases : {A : Type 0} (o : Option A) → (o ≡ None) ⊎ ((x : A) × (o ≡ Some x))
option_cases None = inl refl
option_cases (Some x) = inr (x, refl)

-- the fare of a number is that of the record at its place
pub fare_at_place : (tariff : Tariff) (place : ℕ)
    → fare_at tariff (number_at place) ≡ option_and_then fare_in (slice_get tariff.records place)
fare_at_place tariff place =
    let e : number_at place - 2 ≡ place = omega arith in
    rw (le-leb 2 (number_at place) (omega arith), e)

-- where a record files a fare, it passes a test between two cities where the fare does
pub passes_as_fare : (from to : City) (ind : Indicator) (o : Option Record) (fare : FareRecord)
    → option_and_then fare_in o ≡ Some fare
    → holds_at (is_fare_between from to ind) o ≡ (is_filed_between fare from to && same_indicator fare.ind ind)
passes_as_fare from to ind None fare e = absurd (none-some fare e)
passes_as_fare from to ind (Some (filed.Fare r)) fare e =
    ap (λ (x : FareRecord). is_filed_between x from to && same_indicator x.ind ind) (same_Some r fare e)
passes_as_fare from to ind (Some _) fare e = absurd (none-some fare e)

-- an amount is that of a fare
pub amount_of_fare : (tariff : Tariff) (trip : Itinerary) (a b number : ℕ) (back : Bool)
    → is_some (component_amount tariff trip a b number back) ≡ true
    → (fare : FareRecord) × (fare_at tariff number ≡ Some fare)
unfolding component_amount
amount_of_fare tariff trip a b number back e =
    elim (option_cases (fare_at tariff number)) [
      | inl none ↦ absurd (false≢true (rw none at e))
      | inr found ↦ found
    ]

-- a fare that may be used passes the test between the cities from which and to which it is priced
passes_as_used : (tariff : Tariff) (trip : Itinerary) (a b : ℕ) (back : Bool) (from to : City) (fare : FareRecord)
    → runs_between trip a b back fare ≡ is_filed_between fare from to → MayBeUsed tariff trip a b back fare
    → (is_filed_between fare from to && same_indicator fare.ind (indicator tariff trip a b)) ≡ true
unfolding has_indicator
passes_as_used tariff trip a b back from to fare runs used =
    and_from (is_filed_between fare from to) (same_indicator fare.ind (indicator tariff trip a b)) (sym runs ∙ used.pair) used.indicator

-- where a record files no fare between two cities for the indicator of a span, its number has no amount from the one to
-- the other
no_amount : (tariff : Tariff) (trip : Itinerary) (a b place : ℕ) (back : Bool) (from to : City)
    → ((fare : FareRecord) → runs_between trip a b back fare ≡ is_filed_between fare from to)
    → files_at tariff from to (indicator tariff trip a b) place ≡ false
    → is_some (component_amount tariff trip a b (number_at place) back) ≡ false
no_amount tariff trip a b place back from to runs none =
    false_from_ne_true (is_some (component_amount tariff trip a b (number_at place) back)) (λ there.
    let found = amount_of_fare tariff trip a b (number_at place) back there in
    let used = usable_from_amount tariff trip a b (number_at place) back found.0 found.1 there in
    let passes = passes_as_used tariff trip a b back from to found.0 (runs found.0) used in
    let same = passes_as_fare from to (indicator tariff trip a b) (slice_get tariff.records place) found.0 (sym (fare_at_place tariff place) ∙ found.1) in
    false≢true (sym none ∙ same ∙ passes))

runs_out : (trip : Itinerary) (a b : ℕ) (fare : FareRecord)
    → runs_between trip a b false fare ≡ is_filed_between fare (point trip a) (point trip b)
unfolding runs_between
runs_out trip a b fare = refl

runs_back : (trip : Itinerary) (a b : ℕ) (fare : FareRecord)
    → runs_between trip a b true fare ≡ is_filed_between fare (point trip b) (point trip a)
unfolding runs_between
runs_back trip a b fare = refl

-- a fare with no amount in either direction is no entry
no_entry : (tariff : Tariff) (trip : Itinerary) (a b number : ℕ)
    → is_some (component_amount tariff trip a b number false) ≡ false
    → is_some (component_amount tariff trip a b number true) ≡ false → entry_at tariff trip a b number ≡ None
unfolding entry_at
no_entry tariff trip a b number out back = rw (out, back)

-- a record that files no fare between the ends of a span, either way, for its indicator is no entry
pub no_entry_between : (tariff : Tariff) (trip : Itinerary) (a b place : ℕ)
    → files_at tariff (point trip a) (point trip b) (indicator tariff trip a b) place ≡ false
    → files_at tariff (point trip b) (point trip a) (indicator tariff trip a b) place ≡ false
    → entry_at tariff trip a b (number_at place) ≡ None
no_entry_between tariff trip a b place out back =
    no_entry tariff trip a b (number_at place)
    (no_amount tariff trip a b place false (point trip a) (point trip b) (runs_out trip a b) out)
    (no_amount tariff trip a b place true (point trip b) (point trip a) (runs_back trip a b) back)

-- no fare has an amount on a span that can't be a component
no_amount_there : (tariff : Tariff) (trip : Itinerary) (a b number : ℕ) (back : Bool)
    → (not (holds_surface trip a b) && not (repeats_city trip a b)) ≡ false
    → is_some (component_amount tariff trip a b number back) ≡ false
no_amount_there tariff trip a b number back plain =
    false_from_ne_true (is_some (component_amount tariff trip a b number back)) (λ there.
    let found = amount_of_fare tariff trip a b number back there in
    let used = usable_from_amount tariff trip a b number back found.0 found.1 there in
    false≢true (sym plain ∙ and_from (not (holds_surface trip a b)) (not (repeats_city trip a b)) (ap not used.air) (ap not used.distinct)))

nothing_kept : (f : ℕ → Option Entry) → ((k : ℕ) → f k ≡ None) → (xs : List ℕ) → filter_map f xs ≡ []
nothing_kept f none [] = refl
nothing_kept f none (k ∷ xs) = rw (none k) (nothing_kept f none xs)

chosen : (test : Bool) (xs : List Entry) → xs ≡ [] → cond test xs [] ≡ []
chosen true xs e = e
chosen false xs e = refl

-- there are no entries where no fare has an amount
pub no_entries_there : (tariff : Tariff) (trip : Itinerary) (a b : ℕ)
    → (not (holds_surface trip a b) && not (repeats_city trip a b)) ≡ false → entries_of tariff trip a b ≡ []
unfolding entries_of
no_entries_there tariff trip a b plain =
    chosen (is_span trip a b) _ (nothing_kept (entry_at tariff trip a b) (λ k.
    no_entry tariff trip a b k (no_amount_there tariff trip a b k false plain) (no_amount_there tariff trip a b k true plain)) _)

-- nor where the mileage of the span lets no fare be used
no_amount_unmeasured : (tariff : Tariff) (trip : Itinerary) (a b number : ℕ) (back : Bool)
    → span_surcharge tariff trip a b ≡ None → is_some (component_amount tariff trip a b number back) ≡ false
no_amount_unmeasured tariff trip a b number back none =
    false_from_ne_true (is_some (component_amount tariff trip a b number back)) (λ there.
    let found = amount_of_fare tariff trip a b number back there in
    let used = usable_from_amount tariff trip a b number back found.0 found.1 there in
    false≢true (ap is_some (sym none) ∙ used.mileage))

pub no_entries_unmeasured : (tariff : Tariff) (trip : Itinerary) (a b : ℕ) → span_surcharge tariff trip a b ≡ None
    → entries_of tariff trip a b ≡ []
unfolding entries_of
no_entries_unmeasured tariff trip a b none =
    chosen (is_span trip a b) _ (nothing_kept (entry_at tariff trip a b) (λ k.
    no_entry tariff trip a b k (no_amount_unmeasured tariff trip a b k false none) (no_amount_unmeasured tariff trip a b k true none)) _)

-- nor where two points make no span
pub no_entries_beyond : (tariff : Tariff) (trip : Itinerary) (a b : ℕ) → is_span trip a b ≡ false
    → entries_of tariff trip a b ≡ []
unfolding entries_of
no_entries_beyond tariff trip a b e = rw e

pub entries_of_span : (tariff : Tariff) (trip : Itinerary) (a b : ℕ) → a < b → b ≤ count trip
    → entries_of tariff trip a b ≡ filter_map (entry_at tariff trip a b) (numbers 2 (number_at (length tariff.records)))
unfolding entries_of
entries_of_span tariff trip a b rises within = rw (lt-ltb a b rises, le-leb b (count trip) within)

module _ (f : ℕ → Option Entry) where
  one_kept : (o : Option Entry) → cons_option o [] ≡ option_to_list o
  one_kept None = refl
  one_kept (Some x) = refl

  -- what is kept of a range that is one longer
  pub kept_push : (first past : ℕ) → first ≤ past
      → filter_map f (numbers first (past + 1)) ≡ filter_map f (numbers first past) ++ option_to_list (f past)
  kept_push first past h =
      ap (filter_map f) (numbers_more first past h) ∙ filter_map-append f (numbers first past) (past ∷ [])
      ∙ ap (λ rest. filter_map f (numbers first past) ++ rest) (one_kept (f past))

  -- and of one that is longer by numbers of which none is kept
  pub kept_still : (first past more : ℕ) → first ≤ past → ((k : ℕ) → past ≤ k → k < past + more → f k ≡ None)
      → filter_map f (numbers first (past + more)) ≡ filter_map f (numbers first past)
  kept_still first past zero h none = ap (λ end. filter_map f (numbers first end)) (omega arith)
  kept_still first past (suc more) h none =
      let e : past + suc more ≡ (past + more) + 1 = omega arith in
      let last : option_to_list (f (past + more)) ≡ [] = ap option_to_list (none (past + more) (omega arith) (omega arith)) in
      ap (λ end. filter_map f (numbers first end)) e ∙ kept_push first (past + more) (omega arith)
      ∙ ap (λ rest. filter_map f (numbers first (past + more)) ++ rest) last
      ∙ append-nil (filter_map f (numbers first (past + more)))
      ∙ kept_still first past more h (λ k low high. none k low (omega arith))

  pub kept_to : (first past end : ℕ) → first ≤ past → past ≤ end → ((k : ℕ) → past ≤ k → k < end → f k ≡ None)
      → filter_map f (numbers first end) ≡ filter_map f (numbers first past)
  kept_to first past end h further none =
      let e : end ≡ past + (end - past) = omega arith in
      ap (λ k. filter_map f (numbers first k)) e ∙ kept_still first past (end - past) h (λ k low high. none k low (omega arith))

-- an entry is kept where it has an amount
pub kept_entry : (tariff : Tariff) (trip : Itinerary) (a b number : ℕ)
    → option_to_list (entry_at tariff trip a b number)
    ≡ cond (has_amount (entry_of tariff trip a b number)) (entry_of tariff trip a b number ∷ []) []
unfolding entry_at
kept_entry tariff trip a b number = by_test (has_amount (entry_of tariff trip a b number)) (entry_of tariff trip a b number)
  where
    by_test : (test : Bool) (entry : Entry) → option_to_list (cond test (Some entry) None) ≡ cond test (entry ∷ []) []
    by_test true entry = refl
    by_test false entry = refl
