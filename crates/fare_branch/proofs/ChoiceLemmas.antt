-- The first-part choices, as the entries of the spans from the first point that may begin.
use Rattle.std.proofs.Common.{◌≡◌, ℕ, zero, suc, ◌+◌, ◌-◌, ◌<◌, ◌≤◌, Bool, true, false, List, [], ◌∷◌, ◌++◌, length, map, set, drop, get_or, Option, Some, refl, ap, subst, sym, ◌∙◌, inl, inr, arith}
use Rattle.std.specs.Prelude.{is_some, filter, flat_map, slice_get, slice_index, option_map}
use Rattle.std.specs.List.{filter_map}
use Rattle.std.proofs.Math.Seq.{drop-cons}
use Rattle.std.proofs.Math.Numerals.{add-one}
use Rattle.std.proofs.Math.ListN.{length-append}
use Rattle.std.proofs.lemmas.List.{length-map, get_or-set_same, get_or-set_other}
use Rattle.std.proofs.lemmas.Option.{slice_get-map}
use Rattle.std.proofs.lemmas.Bool.{cases_Bool, cases_eq, lt-ltb, le-leb}
use Rattle.fare_trip.specs.Itinerary.{Itinerary, count}
use Rattle.fare_tariff.specs.Tariff.{Tariff}
use Rattle.fare_rules.specs.Numbers.{numbers_down}
use Rattle.fare_rules.specs.ComponentAmount.{component_amount}
use Rattle.fare_rules.specs.Completion.{Choice, choice, choices_to, first_part_choices, may_begin, record_numbers}
use Rattle.fare_component.specs.declared.table.entry.Entry.{Entry}
use Rattle.fare_component.specs.Table.{entries_of, entry_at, is_span}
use Rattle.fare_branch.specs.Beginnings.{AreCounts, begins, outward}
use Rattle.fare_floors.specs.Costs.{fare_of_entry}

-- the fares of entries that may begin
abbrev pub fares : List Entry → List ℕ
fares entries = map fare_of_entry (outward entries)

-- entry by entry
front : (i : ℕ) (entries : List Entry) (one : Entry) → i < length entries → one ≡ get_or entries i one → drop i entries ≡ one ∷ drop (i + 1) entries
front i entries one h same = rw add-one (drop-cons entries i one h ∙ ap (λ (x : Entry). x ∷ drop (suc i) entries) (sym same))

get_over : (one : Entry) (rest : List Entry) (left : ℕ) → begins one ≡ false → slice_get (fares (one ∷ rest)) left ≡ slice_get (fares rest) left
get_over one rest left b = rw b refl

get_past : (one : Entry) (rest : List Entry) (left : ℕ) → begins one ≡ true → 1 ≤ left → slice_get (fares (one ∷ rest)) left ≡ slice_get (fares rest) (left - 1)
get_past one rest zero b h = absurd (omega arith)
get_past one rest (suc n) b h = let e : suc n - 1 ≡ n = omega arith in rw (b, e) refl

get_first : (one : Entry) (rest : List Entry) → begins one ≡ true → slice_get (fares (one ∷ rest)) 0 ≡ Some one.fare
get_first one rest b = rw b refl

pub nth_over : (i : ℕ) (entries : List Entry) (one : Entry) (left : ℕ) (all : Option ℕ) → i < length entries → one ≡ get_or entries i one → begins one ≡ false → slice_get (fares (drop i entries)) left ≡ all → slice_get (fares (drop (i + 1) entries)) left ≡ all
nth_over i entries one left all h same b so_far =
    sym (get_over one (drop (i + 1) entries) left b) ∙ sym (ap (λ xs. slice_get (fares xs) left) (front i entries one h same)) ∙ so_far

pub nth_past : (i : ℕ) (entries : List Entry) (one : Entry) (left : ℕ) (all : Option ℕ) → i < length entries → one ≡ get_or entries i one → begins one ≡ true → 1 ≤ left → slice_get (fares (drop i entries)) left ≡ all → slice_get (fares (drop (i + 1) entries)) (left - 1) ≡ all
nth_past i entries one left all h same b some so_far =
    sym (get_past one (drop (i + 1) entries) left b some) ∙ sym (ap (λ xs. slice_get (fares xs) left) (front i entries one h same)) ∙ so_far

pub nth_here : (i : ℕ) (entries : List Entry) (one : Entry) (all : Option ℕ) → i < length entries → one ≡ get_or entries i one → begins one ≡ true → slice_get (fares (drop i entries)) 0 ≡ all → Some one.fare ≡ all
nth_here i entries one all h same b so_far =
    sym (get_first one (drop (i + 1) entries) b) ∙ sym (ap (λ xs. slice_get (fares xs) 0) (front i entries one h same)) ∙ so_far

-- list by list
pub get_front : {A : Type 0} (xs ys : List A) (n : ℕ) → n < length xs → slice_get (xs ++ ys) n ≡ slice_get xs n
get_front [] ys n h = absurd (omega arith)
get_front (x ∷ xs) ys zero h = refl
get_front (x ∷ xs) ys (suc n) h = get_front xs ys n (omega arith)

pub get_behind : {A : Type 0} (xs ys : List A) (n : ℕ) → length xs ≤ n → slice_get (xs ++ ys) n ≡ slice_get ys (n - length xs)
get_behind [] ys n h = let e : n - 0 ≡ n = omega arith in rw e refl
get_behind (x ∷ xs) ys zero h = absurd (omega arith)
get_behind (x ∷ xs) ys (suc n) h = let e : suc n - suc (length xs) ≡ n - length xs = omega arith in rw e (get_behind xs ys n (omega arith))

module _ (tariff : Tariff) (trip : Itinerary) (end : ℕ) where
  -- the choices among some record numbers
  given : List ℕ → List Choice
  given xs = map (choice end) (fares (filter_map (entry_at tariff trip 0 end) xs))

  given_by : (x : ℕ) (xs : List ℕ) (out back : Bool) → is_some (component_amount tariff trip 0 end x false) ≡ out → is_some (component_amount tariff trip 0 end x true) ≡ back
      → map (choice end) (filter (may_begin tariff trip end) xs) ≡ map (choice end) (fares (filter_map (entry_at tariff trip 0 end) xs))
      → map (choice end) (filter (may_begin tariff trip end) (x ∷ xs)) ≡ map (choice end) (fares (filter_map (entry_at tariff trip 0 end) (x ∷ xs)))
  unfolding entry_at
  given_by x xs true back o b more = rw (o, o) (ap (λ cs. choice end x ∷ cs) more)
  given_by x xs false true o b more = rw (o, b, o) more
  given_by x xs false false o b more = rw (o, b) more

  pub given_all : (xs : List ℕ) → map (choice end) (filter (may_begin tariff trip end) xs) ≡ map (choice end) (fares (filter_map (entry_at tariff trip 0 end) xs))
  given_all [] = refl
  given_all (x ∷ xs) = given_by x xs (is_some (component_amount tariff trip 0 end x false)) (is_some (component_amount tariff trip 0 end x true)) refl refl (given_all xs)

  -- the choices that end at a point are those of its entries
  pub choices_are : 1 ≤ end → end ≤ count trip → choices_to tariff trip end ≡ map (choice end) (fares (entries_of tariff trip 0 end))
  unfolding entries_of
  choices_are low high =
      let span : is_span trip 0 end ≡ true = rw (lt-ltb 0 end low) (le-leb end (count trip) high) in
      rw span (given_all (record_numbers tariff))

  pub choices_count : 1 ≤ end → end ≤ count trip → length (choices_to tariff trip end) ≡ length (outward (entries_of tariff trip 0 end))
  choices_count low high =
      ap length (choices_are low high) ∙ length-map (fares (entries_of tariff trip 0 end)) (choice end) ∙ length-map (outward (entries_of tariff trip 0 end)) fare_of_entry

  pub choice_at : 1 ≤ end → end ≤ count trip → (n : ℕ) → slice_get (choices_to tariff trip end) n ≡ option_map (choice end) (slice_get (fares (entries_of tariff trip 0 end)) n)
  choice_at low high n = ap (λ cs. slice_get cs n) (choices_are low high) ∙ slice_get-map (choice end) (fares (entries_of tariff trip 0 end)) n

pub few_outward : (entries : List Entry) → length (outward entries) ≤ length entries
few_outward [] = omega arith
few_outward (one ∷ rest) =
    let more : length (outward rest) ≤ length rest = few_outward rest in
    elim (cases_Bool (begins one)) [ inl t ↦ rw t (omega arith) | inr f ↦ rw f (omega arith) ]

down_front : (n : ℕ) → 1 ≤ n → numbers_down n ≡ n ∷ numbers_down (n - 1)
down_front zero h = absurd (omega arith)
down_front (suc n) h = let e : suc n - 1 ≡ n = omega arith in rw e refl

module _ (tariff : Tariff) (trip : Itinerary) where
  -- all choices are those that end at any point
  pub choices_to_all : (past : ℕ) → past ≡ count trip + 1 → flat_map (choices_to tariff trip) (numbers_down (past - 1)) ≡ first_part_choices tariff trip
  unfolding first_part_choices
  choices_to_all past h =
      let e : past - 1 ≡ count trip = omega arith in
      ap (λ n. flat_map (choices_to tariff trip) (numbers_down n)) e

  down_by : (past : ℕ) → 2 ≤ past → flat_map (choices_to tariff trip) (numbers_down (past - 1)) ≡ choices_to tariff trip (past - 1) ++ flat_map (choices_to tariff trip) (numbers_down (past - 1 - 1))
  down_by past h = ap (flat_map (choices_to tariff trip)) (down_front (past - 1) (omega arith))

  count_at : (end : ℕ) (entries : List Entry) → 1 ≤ end → end ≤ count trip → entries ≡ entries_of tariff trip 0 end → length (choices_to tariff trip end) ≡ length (outward entries)
  count_at end entries low high same = choices_count tariff trip end low high ∙ ap (λ es. length (outward es)) (sym same)

  pub choice_over : (past left : ℕ) (entries : List Entry) (all : Option Choice) → 2 ≤ past → past ≤ count trip + 1 → entries ≡ entries_of tariff trip 0 (past - 1) → length (outward entries) ≤ left → slice_get (flat_map (choices_to tariff trip) (numbers_down (past - 1))) left ≡ all → slice_get (flat_map (choices_to tariff trip) (numbers_down (past - 1 - 1))) (left - length (outward entries)) ≡ all
  choice_over past left entries all low high same over so_far =
      let n : length (choices_to tariff trip (past - 1)) ≡ length (outward entries) = count_at (past - 1) entries (omega arith) (omega arith) same in
      let P : ℕ → Type 0 = λ m. slice_get (flat_map (choices_to tariff trip) (numbers_down (past - 1 - 1))) (left - m) ≡ all in
      subst P n (sym (get_behind (choices_to tariff trip (past - 1)) (flat_map (choices_to tariff trip) (numbers_down (past - 1 - 1))) left (omega arith))
      ∙ sym (ap (λ cs. slice_get cs left) (down_by past low)) ∙ so_far)

  pub choice_here : (past left : ℕ) (entries : List Entry) (all : Option Choice) → 2 ≤ past → past ≤ count trip + 1 → entries ≡ entries_of tariff trip 0 (past - 1) → left < length (outward entries) → slice_get (flat_map (choices_to tariff trip) (numbers_down (past - 1))) left ≡ all → option_map (choice (past - 1)) (slice_get (fares entries) left) ≡ all
  choice_here past left entries all low high same here so_far =
      let n : length (choices_to tariff trip (past - 1)) ≡ length (outward entries) = count_at (past - 1) entries (omega arith) (omega arith) same in
      ap (λ es. option_map (choice (past - 1)) (slice_get (fares es) left)) same
      ∙ sym (choice_at tariff trip (past - 1) (omega arith) (omega arith) left)
      ∙ sym (get_front (choices_to tariff trip (past - 1)) (flat_map (choices_to tariff trip) (numbers_down (past - 1 - 1))) left (omega arith))
      ∙ sym (ap (λ cs. slice_get cs left) (down_by past low)) ∙ so_far

  pub count_more : (end total : ℕ) (entries : List Entry) → 1 ≤ end → end ≤ count trip → entries ≡ entries_of tariff trip 0 end → total ≡ length (flat_map (choices_to tariff trip) (numbers_down (end - 1))) → total + length (outward entries) ≡ length (flat_map (choices_to tariff trip) (numbers_down (end + 1 - 1)))
  count_more end total entries low high same so_far =
      let n : length (choices_to tariff trip end) ≡ length (outward entries) = count_at end entries low high same in
      let e : end + 1 - 1 ≡ end = omega arith in
      let split : length (choices_to tariff trip end ++ flat_map (choices_to tariff trip) (numbers_down (end - 1))) ≡ length (choices_to tariff trip end) + length (flat_map (choices_to tariff trip) (numbers_down (end - 1))) = length-append (choices_to tariff trip end) (flat_map (choices_to tariff trip) (numbers_down (end - 1))) in
      let whole : length (flat_map (choices_to tariff trip) (numbers_down end)) ≡ length (choices_to tariff trip end ++ flat_map (choices_to tariff trip) (numbers_down (end - 1))) = ap (λ ns. length (flat_map (choices_to tariff trip) ns)) (down_front end low) in
      rw e (omega arith)

  pub counted_at : (counts : List ℕ) (end : ℕ) (entries : List Entry) → AreCounts tariff trip counts → 1 ≤ end → end ≤ count trip → entries ≡ entries_of tariff trip 0 end → slice_index counts end ≡ length (outward entries)
  counted_at counts end entries are low high same = are end low high ∙ ap (λ es. length (outward es)) (sym same)

  -- the count of a point is put behind those of the points before it
  pub counts_put : (counts : List ℕ) (past : ℕ) (entries : List Entry) (n : ℕ) → past < length counts → entries ≡ entries_of tariff trip 0 past → n ≡ length (outward entries)
      → ((end : ℕ) → 1 ≤ end → end < past → slice_index counts end ≡ length (outward (entries_of tariff trip 0 end)))
      → (end : ℕ) → 1 ≤ end → end < past + 1 → slice_index (set counts past n) end ≡ length (outward (entries_of tariff trip 0 end))
  counts_put counts past entries n within same here known end low high =
      elim (cases_eq end past) [
        | inl e ↦
            let P : ℕ → Type 0 = λ m. slice_index (set counts past n) m ≡ length (outward (entries_of tariff trip 0 m)) in
            subst P (sym e) (get_or-set_same counts past n 0 within ∙ here ∙ ap (λ es. length (outward es)) same)
        | inr other ↦ get_or-set_other counts past end n 0 other ∙ known end low (omega arith)
      ]
