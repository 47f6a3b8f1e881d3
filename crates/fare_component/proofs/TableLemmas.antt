-- The rows of a table, one entry on, and what stands at a place of them.
use Rattle.std.proofs.Common.{◌≡◌, ℕ, ◌+◌, ◌-◌, ◌<◌, ◌≤◌, false, List, [], ◌∷◌, ◌++◌, length, map, reverse, get_or, ap, sym, ◌∙◌, arith, inl, inr}
use Rattle.std.proofs.lemmas.Bool.{and_left, and_right, le-ltb, lt-leb, cases_lt}
use Rattle.std.proofs.lemmas.Grind.{reverse_onto}
use Rattle.std.proofs.lemmas.List.{map_push, get_or_past, length-map}
use Rattle.std.proofs.lemmas.List.FromFn.{get_or-map-range_with_len, length-range_with_len}
use Rattle.fare_trip.specs.Itinerary.{Itinerary, count}
use Rattle.fare_tariff.specs.Tariff.{Tariff}
use Rattle.fare_rules.specs.Numbers.{numbers}
use Rattle.fare_rules.proofs.NumberLemmas.{numbers_more, numbers_next, numbers_none}
use Rattle.fare_component.specs.declared.table.entry.Entry.{Entry}
use Rattle.fare_component.specs.Table.{entries_of, is_span, row_of}
use Rattle.fare_component.proofs.EntryLemmas.{no_entries_beyond}

-- what is made of a range that is one longer
pub made_push : {A : Type 0} (f : ℕ → A) (past : ℕ)
    → map f (numbers 0 (past + 1)) ≡ map f (numbers 0 past) ++ f past ∷ []
made_push f past = ap (map f) (numbers_more 0 past (omega arith)) ∙ map_push f (numbers 0 past) past

made_at : {A : Type 0} (f : ℕ → A) (past place : ℕ) (other : A) → place < past
    → get_or (map f (numbers 0 past)) place other ≡ f place
made_at f past place other h = get_or-map-range_with_len f 0 (past - 0) place place other (omega arith) (omega arith)

made_length : {A : Type 0} (f : ℕ → A) (past : ℕ) → length (map f (numbers 0 past)) ≡ past
made_length f past =
    let e : past - 0 ≡ past = omega arith in
    length-map (numbers 0 past) f ∙ length-range_with_len 0 (past - 0) ∙ e

-- two points make no span where the first isn't before the second, or the second is behind the trip
pub no_span_back : (trip : Itinerary) (a b : ℕ) → b ≤ a → is_span trip a b ≡ false
no_span_back trip a b h = and_left _ _ (le-ltb a b h)

no_span_beyond : (trip : Itinerary) (a b : ℕ) → count trip < b → is_span trip a b ≡ false
no_span_beyond trip a b h = and_right _ _ (lt-leb b (count trip) h)

pub no_span_behind : (trip : Itinerary) (a b : ℕ) → count trip ≤ a → is_span trip a b ≡ false
no_span_behind trip a b h =
    elim (cases_lt a b) [
      | inl rises ↦ no_span_beyond trip a b (omega arith)
      | inr falls ↦ no_span_back trip a b falls
    ]

-- the entries at a place of a row
in_row : (tariff : Tariff) (trip : Itinerary) (a b : ℕ)
    → get_or (row_of tariff trip a) b [] ≡ entries_of tariff trip a b
in_row tariff trip a b =
    elim (cases_lt b (count trip + 1)) [
      | inl within ↦ made_at (entries_of tariff trip a) (count trip + 1) b [] within
      | inr beyond ↦
          let e = made_length (entries_of tariff trip a) (count trip + 1) in
          get_or_past (row_of tariff trip a) b [] (omega (arith, e))
          ∙ sym (no_entries_beyond tariff trip a b (no_span_beyond trip a b (omega arith)))
    ]

-- the entries at a place of a row of a table
pub in_table : (tariff : Tariff) (trip : Itinerary) (rows : List (List (List Entry))) (row : List (List Entry)) (a b : ℕ)
    → rows ≡ map (row_of tariff trip) (numbers 0 (count trip)) → a < length rows → row ≡ get_or rows a row
    → get_or row b [] ≡ entries_of tariff trip a b
in_table tariff trip rows row a b made within read =
    let long : length rows ≡ count trip = ap length made ∙ made_length (row_of tariff trip) (count trip) in
    let e : row ≡ row_of tariff trip a =
    read ∙ ap (λ l. get_or l a row) made ∙ made_at (row_of tariff trip) (count trip) a row (omega arith) in
    ap (λ (l : List (List Entry)). get_or l b []) e ∙ in_row tariff trip a b

-- behind the rows of a table there are no entries
pub behind_table : (tariff : Tariff) (trip : Itinerary) (rows : List (List (List Entry))) (a b : ℕ)
    → rows ≡ map (row_of tariff trip) (numbers 0 (count trip)) → length rows ≤ a → entries_of tariff trip a b ≡ []
behind_table tariff trip rows a b made behind =
    let long : length rows ≡ count trip = ap length made ∙ made_length (row_of tariff trip) (count trip) in
    no_entries_beyond tariff trip a b (no_span_behind trip a b (omega arith))

-- what is made of a range that begins one earlier, last first
made_before : {A : Type 0} (f : ℕ → A) (first past : ℕ) → first < past
    → reverse (map f (numbers first past)) ≡ reverse (map f (numbers (first + 1) past)) ++ f first ∷ []
made_before f first past h =
    ap (λ l. reverse (map f l)) (numbers_next first past h) ∙ reverse_onto (map f (numbers (first + 1) past)) (f first) []

-- the values of the last numbers of a range, last first, once one more is made
pub made_on : {A : Type 0} (f : ℕ → A) (rows : List A) (one : A) (past done a : ℕ) → a + 1 + done ≡ past
    → rows ≡ reverse (map f (numbers (past - done) past)) → one ≡ f a
    → rows ++ one ∷ [] ≡ reverse (map f (numbers (past - (done + 1)) past))
made_on f rows one past done a e whole made =
    let first : past - (done + 1) ≡ a = omega arith in
    let next : past - done ≡ a + 1 = omega arith in
    ap (λ l. l ++ one ∷ []) whole
    ∙ ap (λ (k : ℕ). reverse (map f (numbers k past)) ++ one ∷ []) next
    ∙ ap (λ last. reverse (map f (numbers (a + 1) past)) ++ last ∷ []) made
    ∙ sym (made_before f a past (omega arith))
    ∙ ap (λ (k : ℕ). reverse (map f (numbers k past))) (sym first)

-- at first there are none
pub made_none : {A : Type 0} (f : ℕ → A) (past : ℕ) → [] ≡ reverse (map f (numbers (past - 0) past))
made_none f past = sym (ap (λ l. reverse (map f l)) (numbers_none (past - 0) past (omega arith)))
