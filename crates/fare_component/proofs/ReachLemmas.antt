-- The greatest of the references that a component compares, by the pairs that end before its end and by those that end
-- there.
use Rattle.std.proofs.Common.{◌≡◌, refl, ℕ, zero, suc, ◌+◌, ◌-◌, ◌<◌, ◌≤◌, eqb, Bool, true, false, cond, not, ◌&&◌, ◌||◌, List, [], ◌∷◌, ◌++◌, max, ap, sym, ◌∙◌, arith}
use Rattle.std.specs.Prelude.{Option, Some, None, filter, option_map, filter_map, flat_map, unwrap_or}
use Rattle.std.specs.List.{cons_option, range_with_len}
use Rattle.std.proofs.lemmas.Bool.{eq-eqb, ne_eqb}
use Rattle.std.proofs.lemmas.Grind.{flat_map-append}
use Rattle.std.proofs.lemmas.List.Elements.{filter-append, filter_map-append}
use Rattle.fare_codes.specs.declared.day.Day.{Day}
use Rattle.fare_trip.specs.Itinerary.{Itinerary}
use Rattle.fare_tariff.specs.Tariff.{Tariff}
use Rattle.fare_codes.specs.Amounts.{greater}
use Rattle.fare_rules.specs.Numbers.{greatest_of, numbers}
use Rattle.fare_rules.specs.Span.{first_day, is_stopover}
use Rattle.fare_rules.specs.Base.{Compared, compared_pair, compared_pairs, greatest_amount, is_compared, is_end_or_stopover, reference_between, with_amount}
use Rattle.fare_rules.specs.UnitPrice.{at_least}
use Rattle.fare_rules.proofs.NumberLemmas.{numbers_next, numbers_none, numbers_more}
use Rattle.fare_component.specs.declared.table.references.Form.{Form}
use Rattle.fare_component.specs.declared.table.references.Reach.{Reach}
use Rattle.fare_component.specs.References.{IsReach, greatest_from, greatest_inner, greatest_to, inner_from, inner_pair, reference_of, stop_to, to_stop}
use Rattle.fare_component.proofs.GreatestLemmas.{apart, at_least_apart, both, one_taken, put_first}

module _ (p : ℕ → ℕ → Option Compared) where
  -- what is found for the pairs that begin at a point and end before another
  abbrev row : ℕ → ℕ → List Compared
  row past i = filter_map (p i) (numbers (i + 1) past)

  -- a row that is one longer
  row_more : (i j : ℕ) → i < j
      → greatest_amount 0 (row (j + 1) i)
      ≡ max (greatest_amount 0 (row j i)) (greatest_amount 0 (cons_option (p i j) []))
  row_more i j h =
      ap (λ l. greatest_amount 0 (filter_map (p i) l)) (numbers_more (i + 1) j (omega arith))
      ∙ ap (greatest_amount 0) (filter_map-append (p i) (numbers (i + 1) j) (j ∷ []))
      ∙ both (row j i) (cons_option (p i j) [])

  -- rows that are one longer have what they had and one column more
  rows_more : (first n j : ℕ) → first + n ≤ j
      → greatest_amount 0 (flat_map (row (j + 1)) (range_with_len first n))
      ≡ max (greatest_amount 0 (flat_map (row j) (range_with_len first n)))
      (greatest_amount 0 (filter_map (λ i. p i j) (range_with_len first n)))
  rows_more first zero j h = omega arith
  rows_more first (suc n) j h =
      let rest = rows_more (first + 1) n j (omega arith) in
      let here = row_more first j (omega arith) in
      let long = both (row (j + 1) first) (flat_map (row (j + 1)) (range_with_len (first + 1) n)) in
      let short = both (row j first) (flat_map (row j) (range_with_len (first + 1) n)) in
      let put = put_first (p first j) (filter_map (λ i. p i j) (range_with_len (first + 1) n)) in
      omega (arith, rest, here, long, short, put)

  -- the row of the last point is empty
  last_row : (first j : ℕ) → first ≤ j
      → greatest_amount 0 (flat_map (row (j + 1)) (numbers first (j + 1)))
      ≡ greatest_amount 0 (flat_map (row (j + 1)) (numbers first j))
  last_row first j h =
      let none : row (j + 1) j ≡ [] = ap (filter_map (p j)) (numbers_none (j + 1) (j + 1) (omega arith)) in
      let tail : greatest_amount 0 (flat_map (row (j + 1)) (j ∷ [])) ≡ 0 = ap (λ l. greatest_amount 0 (l ++ [])) none in
      let front = both (flat_map (row (j + 1)) (numbers first j)) (flat_map (row (j + 1)) (j ∷ [])) in
      ap (λ l. greatest_amount 0 (flat_map (row (j + 1)) l)) (numbers_more first j h)
      ∙ ap (greatest_amount 0) (flat_map-append (row (j + 1)) (numbers first j) (j ∷ []))
      ∙ omega (arith, tail, front)

-- tests that agree on a range find the same there
row_same : (f g : ℕ → Option Compared) (first n : ℕ) → ((k : ℕ) → first ≤ k → k < first + n → f k ≡ g k)
    → filter_map f (range_with_len first n) ≡ filter_map g (range_with_len first n)
row_same f g first zero h = refl
row_same f g first (suc n) h =
    let rest : filter_map f (range_with_len (first + 1) n) ≡ filter_map g (range_with_len (first + 1) n) =
    row_same f g (first + 1) n (λ k low high. h k (omega arith) (omega arith)) in
    let here : f first ≡ g first = h first (omega arith) (omega arith) in
    ap (λ o. cons_option o (filter_map f (range_with_len (first + 1) n))) here
    ∙ ap (cons_option (g first)) rest

rows_same : (p q : ℕ → ℕ → Option Compared) (past first n : ℕ)
    → ((i j : ℕ) → first ≤ i → i < j → j < past → p i j ≡ q i j)
    → flat_map (row p past) (range_with_len first n) ≡ flat_map (row q past) (range_with_len first n)
rows_same p q past first zero h = refl
rows_same p q past first (suc n) h =
    let rest = rows_same p q past (first + 1) n (λ i j low rises high. h i j (omega arith) rises high) in
    let here = row_same (p first) (q first) (first + 1) (past - (first + 1)) (λ j low high. h first j (omega arith) (omega arith) (omega arith)) in
    ap (λ l. l ++ flat_map (row p past) (range_with_len (first + 1) n)) here
    ∙ ap (λ l. row q past first ++ l) rest

-- the greatest of what is found for some points and one behind them
greatest_behind : (f : ℕ → Option ℕ) (points : List ℕ) (j : ℕ) (stop : Bool)
    → unwrap_or (greatest_of f (points ++ cond stop (j ∷ []) [])) 0
    ≡ at_least (unwrap_or (greatest_of f points) 0) (cond stop (f j) None)
greatest_behind f [] j true = one_greatest (f j)
  where
    one_greatest : (found : Option ℕ) → unwrap_or (greater found None) 0 ≡ at_least 0 found
    one_greatest None = refl
    one_greatest (Some high) = omega arith
greatest_behind f [] j false = refl
greatest_behind f (i ∷ points) j stop =
    let rest = greatest_behind f points j stop in
    let whole = greater_or_0 (f i) (greatest_of f (points ++ cond stop (j ∷ []) [])) in
    let front = greater_or_0 (f i) (greatest_of f points) in
    let last = at_least_greater (unwrap_or (f i) 0) (unwrap_or (greatest_of f points) 0) (cond stop (f j) None) in
    whole ∙ ap (max (unwrap_or (f i) 0)) rest ∙ last ∙ ap (λ n. at_least n (cond stop (f j) None)) (sym front)
  where
    greater_or_0 : (a b : Option ℕ) → unwrap_or (greater a b) 0 ≡ max (unwrap_or a 0) (unwrap_or b 0)
    greater_or_0 None b = omega arith
    greater_or_0 (Some a) None = omega arith
    greater_or_0 (Some a) (Some b) = refl

    at_least_greater : (a b : ℕ) (found : Option ℕ) → max a (at_least b found) ≡ at_least (max a b) found
    at_least_greater a b None = refl
    at_least_greater a b (Some high) = omega arith

-- nothing is found for pairs that end at no stopover
stopping : (stop : Bool) (test : ℕ → Bool) (found : ℕ → Option ℕ) (j : ℕ) (points : List ℕ)
    → greatest_amount 0 (filter_map (λ i. option_map (with_amount i j) (cond (stop && test i) (found i) None)) points)
    ≡ cond stop (greatest_amount 0 (filter_map (λ i. option_map (with_amount i j) (cond (test i) (found i) None)) points)) 0
stopping true test found j points = refl
stopping false test found j [] = refl
stopping false test found j (i ∷ points) = stopping false test found j points

-- a pair that ends before the end of a component isn't the whole of it, and is compared where its end is a stopover
tests_before : (first start stop : Bool) → (not (first && false) && start && (false || stop)) ≡ (stop && start)
tests_before true true true = refl
tests_before true true false = refl
tests_before true false true = refl
tests_before true false false = refl
tests_before false true true = refl
tests_before false true false = refl
tests_before false false true = refl
tests_before false false false = refl

-- one that ends there and begins behind the start is compared where its start is a stopover
tests_there : (start stop : Bool) → (not (false && true) && start && (true || stop)) ≡ start
tests_there true stop = refl
tests_there false stop = refl

module _ (tariff : Tariff) (trip : Itinerary) (form : Form) (a : ℕ) where
  -- what a form has between a point that begins a pair which is compared and a later point
  abbrev pair_to : ℕ → ℕ → ℕ → Option Compared
  pair_to a j i =
      option_map (with_amount i j) (cond (is_end_or_stopover trip a i) (reference_of tariff trip form i j) None)

  -- a point behind the start begins a pair where it is a stopover
  pair_stop : (i j : ℕ) → a < i → pair_to a j i ≡ stop_to tariff trip form j i
  pair_stop i j h =
      ap (λ first. option_map (with_amount i j) (cond (first || is_stopover trip i) (reference_of tariff trip form i j) None)) (ne_eqb i a (λ e. omega arith))

  stop_pairs : (j : ℕ)
      → greatest_amount 0 (filter_map (pair_to a j) (numbers (a + 1) j)) ≡ greatest_to tariff trip form (a + 1) j j
  unfolding greatest_to
  stop_pairs j =
      ap (greatest_amount 0) (row_same (pair_to a j) (stop_to tariff trip form j) (a + 1) (j - (a + 1)) (λ i low high. pair_stop i j (omega arith)))

  -- and the start itself does
  first_pairs : (j : ℕ) → a < j
      → greatest_amount 0 (filter_map (pair_to a j) (numbers a j))
      ≡ at_least (greatest_to tariff trip form (a + 1) j j) (reference_of tariff trip form a j)
  first_pairs j h =
      let found = reference_of tariff trip form a j in
      let rest = filter_map (pair_to a j) (numbers (a + 1) j) in
      ap (λ l. greatest_amount 0 (filter_map (pair_to a j) l)) (numbers_next a j h)
      ∙ ap (λ first. greatest_amount 0 (cons_option (option_map (with_amount a j) (cond (first || is_stopover trip a) found None)) rest)) (eq-eqb a a refl)
      ∙ one_taken 0 a j found rest
      ∙ at_least_apart found rest
      ∙ ap (λ n. at_least n found) (stop_pairs j)

  -- one point further there are the pairs that end at that point, where it is a stopover
  more : (j : ℕ) → a ≤ j
      → greatest_inner tariff trip form a (j + 1)
      ≡ max (greatest_inner tariff trip form a j)
      (cond (is_stopover trip j) (greatest_amount 0 (filter_map (pair_to a j) (numbers a j))) 0)
  unfolding greatest_inner
  more j h =
      last_row (inner_pair tariff trip form a) a j h
      ∙ rows_more (inner_pair tariff trip form a) a (j - a) j (omega arith)
      ∙ ap (max (greatest_amount 0 (flat_map (row (inner_pair tariff trip form a) j) (numbers a j))))
      (stopping (is_stopover trip j) (is_end_or_stopover trip a) (λ i. reference_of tariff trip form i j) j (numbers a j))

  pub further : (j : ℕ) → a < j → is_stopover trip j ≡ true
      → greatest_inner tariff trip form a (j + 1)
      ≡ max (greatest_inner tariff trip form a j)
      (at_least (greatest_to tariff trip form (a + 1) j j) (to_stop tariff trip form a j))
  further j h stop =
      more j (omega arith)
      ∙ ap (λ t. max (greatest_inner tariff trip form a j) (cond t (greatest_amount 0 (filter_map (pair_to a j) (numbers a j))) 0)) stop
      ∙ ap (max (greatest_inner tariff trip form a j))
      (first_pairs j h
      ∙ ap (λ t. at_least (greatest_to tariff trip form (a + 1) j j) (cond t (reference_of tariff trip form a j) None)) (sym stop))

  pub no_further : (j : ℕ) → a < j → is_stopover trip j ≡ false
      → greatest_inner tariff trip form a (j + 1) ≡ greatest_inner tariff trip form a j
  no_further j h stop =
      let e = more j (omega arith) ∙ ap (λ t. max (greatest_inner tariff trip form a j) (cond t (greatest_amount 0 (filter_map (pair_to a j) (numbers a j))) 0)) stop in
      omega (arith, e)

  -- one point further there is what the form has from the start to that point, where it is a stopover
  pub first_further : (j : ℕ) → a < j
      → greatest_from tariff trip form a (j + 1)
      ≡ at_least (greatest_from tariff trip form a j) (to_stop tariff trip form a j)
  unfolding greatest_from
  first_further j h =
      let f = reference_of tariff trip form a in
      ap (λ l. unwrap_or (greatest_of f (filter (is_stopover trip) l)) 0) (numbers_more (a + 1) j (omega arith))
      ∙ ap (λ l. unwrap_or (greatest_of f l) 0) (filter-append (is_stopover trip) (numbers (a + 1) j) (j ∷ []))
      ∙ greatest_behind f (filter (is_stopover trip) (numbers (a + 1) j)) j (is_stopover trip j)

  -- at first there are none
  none_inner : greatest_inner tariff trip form a (a + 1) ≡ 0
  unfolding greatest_inner
  none_inner =
      last_row (inner_pair tariff trip form a) a a (omega arith)
      ∙ ap (λ l. greatest_amount 0 (flat_map (row (inner_pair tariff trip form a) (a + 1)) l)) (numbers_none a a (omega arith))

  none_first : greatest_from tariff trip form a (a + 1) ≡ 0
  unfolding greatest_from
  none_first =
      ap (λ l. unwrap_or (greatest_of (reference_of tariff trip form a) (filter (is_stopover trip) l)) 0) (numbers_none (a + 1) (a + 1) (omega arith))

  pub begun : (reach : Reach) → reach.from ≡ a → reach.past ≡ a + 1 → reach.high ≡ 0 → reach.first ≡ 0
      → IsReach tariff trip form reach
  begun reach from past high none =
      let value : 0 ≡ greatest_inner tariff trip form reach.from reach.past =
      sym none_inner ∙ ap (greatest_inner tariff trip form a) (sym past)
      ∙ ap (λ first. greatest_inner tariff trip form first reach.past) (sym from) in
      let first : 0 ≡ greatest_from tariff trip form reach.from reach.past =
      sym none_first ∙ ap (greatest_from tariff trip form a) (sym past)
      ∙ ap (λ n. greatest_from tariff trip form n reach.past) (sym from) in
      record {
        rises = omega arith;
        value = high ∙ value;
        bound = omega arith;
        first = none ∙ first;
        first_bound = omega arith;
      }

  module _ (b : ℕ) (day : form.on ≡ first_day trip a) where
    -- what is compared by a test that is known
    by_test : (i j : ℕ) (test : Bool) → is_compared trip a b i j ≡ test
        → compared_pair tariff trip a b form.fare form.back i j
        ≡ option_map (with_amount i j) (cond test (reference_of tariff trip form i j) None)
    by_test i j test e =
        ap (λ (on : Day). option_map (with_amount i j) (cond (is_compared trip a b i j) (reference_between tariff trip form.fare form.back on i j) None)) (sym day)
        ∙ ap (λ t. option_map (with_amount i j) (cond t (reference_of tariff trip form i j) None)) e

    before : (i j : ℕ) → j < b
        → compared_pair tariff trip a b form.fare form.back i j ≡ inner_pair tariff trip form a i j
    before i j h =
        let other : eqb j b ≡ false = ne_eqb j b (λ e. omega arith) in
        by_test i j (is_stopover trip j && is_end_or_stopover trip a i)
        (ap (λ end. not (eqb i a && end) && is_end_or_stopover trip a i && (end || is_stopover trip j)) other
        ∙ tests_before (eqb i a) (is_end_or_stopover trip a i) (is_stopover trip j))

    there : (i : ℕ) → a < i
        → compared_pair tariff trip a b form.fare form.back i b ≡ pair_to a b i
    there i h =
        let other : eqb i a ≡ false = ne_eqb i a (λ e. omega arith) in
        let same : eqb b b ≡ true = eq-eqb b b refl in
        by_test i b (is_end_or_stopover trip a i)
        (ap (λ end. not (eqb i a && end) && is_end_or_stopover trip a i && (end || is_stopover trip b)) same
        ∙ ap (λ first. not (first && true) && is_end_or_stopover trip a i && (true || is_stopover trip b)) other
        ∙ tests_there (is_end_or_stopover trip a i) (is_stopover trip b))

    whole : compared_pair tariff trip a b form.fare form.back a b ≡ None
    whole =
        let first : eqb a a ≡ true = eq-eqb a a refl in
        let same : eqb b b ≡ true = eq-eqb b b refl in
        by_test a b false
        (ap (λ end. not (eqb a a && end) && is_end_or_stopover trip a a && is_end_or_stopover trip b b) same
        ∙ ap (λ start. not (start && true) && is_end_or_stopover trip a a && is_end_or_stopover trip b b) first)

    column : a < b
        → greatest_amount 0 (filter_map (λ i. compared_pair tariff trip a b form.fare form.back i b) (numbers a b))
        ≡ greatest_to tariff trip form (a + 1) b b
    column h =
        ap (λ l. greatest_amount 0 (filter_map (λ i. compared_pair tariff trip a b form.fare form.back i b) l)) (numbers_next a b h)
        ∙ ap (λ o. greatest_amount 0 (cons_option o (filter_map (λ i. compared_pair tariff trip a b form.fare form.back i b) (numbers (a + 1) b)))) whole
        ∙ ap (greatest_amount 0) (row_same (λ i. compared_pair tariff trip a b form.fare form.back i b) (pair_to a b) (a + 1) (b - (a + 1)) (λ i low high. there i (omega arith)))
        ∙ stop_pairs b

    -- what a component compares is what ends before its end, and what ends there and begins behind its start
    pub of_component : (amount : ℕ) → a < b
        → greatest_amount amount (compared_pairs tariff trip a b form.fare form.back)
        ≡ max (max amount (greatest_inner tariff trip form a b)) (greatest_to tariff trip form (a + 1) b b)
    unfolding compared_pairs greatest_inner
    of_component amount h =
        let p = compared_pair tariff trip a b form.fare form.back in
        let rows : greatest_amount 0 (flat_map (row p b) (numbers a b)) ≡ greatest_amount 0 (flat_map (inner_from tariff trip form a b) (numbers a b)) =
        ap (greatest_amount 0) (rows_same p (inner_pair tariff trip form a) b a (b - a) (λ i j low rises high. before i j high)) in
        let all = rows_more p a (b - a) b (omega arith) in
        let last = column h in
        apart amount (compared_pairs tariff trip a b form.fare form.back) ∙ omega (arith, all, rows, last)
