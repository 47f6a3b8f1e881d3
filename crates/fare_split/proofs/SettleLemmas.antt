-- What the shares of workers come to together is what a search of each piece does.
use Rattle.std.proofs.Common.{◌≡◌, ℕ, zero, suc, ◌+◌, ◌<◌, ◌≤◌, ◌⊎◌, min, true, false, List, [], ◌∷◌, ◌++◌, take, length, get_or, Option, Some, None, refl, ap, sym, subst, ◌∙◌, inl, inr, arith}
use Rattle.std.specs.Prelude.{All, slice_index_or}
use Rattle.std.proofs.lemmas.Bool.{cases_Bool, cases_lt}
use Rattle.std.proofs.lemmas.List.{length-append, take_all, take_more}
use Rattle.atomic_table.specs.Seated.{TableId}
use Rattle.fare_rules.specs.declared.part.Part.{Part}
use Rattle.fare_rules.specs.Best.{IsLawful}
use Rattle.fare_rules.specs.Order.{is_before}
use Rattle.fare_rules.proofs.BestLemmas.{total, transitive}
use Rattle.fare_rules.proofs.LawfulLemmas.{kept}
use Rattle.fare_units.specs.Walk.{IsBound}
use Rattle.fare_units.proofs.WalkLemmas.{bound_by_earlier}
use Rattle.fare_component.specs.Table.{Pricing}
use Rattle.fare_branch.specs.declared.pieces.Piece.{Piece}
use Rattle.fare_branch.specs.Search.{IsSearched, kept_at}
use Rattle.fare_branch.specs.Shares.{IsBegun, IsFoundIn, is_elsewhere}
use Rattle.fare_branch.specs.Walked.{IsPassed}
use Rattle.fare_branch.proofs.ShareLemmas.{are_as_many, are_at, begun_none, belongs, found_falls, searched_by}
use Rattle.fare_split.specs.declared.worker.Worker.{Worker}
use Rattle.fare_split.specs.PriceWord.{floor_of}
use Rattle.fare_split.specs.Rows.{IsRun, earlier_of, rows_of}
use Rattle.fare_split.specs.Workers.{HasAll, HaveRun, IsInNone, IsMerged, found_at, least_from, merged_from, results_of, share_at}

abbrev Found : Type 0
Found = Option (List Part × ℕ)

true_false : true ≡ false → ⊥
true_false e = cc

module _ (prices : Pricing) where
  -- what is not before one of two is not before the earlier one
  bound_or : (b f : List Part × ℕ) → IsLawful prices.edition prices.trip b.0 b.1 → IsLawful prices.edition prices.trip f.0 f.1
      → (parts : List Part) (price : ℕ) → IsBound parts price (Some b) ⊎ IsBound parts price (Some f)
      → IsBound parts price (earlier_of (Some b) (Some f))
  bound_or b f lb lf parts price h =
      elim (cases_Bool (is_before f.0 f.1 b.0 b.1)) [
        | inl t ↦ rw t (elim h [ inl x ↦ bound_by_earlier parts f.0 b.0 price f.1 b.1 t x | inr y ↦ y ])
        | inr n ↦ rw n (elim h [ inl x ↦ x | inr y ↦ later n y ])
      ]
    where
      later : is_before f.0 f.1 b.0 b.1 ≡ false → is_before parts price f.0 f.1 ≡ false → is_before parts price b.0 b.1 ≡ false
      later n y =
          elim (cases_Bool (is_before parts price b.0 b.1)) [
            | inl t ↦ elim (total prices.trip b.0 f.0 b.1 f.1 (kept prices.edition prices.trip b.0 b.1 lb).cover (kept prices.edition prices.trip f.0 f.1 lf).cover) [
              | inl bf ↦ absurd (true_false (sym (transitive parts b.0 f.0 price b.1 f.1 t bf) ∙ y))
              | inr rest ↦ elim rest [
                | inl fb ↦ absurd (true_false (sym fb ∙ n))
                | inr same ↦ (λ i. is_before parts price (same.0 i) (same.1 i)) ∙ y
              ]
            ]
            | inr r ↦ r
          ]

  module _ (piece : Piece) (count least : ℕ) where
    begun_or : (best found : Found) → IsBegun prices.edition prices.trip piece least best
        → IsBegun prices.edition prices.trip piece least found → IsBegun prices.edition prices.trip piece least (earlier_of best found)
    begun_or best None b f = b
    begun_or None (Some found) b f = f
    begun_or (Some best) (Some found) b f =
        elim (cases_Bool (is_before found.0 found.1 best.0 best.1)) [ inl t ↦ rw t f | inr n ↦ rw n b ]

    passed_or : (best found : Found) → IsBegun prices.edition prices.trip piece least best
        → IsBegun prices.edition prices.trip piece least found → (parts : List Part) (price : ℕ)
        → IsPassed least best parts price ⊎ IsPassed least found parts price → IsPassed least (earlier_of best found) parts price
    passed_or best found b f parts price (inl (inl l)) = inl l
    passed_or best found b f parts price (inr (inl l)) = inl l
    passed_or best None b f parts price (inl (inr x)) = inr x
    passed_or best None b f parts price (inr (inr y)) = absurd y
    passed_or None (Some found) b f parts price (inl (inr x)) = absurd x
    passed_or None (Some found) b f parts price (inr (inr y)) = inr y
    passed_or (Some best) (Some found) b f parts price (inl (inr x)) = inr (bound_or best found b.told.0 f.told.0 parts price (inl x))
    passed_or (Some best) (Some found) b f parts price (inr (inr y)) = inr (bound_or best found b.told.0 f.told.0 parts price (inr y))

    merge_none : IsMerged prices piece 0 count least None
    merge_none = record {
      begun = begun_none prices.edition prices.trip piece least;
      passed = λ parts price l b. inl (λ number low. absurd (omega arith));
    }

    none_more : (upto : ℕ) (parts : List Part) → IsInNone upto count parts → is_elsewhere (share_at upto count) parts ≡ true
        → IsInNone (upto + 1) count parts
    none_more upto parts none e number low =
        elim (cases_lt number upto) [
          | inl l ↦ none number l
          | inr g ↦
              let same : upto ≡ number = omega arith in
              subst (λ n. is_elsewhere (share_at n count) parts ≡ true) same e
        ]

    -- with what one more worker found
    merge_more : (upto : ℕ) (best found : Found) → IsMerged prices piece upto count least best
        → IsFoundIn prices.edition prices.trip (share_at upto count) least piece found
        → IsMerged prices piece (upto + 1) count least (earlier_of best found)
    merge_more upto best found m f = record {
      begun = begun_or best found m.begun f.begun;
      passed = λ parts price l b. elim (m.passed parts price l b) [
        | inl none ↦ elim (f.passed parts price l b) [
          | inl e ↦ inl (none_more upto parts none e)
          | inr q ↦ inr (passed_or best found m.begun f.begun parts price (inr q))
        ]
        | inr q ↦ inr (passed_or best found m.begun f.begun parts price (inl q))
      ];
    }

    merge_all : (workers : List Worker) (number upto : ℕ) (best : Found)
        → ((k : ℕ) (d : Worker) → k < length workers → IsFoundIn prices.edition prices.trip (share_at (upto + k) count) least piece (found_at number (slice_index_or workers k d)))
        → IsMerged prices piece upto count least best
        → IsMerged prices piece (upto + length workers) count least (merged_from best workers number)
    merge_all [] number upto best each m =
        let same : upto ≡ upto + 0 = omega arith in
        subst (λ n. IsMerged prices piece n count least best) same m
    merge_all (w ∷ ws) number upto best each m =
        let P : ℕ → Type 0 = λ n. IsFoundIn prices.edition prices.trip (share_at n count) least piece (found_at number w) in
        let here : upto + 0 ≡ upto = omega arith in
        let first : IsFoundIn prices.edition prices.trip (share_at upto count) least piece (found_at number w) = subst P here (each zero w (omega arith)) in
        let more = merge_all ws number (upto + 1) (earlier_of best (found_at number w)) (others each)
        (merge_more upto best (found_at number w) m first) in
        let same : upto + 1 + length ws ≡ upto + suc (length ws) = omega arith in
        subst (λ n. IsMerged prices piece n count least (merged_from (earlier_of best (found_at number w)) ws number)) same more
      where
        others : ((k : ℕ) (d : Worker) → k < length (w ∷ ws) → IsFoundIn prices.edition prices.trip (share_at (upto + k) count) least piece (found_at number (slice_index_or (w ∷ ws) k d)))
            → (k : ℕ) (d : Worker) → k < length ws → IsFoundIn prices.edition prices.trip (share_at (upto + 1 + k) count) least piece (found_at number (slice_index_or ws k d))
        others all k d low =
            let same : upto + suc k ≡ upto + 1 + k = omega arith in
            subst (λ n. IsFoundIn prices.edition prices.trip (share_at n count) least piece (found_at number (slice_index_or ws k d))) same (all (suc k) d (omega arith))

    -- what all shares come to
    merged_searched : (best : Found) → 1 ≤ count → IsMerged prices piece count count least best
        → IsSearched prices.edition prices.trip piece least (kept_at best least)
    merged_searched best some m =
        searched_by prices.edition prices.trip piece least least best (omega arith) m.begun
        (λ parts price l b. elim (m.passed parts price l b) [
          | inl none ↦
              let own = belongs count parts some in
              absurd (true_false (sym (none own.0 own.1) ∙ own.2))
          | inr q ↦ q
        ])

-- the least price that any worker knows
least_low : (workers : List Worker) (least : ℕ) → least_from least workers ≤ least
least_low [] least = omega arith
least_low (w ∷ ws) least = let more : least_from (min least w.least) ws ≤ min least w.least = least_low ws (min least w.least) in omega arith

least_under : (workers : List Worker) (least k : ℕ) (d : Worker) → k < length workers → least_from least workers ≤ (slice_index_or workers k d).least
least_under [] least k d low = absurd (omega arith)
least_under (w ∷ ws) least zero d low = let more : least_from (min least w.least) ws ≤ min least w.least = least_low ws (min least w.least) in omega arith
least_under (w ∷ ws) least (suc k) d low = least_under ws (min least w.least) k d (omega arith)

least_over : (workers : List Worker) (least floor : ℕ) → floor ≤ least → ((k : ℕ) (d : Worker) → k < length workers → floor ≤ (slice_index_or workers k d).least)
    → floor ≤ least_from least workers
least_over [] least floor low each = low
least_over (w ∷ ws) least floor low each =
    let first : floor ≤ w.least = each zero w (omega arith) in
    least_over ws (min least w.least) floor (omega arith) (λ k d l. each (suc k) d (omega arith))

pub results_count : (workers : List Worker) (least n : ℕ) → length (results_of workers least n) ≡ n
results_count workers least zero = refl
results_count workers least (suc n) =
    let before : length (results_of workers least n) ≡ n = results_count workers least n in
    let more : length (results_of workers least n ++ kept_at (merged_from None workers n) least ∷ []) ≡ length (results_of workers least n) + 1 = length-append (results_of workers least n) (kept_at (merged_from None workers n) least ∷ []) in
    more ∙ after (length (results_of workers least n)) before
  where
    after : (m : ℕ) → m ≡ n → m + 1 ≡ suc n
    after m e = omega arith

module _ (word : TableId) (prices : Pricing) (pieces : List Piece) (workers : List Worker) (run : HaveRun word prices pieces workers)
    (some : 1 ≤ length pieces) where
  abbrev least : ℕ → ℕ
  least top = least_from top workers

  found_there : (top number k : ℕ) (piece : Piece) (d : Worker) → number < length pieces → k < length workers
      → IsFoundIn prices.edition prices.trip (share_at k (length pieces)) (least_from top workers) (slice_index_or pieces number piece) (found_at number (slice_index_or workers k d))
  found_there top number k piece d there low =
      let many : length workers ≡ length pieces = run.count in
      let one = (run.each k d (omega arith)).found in
      found_falls (share_at k (length pieces)) prices.edition prices.trip (slice_index_or pieces number piece) (slice_index_or workers k d).least (least_from top workers) (found_at number (slice_index_or workers k d))
      (least_under workers top k d low)
      (are_at (share_at k (length pieces)) prices.edition prices.trip (slice_index_or workers k d).least pieces (slice_index_or workers k d).finds.items number piece None there one.found)

  searched_there : (top number : ℕ) (piece : Piece) → number < length pieces
      → IsSearched prices.edition prices.trip (slice_index_or pieces number piece) (least_from top workers) (kept_at (merged_from None workers number) (least_from top workers))
  searched_there top number piece there =
      let many : length workers ≡ length pieces = run.count in
      let P : ℕ → Type 0 = λ n. IsMerged prices (slice_index_or pieces number piece) n (length pieces) (least_from top workers) (merged_from None workers number) in
      let all : 0 + length workers ≡ length pieces = omega arith in
      merged_searched prices (slice_index_or pieces number piece) (length pieces) (least_from top workers) (merged_from None workers number) some
      (subst P all (merge_all prices (slice_index_or pieces number piece) (length pieces) (least_from top workers) workers number 0 None
      (λ k d low. subst (λ n. IsFoundIn prices.edition prices.trip (share_at n (length pieces)) (least_from top workers) (slice_index_or pieces number piece) (found_at number (slice_index_or workers k d))) (no_more k) (found_there top number k piece d there low))
      (merge_none prices (slice_index_or pieces number piece) (length pieces) (least_from top workers))))
    where
      no_more : (k : ℕ) → k ≡ 0 + k
      no_more k = omega arith

  -- piece by piece
  AreSearched : ℕ → List Piece → List Found → Type 0
  AreSearched least [] [] = Unit {0}
  AreSearched least [] (x ∷ xs) = ⊥
  AreSearched least (p ∷ ps) [] = ⊥
  AreSearched least (p ∷ ps) (x ∷ xs) = IsSearched prices.edition prices.trip p least x × AreSearched least ps xs

  searched_more : (least : ℕ) (ps : List Piece) (xs : List Found) (p : Piece) (x : Found) → AreSearched least ps xs
      → IsSearched prices.edition prices.trip p least x → AreSearched least (ps ++ p ∷ []) (xs ++ x ∷ [])
  unfolding AreSearched
  searched_more least [] [] p x h one = (one, tt)
  searched_more least [] (y ∷ ys) p x h one = absurd h
  searched_more least (q ∷ qs) [] p x h one = absurd h
  searched_more least (q ∷ qs) (y ∷ ys) p x h one = (h.0, searched_more least qs ys p x h.1 one)

  searched_upto : (top n : ℕ) → n ≤ length pieces → AreSearched (least_from top workers) (take n pieces) (results_of workers (least_from top workers) n)
  unfolding AreSearched
  searched_upto top zero low = tt
  searched_upto top (suc n) low =
      let d : Piece = record { first = 0; past = 0 } in
      let P : List Piece → Type 0 = λ ps. AreSearched (least_from top workers) ps (results_of workers (least_from top workers) (suc n)) in
      let next : n + 1 ≡ suc n = omega arith in
      let parted : take (suc n) pieces ≡ take n pieces ++ get_or pieces n (record { first = 0; past = 0 }) ∷ [] = ap (λ m. take m pieces) (sym next) ∙ take_more pieces n (record { first = 0; past = 0 }) (omega arith) in
      subst P (sym parted)
      (searched_more (least_from top workers) (take n pieces) (results_of workers (least_from top workers) n) (get_or pieces n (record { first = 0; past = 0 })) (kept_at (merged_from None workers n) (least_from top workers))
      (searched_upto top n (omega arith)) (searched_there top n (record { first = 0; past = 0 }) (omega arith)))

  rows_run : (least : ℕ) (ps : List Piece) (xs : List Found) → floor_of prices ≤ least → AreSearched least ps xs
      → All (IsRun prices) (rows_of ps least xs)
  unfolding AreSearched
  rows_run least [] [] floor h k d low = absurd (omega arith)
  rows_run least [] (x ∷ xs) floor h k d low = absurd h
  rows_run least (p ∷ ps) [] floor h k d low = absurd h
  rows_run least (p ∷ ps) (x ∷ xs) floor h zero d low = record { floor = floor; searched = h.0 }
  rows_run least (p ∷ ps) (x ∷ xs) floor h (suc k) d low = rows_run least ps xs floor h.1 k d (omega arith)

  -- the rows by what all workers found
  pub runs : (top : ℕ) → floor_of prices ≤ top
      → All (IsRun prices) (rows_of pieces (least_from top workers) (results_of workers (least_from top workers) (length pieces)))
  runs top low =
      let many : length workers ≡ length pieces = run.count in
      let P : List Piece → Type 0 = λ ps. AreSearched (least_from top workers) ps (results_of workers (least_from top workers) (length pieces)) in
      rows_run (least_from top workers) pieces (results_of workers (least_from top workers) (length pieces))
      (least_over workers top (floor_of prices) low (λ k d l. (run.each k d (omega arith)).found.floor))
      (subst P (take_all (length pieces) pieces (omega arith)) (searched_upto top (length pieces) (omega arith)))

  -- each worker found something or nothing in each piece
  pub have_all : All (HasAll (length pieces)) workers
  have_all k d low =
      let many : length workers ≡ length pieces = run.count in
      are_as_many (share_at k (length pieces)) prices.edition prices.trip (slice_index_or workers k d).least pieces (slice_index_or workers k d).finds.items (run.each k d (omega arith)).found.found

-- the rows of a search that was settled
pub settled_rows : (word : TableId) (prices : Pricing) (pieces seen : List Piece) (workers found : List Worker) (least : ℕ) (results : List Found)
    → seen ≡ pieces → found ≡ workers → HaveRun word prices pieces workers → 1 ≤ length pieces → floor_of prices ≤ 18446744073709551615
    → least ≡ least_from 18446744073709551615 found → results ≡ results_of found least (length seen)
    → (length results ≡ length pieces) × All (IsRun prices) (rows_of pieces least results)
settled_rows word prices pieces seen workers found least results s f run some low l r =
    let known : least ≡ least_from 18446744073709551615 workers = l ∙ ap (least_from 18446744073709551615) f in
    let all : results ≡ results_of workers (least_from 18446744073709551615 workers) (length pieces) = r ∙ (λ i. results_of (f i) (known i) (length (s i))) in (
      ap (λ (founds : List Found). length founds) all ∙ results_count workers (least_from 18446744073709551615 workers) (length pieces),
      both least (least_from 18446744073709551615 workers) results (results_of workers (least_from 18446744073709551615 workers) (length pieces)) known all (runs word prices pieces workers run some 18446744073709551615 low),
    )
  where
    both : (a b : ℕ) (xs ys : List Found) → a ≡ b → xs ≡ ys → All (IsRun prices) (rows_of pieces b ys) → All (IsRun prices) (rows_of pieces a xs)
    both a b xs ys e f h =
        subst (λ n. All (IsRun prices) (rows_of pieces n xs)) (sym e) (subst (λ fs. All (IsRun prices) (rows_of pieces b fs)) (sym f) h)

-- each worker that has run found something or nothing in each piece
pub found_all : (word : TableId) (prices : Pricing) (pieces seen : List Piece) (workers found : List Worker) → seen ≡ pieces → found ≡ workers
    → HaveRun word prices pieces workers → 1 ≤ length pieces → All (HasAll (length seen)) found
found_all word prices pieces seen workers found s f run some =
    let P : List Worker → Type 0 = λ ws. All (HasAll (length seen)) ws in
    let Q : List Piece → Type 0 = λ ps. All (HasAll (length ps)) workers in
    subst P (sym f) (subst Q (sym s) (have_all word prices pieces workers run some))
