-- The earliest of what the workers found is the best.
use Rattle.std.proofs.Common.{◌≡◌, ℕ, zero, suc, ◌<◌, ◌≤◌, false, List, [], ◌∷◌, ◌++◌, map, take, drop, get_or, length, Option, Some, None, refl, ap, sym, subst, ◌∙◌, inl, inr, arith}
use Rattle.std.specs.Prelude.{All, Contains, slice_index_or, slice_get}
use Rattle.std.proofs.lemmas.Bool.{both_ways}
use Rattle.std.proofs.lemmas.Option.{none-some, slice_get-get_or}
use Rattle.std.proofs.lemmas.List.{length-map, take-append-le, take_all}
use Rattle.atomic_table.specs.Seated.{TableId}
use Rattle.fare_trip.specs.Itinerary.{Itinerary, count}
use Rattle.fare_tariff.specs.Tariff.{Tariff}
use Rattle.fare_rules.specs.declared.part.Part.{Part}
use Rattle.fare_rules.specs.Best.{IsLawful, IsBest, IsBestAnswer}
use Rattle.fare_rules.specs.Completion.{Choice, first_part_choices}
use Rattle.fare_rules.specs.Order.{is_before}
use Rattle.fare_rules.proofs.BestLemmas.{total}
use Rattle.fare_rules.proofs.ExistenceLemmas.{best_answer}
use Rattle.fare_rules.proofs.FirstPartLemmas.{first_is_choice}
use Rattle.fare_rules.proofs.LawfulLemmas.{kept}
use Rattle.fare_component.specs.Table.{Pricing}
use Rattle.fare_branch.specs.declared.pieces.Piece.{Piece}
use Rattle.fare_branch.specs.Search.{IsSearched, BeginsIn}
use Rattle.fare_branch.specs.LeastPrice.{least_price}
use Rattle.fare_branch.proofs.LeastLemmas.{least_price_is}
use Rattle.fare_branch.proofs.PieceLemmas.{cheaper}
use Rattle.fare_split.specs.declared.worker.Worker.{Worker}
use Rattle.fare_split.specs.PriceWord.{floor_of}
use Rattle.fare_split.specs.Rows.{Row, fresh, IsFresh, piece_of, result_of, rows_of, LiesInOne, ArePieces, choice_count, IsRun, IsNotAfter, IsEarliest}
use Rattle.fare_split.specs.Workers.{IsSeated, HaveRun, IsPrepared}

abbrev Found : Type 0
Found = Option (List Part × ℕ)

-- a place of a list that was mapped
at_map : {A B : Type 0} (f : A → B) (xs : List A) (k : ℕ) (y : B) → slice_get (map f xs) k ≡ Some y
    → (x : A) × (k < length xs) × ((d : A) → slice_index_or xs k d ≡ x) × (f x ≡ y)
at_map f [] k y e = absurd (none-some y e)
at_map f (x ∷ xs) zero y e = (x, omega arith, (λ d. refl), same)
  where
    same : f x ≡ y
    same = cc
at_map f (x ∷ xs) (suc k) y e =
    let more = at_map f xs k y e in
    let low : k < length xs = more.1 in
    (more.0, omega arith, more.2, more.3)

in_map : {A B : Type 0} (f : A → B) (xs : List A) (y : B) → Contains (map f xs) y
    → (x : A) × (k : ℕ) × (k < length xs) × ((d : A) → slice_index_or xs k d ≡ x) × (f x ≡ y)
in_map f xs y (k, low, e) =
    let more = at_map f xs k y (slice_get-get_or (map f xs) k y low ∙ ap Some e) in
    (more.0, k, more.1, more.2, more.3)

-- the pieces and the results of rows
pub pieces_of_rows : (pieces : List Piece) (least : ℕ) (results : List Found) → length results ≡ length pieces
    → map piece_of (rows_of pieces least results) ≡ pieces
pieces_of_rows [] least results e = refl
pieces_of_rows (p ∷ ps) least [] e = absurd (omega arith)
pieces_of_rows (p ∷ ps) least (x ∷ xs) e = λ i. p ∷ pieces_of_rows ps least xs (omega arith) i

pub results_of_rows : (pieces : List Piece) (least : ℕ) (results : List Found) → length results ≡ length pieces
    → map result_of (rows_of pieces least results) ≡ results
results_of_rows [] least [] e = refl
results_of_rows [] least (x ∷ xs) e = absurd (omega arith)
results_of_rows (p ∷ ps) least [] e = absurd (omega arith)
results_of_rows (p ∷ ps) least (x ∷ xs) e = λ i. x ∷ results_of_rows ps least xs (omega arith) i

pub rows_count : (pieces : List Piece) (least : ℕ) (results : List Found) → length results ≡ length pieces
    → length (rows_of pieces least results) ≡ length pieces
rows_count [] least results e = refl
rows_count (p ∷ ps) least [] e = absurd (omega arith)
rows_count (p ∷ ps) least (x ∷ xs) e = ap suc (rows_count ps least xs (omega arith))

module _ (word : TableId) (prices : Pricing) (pieces : List Piece) where
  pub prepared_again : (before after : List Worker) (results others : List Found)
      → IsPrepared prices word before pieces results → HaveRun word prices pieces after → length others ≡ length pieces
      → IsPrepared prices word after pieces others
  prepared_again before after results others p h e = record {
    one_word = p.one_word;
    low = p.low;
    some = p.some;
    few = p.few;
    each = h.count;
    full = e;
    seated = λ k d low. (h.each k d (within k low)).seated;
    split = p.split;
  }
    where
      within : (k : ℕ) → k < length after → k < length pieces
      within k low = let same : length after ≡ length pieces = h.count in omega arith

  -- the workers of a vector whose slice was lent out for the runs
  pub written : (before new : List Worker) (len : ℕ) → len ≡ length before → length before ≡ length pieces
      → HaveRun word prices pieces new → HaveRun word prices pieces (take len (new ++ drop (length new) before))
  written before new len long each h =
      let count : length new ≡ length pieces = h.count in
      let P : List Worker → Type 0 = λ ws. HaveRun word prices pieces ws in
      let same : take len (new ++ drop (length new) before) ≡ new =
      take-append-le len new (drop (length new) before) (omega arith) ∙ take_all len new (omega arith) in
      subst P (sym same) h

-- the pieces of fresh rows
fresh_pieces : (pieces : List Piece) → map piece_of (map fresh pieces) ≡ pieces
fresh_pieces [] = refl
fresh_pieces (x ∷ xs) = λ i. x ∷ fresh_pieces xs i

-- nothing was found in each piece yet
pub unsettled_rows : (pieces : List Piece) (results : List Found) → length results ≡ length pieces → All (λ result. result ≡ None) results
    → rows_of pieces 18446744073709551615 results ≡ map fresh pieces
unsettled_rows [] results e none = refl
unsettled_rows (p ∷ ps) [] e none = absurd (omega arith)
unsettled_rows (p ∷ ps) (x ∷ xs) e none =
    let first : x ≡ None = none zero None (omega arith) in
    let more = unsettled_rows ps xs (omega arith) (λ k d low. none (suc k) d (omega arith)) in
    λ i. record { piece = p; least = 18446744073709551615; result = first i } ∷ more i

-- what was made is prepared
pub made_prepared : (word : TableId) (prices key : Pricing) (count n : ℕ) (seen pieces : List Piece) (results : List Found)
    (workers : List Worker) → word.words ≡ 1 → key ≡ prices → floor_of prices ≤ 18446744073709551615 → 1 ≤ n → n ≤ 16 → seen ≡ pieces → length pieces ≡ n
    → count ≡ choice_count prices → ArePieces count pieces → length results ≡ length seen → length workers ≡ n
    → All (IsSeated word (floor_of key)) workers → IsPrepared prices word workers pieces results
made_prepared word prices key count n seen pieces results workers one k low some few s long c split full many seated =
    let P : Pricing → Type 0 = λ q. All (IsSeated word (floor_of q)) workers in
    let Q : ℕ → Type 0 = λ m. ArePieces m pieces in
    record {
      one_word = one;
      low = low;
      some = omega arith;
      few = omega arith;
      each = many ∙ sym long;
      full = full ∙ ap (λ (ps : List Piece). length ps) s;
      seated = subst P k seated;
      split = subst Q c split;
    }

-- what was made is fresh
pub made_fresh : (tariff : Tariff) (trip : Itinerary) (prices : Pricing) (count n least : ℕ) (seen pieces : List Piece)
    (results : List Found) → prices ≡ record { edition = tariff; trip = trip } → seen ≡ pieces → length pieces ≡ n
    → count ≡ choice_count prices → ArePieces count pieces → length results ≡ length seen
    → rows_of seen least results ≡ map fresh seen
    → IsFresh tariff trip n (record { prices = prices; rows = rows_of pieces least results })
made_fresh tariff trip prices count n least seen pieces results p s long c split full rows =
    let many : length results ≡ length pieces = full ∙ ap (λ (ps : List Piece). length ps) s in
    let same : map piece_of (rows_of pieces least results) ≡ pieces = pieces_of_rows pieces least results many in
    let fresh_rows : rows_of pieces least results ≡ map fresh pieces = subst (λ ps. rows_of ps least results ≡ map fresh ps) s rows in
    let total : count ≡ length (first_part_choices tariff trip) = c ∙ ap choice_count p in
    let P : List Piece → Type 0 = λ ps. ArePieces (length (first_part_choices tariff trip)) ps in
    let Q : ℕ → Type 0 = λ m. ArePieces m pieces in
    record {
      prices = p;
      count = rows_count pieces least results many ∙ long;
      rows = fresh_rows ∙ ap (map fresh) (sym same);
      pieces = subst P (sym same) (subst Q total split);
    }

-- what was found in a piece stands in its row
pub result_there : (pieces : List Piece) (least : ℕ) (results : List Found) (k : ℕ) (d : Found)
    → length results ≡ length pieces → k < length (rows_of pieces least results)
    → slice_get (map result_of (rows_of pieces least results)) k ≡ Some (get_or results k d)
result_there pieces least results k d e low =
    let many : length (rows_of pieces least results) ≡ length pieces = rows_count pieces least results e in
    ap (λ (founds : List Found). slice_get founds k) (results_of_rows pieces least results e)
    ∙ slice_get-get_or results k d (omega arith)

module _ (tariff : Tariff) (trip : Itinerary) where
  -- two lawful constructions of which none is before the other are one
  one_lawful : (a b : List Part × ℕ) → IsLawful tariff trip a.0 a.1 → IsLawful tariff trip b.0 b.1
      → is_before a.0 a.1 b.0 b.1 ≡ false → is_before b.0 b.1 a.0 a.1 ≡ false → a ≡ b
  one_lawful a b la lb ab ba =
      elim (total trip a.0 b.0 a.1 b.1 (kept tariff trip a.0 a.1 la).cover (kept tariff trip b.0 b.1 lb).cover) [
        | inl h ↦ absurd (both_ways (is_before a.0 a.1 b.0 b.1) ab h)
        | inr rest ↦ elim rest [
          | inl h ↦ absurd (both_ways (is_before b.0 b.1 a.0 a.1) ba h)
          | inr same ↦ λ i. (same.0 i, same.1 i)
        ]
      ]

  -- the best costs the least price
  best_costs : (best : List Part × ℕ) → IsBest tariff trip best.0 best.1 → best.1 ≤ least_price tariff trip
  best_costs best b =
      elim (least_price_is tariff trip).reached [
        | inl (parts, lawful) ↦ cheaper parts best.0 (least_price tariff trip) best.1 (b.first parts (least_price tariff trip) lawful)
        | inr (none, same) ↦ absurd (none best.0 best.1 b.lawful)
      ]

  -- the worker in whose piece the best begins found it
  finds : (best : List Part × ℕ) (piece : Piece) (least : ℕ) (found : Found) → IsBest tariff trip best.0 best.1
      → BeginsIn tariff trip piece best.0 → best.1 ≤ least → IsSearched tariff trip piece least found → found ≡ Some best
  finds best piece least None b begins low h =
      let above : least < best.1 = h best.0 best.1 b.lawful begins in
      absurd (omega arith)
  finds best piece least (Some found) b begins low h =
      ap Some (one_lawful found best h.lawful b.lawful (b.first found.0 found.1 h.lawful) (h.first best.0 best.1 b.lawful begins))

  -- what was found is lawful
  found_is_lawful : (best : List Part × ℕ) (piece : Piece) (least : ℕ) (found : Found) → found ≡ Some best
      → IsSearched tariff trip piece least found → IsLawful tariff trip best.0 best.1
  found_is_lawful best piece least None e h = absurd (none-some best e)
  found_is_lawful best piece least (Some found) e h = subst (λ (f : List Part × ℕ). IsLawful tariff trip f.0 f.1) same h.lawful
    where
      same : found ≡ best
      same = cc

module _ (prices : Pricing) (rows : List Row) (some : 0 < count prices.trip)
    (split : ArePieces (choice_count prices) (map piece_of rows)) (all : All (IsRun prices) rows) where
  -- a lawful construction begins in the piece of some row
  begins : (parts : List Part) (price : ℕ) → IsLawful prices.edition prices.trip parts price
      → (row : Row) × (k : ℕ) × (k < length rows) × ((d : Row) → slice_index_or rows k d ≡ row)
      × BeginsIn prices.edition prices.trip row.piece parts
  begins parts price lawful =
      let is = first_is_choice prices.edition prices.trip parts some (kept prices.edition prices.trip parts price lawful) in
      let choices : List Choice = first_part_choices prices.edition prices.trip in
      let chosen : Choice = (is.0.end, is.0.fare) in
      let number : ℕ = is.3.0 in
      let low : number < length choices = is.3.1 in
      let there : slice_get choices number ≡ Some chosen = slice_get-get_or choices number chosen low ∙ ap Some is.3.2 in
      let one : LiesInOne (map piece_of rows) number = split number low in
      let at = at_map piece_of rows one.place one.lies.piece one.lies.there in
      let Q : Piece → Type 0 = λ piece. BeginsIn prices.edition prices.trip piece parts in (
        at.0,
        one.place,
        at.1,
        at.2,
        subst Q (sym at.3) (record {
          number = number;
          above = one.lies.above;
          below = one.lies.below;
          by = record { first = is.0; rest = is.1; whole = is.2; choice = there };
        }),
      )

  run_at : (k : ℕ) (row : Row) → k < length rows → ((d : Row) → slice_index_or rows k d ≡ row) → IsRun prices row
  run_at k row low e = subst (IsRun prices) (e row) (all k row low)

  -- what is among the results is lawful
  among : (best : List Part × ℕ) → Contains (map result_of rows) (Some best) → IsLawful prices.edition prices.trip best.0 best.1
  among best c =
      let at = in_map result_of rows (Some best) c in
      found_is_lawful prices.edition prices.trip best at.0.piece at.0.least at.0.result at.4 (run_at at.1 at.0 at.2 at.3).searched

  -- the best is among the results
  best_at : (best : List Part × ℕ) → IsBest prices.edition prices.trip best.0 best.1
      → (k : ℕ) × (k < length rows) × ((d : Row) → result_of (slice_index_or rows k d) ≡ Some best)
  best_at best b =
      let at = begins best.0 best.1 b.lawful in
      let run : IsRun prices at.0 = run_at at.1 at.0 at.2 at.3 in
      let low : best.1 ≤ least_price prices.edition prices.trip = best_costs prices.edition prices.trip best b in
      let floor : least_price prices.edition prices.trip ≤ at.0.least = run.floor in
      let found : at.0.result ≡ Some best = finds prices.edition prices.trip best at.0.piece at.0.least at.0.result b at.4 (omega arith) run.searched in
      (at.1, at.2, λ d. ap result_of (at.3 d) ∙ found)

  -- at a place of the results
  result_at : (P : Found → Type 0) (k : ℕ) (found : Found) → All P (map result_of rows) → k < length rows
      → ((d : Row) → result_of (slice_index_or rows k d) ≡ found) → P found
  result_at P k found h low e =
      subst P (here rows k low e) (h k found (rw (length-map rows result_of) low))
    where
      here : (xs : List Row) (j : ℕ) → j < length xs → ((d : Row) → result_of (slice_index_or xs j d) ≡ found)
          → slice_index_or (map result_of xs) j found ≡ found
      here [] j l f = refl
      here (x ∷ xs) zero l f = f x
      here (x ∷ xs) (suc j) l f = here xs j (omega arith) f

  answer_is : (best answer : Found) → IsBestAnswer prices.edition prices.trip best → IsEarliest (map result_of rows) answer
      → IsBestAnswer prices.edition prices.trip answer
  answer_is None None b h = b
  answer_is None (Some answer) b h = absurd (b answer.0 answer.1 (among answer h.0))
  answer_is (Some best) None b h =
      let at = best_at best b in
      absurd (none-some best (sym (result_at (λ found. found ≡ None) at.0 (Some best) h at.1 at.2)))
  answer_is (Some best) (Some answer) b h =
      let at = best_at best b in
      let lawful : IsLawful prices.edition prices.trip answer.0 answer.1 = among answer h.0 in
      let after : is_before best.0 best.1 answer.0 answer.1 ≡ false = result_at (IsNotAfter answer) at.0 (Some best) h.1 at.1 at.2 in
      subst (λ (f : List Part × ℕ). IsBest prices.edition prices.trip f.0 f.1)
      (one_lawful prices.edition prices.trip best answer b.lawful lawful after (b.first answer.0 answer.1 lawful)) b

  pub earliest_is_best : (answer : Found) → IsEarliest (map result_of rows) answer → IsBestAnswer prices.edition prices.trip answer
  earliest_is_best answer h =
      answer_is (best_answer prices.edition prices.trip).0 answer (best_answer prices.edition prices.trip).1 h
