-- What a lawful construction says of the part that comes after its first ones.
use Rattle.std.proofs.Common.{◌≡◌, ℕ, zero, suc, ◌+◌, ◌-◌, ◌<◌, ◌≤◌, Bool, true, false, not, ◌||◌, cond, leb, List, [], ◌∷◌, ◌++◌, length, Option, Some, is_some, refl, ap, subst, sym, ◌∙◌, inl, inr, arith}
use Rattle.std.specs.List.{range_with_len, list_any}
use Rattle.std.proofs.lemmas.List.{append_assoc}
use Rattle.std.proofs.lemmas.Bool.{eqb-false, ltb-false, le-leb, cases_lt}
use Rattle.std.proofs.Math.ListN.{get_or-append, length-append}
use Rattle.std.proofs.Math.Seq.{get_or-append_seam}
use Rattle.fare_trip.specs.Itinerary.{Itinerary, count}
use Rattle.fare_tariff.specs.Record.{FareRecord}
use Rattle.fare_tariff.specs.Tariff.{Tariff}
use Rattle.fare_tariff.specs.Lookup.{fare_at}
use Rattle.fare_rules.specs.declared.part.Part.{Part}
use Rattle.fare_rules.specs.Numbers.{numbers}
use Rattle.fare_rules.specs.ComponentAmount.{component_amount}
use Rattle.fare_rules.specs.Construction.{part_at, no_part, end_of, unit_of, begin_after, start_of, places, fare_of, greatest_unit, is_misnumbered, misnumbered}
use Rattle.fare_rules.specs.Direction.{is_back}
use Rattle.fare_rules.specs.Shape.{is_one_way, is_ow, is_same_unit, is_begun_before, is_straddled, is_crossed, crossed}
use Rattle.fare_rules.specs.Best.{IsLawful}
use Rattle.fare_rules.proofs.NumberLemmas.{find_none}
use Rattle.fare_rules.proofs.CoverLemmas.{IsCover, cover, both_false}
use Rattle.fare_rules.proofs.LawfulLemmas.{IsKept, kept}
use Rattle.fare_rules.proofs.AmountLemmas.{fare_is_filed, amount_of_lawful}
use Rattle.fare_units.proofs.AloneLemmas.{unmixed}
use Rattle.fare_rules.proofs.ReferenceLemmas.{number_of_record}
use Rattle.fare_units.specs.Walk.{next_start, is_mixed_with, mixes, may_serve, is_fruitless}

-- the parts of a list are not changed by others behind them
pub front_part : (front rest : List Part) (k : ℕ) → 1 ≤ k → k ≤ length front → part_at (front ++ rest) k ≡ part_at front k
front_part front rest k low high = get_or-append front rest no_part (k - 1) (omega arith)

pub front_unit : (front rest : List Part) (k : ℕ) → 1 ≤ k → k ≤ length front → unit_of (front ++ rest) k ≡ unit_of front k
front_unit front rest k low high = ap (λ (p : Part). p.unit) (front_part front rest k low high)

-- and each starts where it did
pub front_start : (trip : Itinerary) (front rest : List Part) (k : ℕ) → 1 ≤ k → k ≤ length front → start_of trip (front ++ rest) k ≡ start_of trip front k
front_start trip front rest k low high =
    elim (cases_lt 1 k) [
      | inl l ↦ ap (λ (p : Part). cond (leb k 1) 0 (begin_after trip p.end)) (front_part front rest (k - 1) (omega arith) (omega arith))
      | inr g ↦ rw (le-leb k 1 g) refl
    ]

-- the part that comes after some stands at the place behind them
pub next_part : (front : List Part) (next : Part) (rest : List Part) → part_at (front ++ next ∷ rest) (length front + 1) ≡ next
next_part front next rest =
    let e : length front + 1 - 1 ≡ length front = omega arith in
    rw e (get_or-append_seam front next rest no_part)

-- and starts where they let it
pub start_by : (trip : Itinerary) (front : List Part) (next : Part) (rest : List Part) → start_of trip (front ++ next ∷ rest) (length front + 1) ≡ next_start trip front
start_by trip [] next rest = refl
start_by trip (x ∷ xs) next rest =
    ap (λ (p : Part). cond (leb (length (x ∷ xs) + 1) 1) 0 (begin_after trip p.end)) (front_part (x ∷ xs) (next ∷ rest) (length (x ∷ xs) + 1 - 1) (omega arith) (omega arith))

-- tests that agree at each number of a range agree about the range
pub any_same : (f g : ℕ → Bool) (first n : ℕ) → ((k : ℕ) → first ≤ k → k < first + n → f k ≡ g k) → list_any f (range_with_len first n) ≡ list_any g (range_with_len first n)
any_same f g first zero h = refl
any_same f g first (suc n) h =
    rw (h first (omega arith) (omega arith), any_same f g (first + 1) n (λ k low high. h k (omega arith) (omega arith))) refl

pub greatest_same : (xs ys : List Part) (first n : ℕ) → ((k : ℕ) → first ≤ k → k < first + n → unit_of xs k ≡ unit_of ys k) → greatest_unit xs (range_with_len first n) ≡ greatest_unit ys (range_with_len first n)
greatest_same xs ys first zero h = refl
greatest_same xs ys first (suc n) h =
    rw (h first (omega arith) (omega arith), greatest_same xs ys (first + 1) n (λ k low high. h k (omega arith) (omega arith))) refl

-- a part crosses a unit of a list where it does in a front of the list
pub same_unit_front : (front rest : List Part) (a b : ℕ) → 1 ≤ a → a ≤ length front → 1 ≤ b → b ≤ length front → is_same_unit (front ++ rest) a b ≡ is_same_unit front a b
same_unit_front front rest a b al ah bl bh = rw (front_unit front rest a al ah, front_unit front rest b bl bh) refl

begun_front : (front rest : List Part) (b c : ℕ) → 1 ≤ b → b ≤ length front → 1 ≤ c → c ≤ length front → is_begun_before (front ++ rest) b c ≡ is_begun_before front b c
begun_front front rest b c bl bh cl ch =
    rw (
      same_unit_front front rest c b cl ch bl bh,
      any_same (is_same_unit (front ++ rest) c) (is_same_unit front c) 1 (b - 1) (λ k low high. same_unit_front front rest c k cl ch low (omega arith)),
    ) refl

straddled_front : (front rest : List Part) (d b : ℕ) → 1 ≤ d → d ≤ length front → 1 ≤ b → b ≤ length front → is_straddled (front ++ rest) d b ≡ is_straddled front d b
straddled_front front rest d b dl dh bl bh =
    rw (
      same_unit_front front rest d b dl dh bl bh,
      any_same (is_begun_before (front ++ rest) b) (is_begun_before front b) (b + 1) (d - (b + 1)) (λ k low high. begun_front front rest b k bl bh (omega arith) (omega arith)),
    ) refl

pub crossed_front : (front rest : List Part) (d : ℕ) → 1 ≤ d → d ≤ length front → is_crossed (front ++ rest) d ≡ is_crossed front d
crossed_front front rest d dl dh =
    any_same (is_straddled (front ++ rest) d) (is_straddled front d) 1 (d - 1) (λ k low high. straddled_front front rest d k dl dh low (omega arith))

-- a part shares its unit with a one way fare of a list where it does in a front of the list
ow_front : (tariff : Tariff) (front rest : List Part) (k : ℕ) → 1 ≤ k → k ≤ length front → is_ow tariff (front ++ rest) k ≡ is_ow tariff front k
ow_front tariff front rest k low high = ap (λ (p : Part). is_one_way (fare_at tariff p.fare)) (front_part front rest k low high)

mixes_front : (tariff : Tariff) (front rest : List Part) (k : ℕ) → 1 ≤ k → k ≤ length front → mixes tariff (front ++ rest) k ≡ mixes tariff front k
mixes_front tariff front rest k low high =
    any_same (is_mixed_with tariff (front ++ rest) k) (is_mixed_with tariff front k) 1 (k - 1)
    (λ j jl jh. rw (same_unit_front front rest k j low high jl (omega arith), ow_front tariff front rest j jl (omega arith), ow_front tariff front rest k low high) refl)

not_true : (b : Bool) → not b ≡ false → b ≡ true
not_true true e = refl
not_true false e = cc

-- what is defined in one direction is in one of the two
in_one_direction : {A : Type 0} (amount : Bool → Option A) (back : Bool) (found : A) → amount back ≡ Some found → (is_some (amount false) || is_some (amount true)) ≡ true
in_one_direction amount true found h = rw h (or_true (is_some (amount false)))
  where
    or_true : (x : Bool) → (x || true) ≡ true
    or_true true = refl
    or_true false = refl
in_one_direction amount false found h = rw h refl

module _ (tariff : Tariff) (trip : Itinerary) (front : List Part) (next : Part) (rest : List Part) (price : ℕ) (lawful : IsLawful tariff trip (front ++ next ∷ rest) price) where
  all : List Part
  all = front ++ next ∷ rest

  here : ℕ
  here = length front + 1

  in_all : here ≤ length (front ++ next ∷ rest)
  unfolding here
  in_all = let n : length (front ++ next ∷ rest) ≡ length front + suc (length rest) = length-append front (next ∷ rest) in omega arith

  holds : IsKept tariff trip (front ++ next ∷ rest)
  holds = kept tariff trip (front ++ next ∷ rest) price lawful

  covers : IsCover trip (front ++ next ∷ rest)
  covers = cover trip (front ++ next ∷ rest) holds.cover

  -- it ends above its start and within the trip
  pub next_rises : next_start trip front < next.end
  unfolding here
  next_rises =
      let h : start_of trip (front ++ next ∷ rest) (length front + 1) < end_of (front ++ next ∷ rest) (length front + 1) = covers.above (length front + 1) (omega arith) in_all in
      let P : ℕ → Type 0 = λ n. next_start trip front < n in
      let Q : ℕ → Type 0 = λ n. n < end_of (front ++ next ∷ rest) (length front + 1) in
      subst P (ap (λ (p : Part). p.end) (next_part front next rest)) (subst Q (start_by trip front next rest) h)

  pub next_within : next.end ≤ count trip
  unfolding here
  next_within =
      let h : end_of (front ++ next ∷ rest) (length front + 1) ≤ count trip = covers.within (length front + 1) (omega arith) in_all in
      let P : ℕ → Type 0 = λ n. n ≤ count trip in
      subst P (ap (λ (p : Part). p.end) (next_part front next rest)) h

  -- its unit number is in order
  pub next_numbered : (1 ≤ next.unit) × (next.unit ≤ greatest_unit front (places front) + 1)
  unfolding here misnumbered
  next_numbered =
      let inside : length front + 1 ≤ length (front ++ next ∷ rest) = in_all in
      let fails : is_misnumbered (front ++ next ∷ rest) (length front + 1) ≡ false = find_none (is_misnumbered (front ++ next ∷ rest)) 1 (length (front ++ next ∷ rest) + 1) holds.numbering (length front + 1) (omega arith) (omega arith) in
      let both = both_false _ _ fails in
      let n : length front + 1 - 1 ≡ length front = omega arith in
      let same : greatest_unit (front ++ next ∷ rest) (numbers 1 (length front + 1)) ≡ greatest_unit front (places front) = greatest_same (front ++ next ∷ rest) front 1 (length front + 1 - 1) (λ k low high. front_unit front (next ∷ rest) k low (omega arith)) in
      let unit : unit_of (front ++ next ∷ rest) (length front + 1) ≡ next.unit = ap (λ (p : Part). p.unit) (next_part front next rest) in
      let above : unit_of (front ++ next ∷ rest) (length front + 1) ≡ 0 → ⊥ = eqb-false _ _ both.0 in
      let high = ltb-false _ _ both.1 in
      let most : next.unit ≤ greatest_unit front (places front) + 1 = rw (same, unit) at high in
      let least : next.unit ≡ 0 → ⊥ = λ e. above (unit ∙ e) in
      (omega arith, most)

  filed : (fare : FareRecord) × (fare_of tariff (front ++ next ∷ rest) (length front + 1) ≡ Some fare)
  unfolding here
  filed = fare_is_filed tariff trip (front ++ next ∷ rest) holds (length front + 1) (omega arith) in_all

  of_next : fare_of tariff (front ++ next ∷ rest) (length front + 1) ≡ fare_at tariff next.fare
  of_next = ap (λ (p : Part). fare_at tariff p.fare) (next_part front next rest)

  -- its number is that of a fare
  pub next_filed : (2 ≤ next.fare) × (next.fare < length tariff.records + 2)
  next_filed = number_of_record tariff next.fare filed.0 (sym of_next ∙ filed.1)

  -- which may serve it
  pub next_served : may_serve tariff trip front next.end next.fare ≡ true
  unfolding may_serve here
  next_served =
      let found = amount_of_lawful tariff trip (front ++ next ∷ rest) price (length front + 1) lawful (omega arith) in_all in
      let back : Bool = is_back tariff trip (front ++ next ∷ rest) (length front + 1) in
      let P : Part → Type 0 = λ p. component_amount tariff trip (next_start trip front) p.end p.fare back ≡ Some found.0 in
      let Q : ℕ → Type 0 = λ n. component_amount tariff trip n (end_of (front ++ next ∷ rest) (length front + 1)) (part_at (front ++ next ∷ rest) (length front + 1)).fare back ≡ Some found.0 in
      let here_served = subst P (next_part front next rest) (subst Q (start_by trip front next rest) found.1) in
      in_one_direction (component_amount tariff trip (next_start trip front) next.end next.fare) back found.0 here_served

  next_uncrossed : is_crossed (front ++ next ∷ []) (length front + 1) ≡ false
  unfolding crossed here
  next_uncrossed =
      let inside : length front + 1 ≤ length (front ++ next ∷ rest) = in_all in
      let n : length (front ++ next ∷ []) ≡ length front + 1 = length-append front (next ∷ []) ∙ omega arith in
      let fails : is_crossed (front ++ next ∷ rest) (length front + 1) ≡ false = find_none (is_crossed (front ++ next ∷ rest)) 1 (length (front ++ next ∷ rest) + 1) holds.crossing (length front + 1) (omega arith) (omega arith) in
      let split : (front ++ next ∷ []) ++ rest ≡ front ++ next ∷ rest = append_assoc front (next ∷ []) rest in
      let same : is_crossed ((front ++ next ∷ []) ++ rest) (length front + 1) ≡ is_crossed (front ++ next ∷ []) (length front + 1) = crossed_front (front ++ next ∷ []) rest (length front + 1) (omega arith) (omega arith) in
      sym same ∙ (rw split fails)

  next_unmixed : mixes tariff (front ++ next ∷ []) (length front + 1) ≡ false
  unfolding here
  next_unmixed =
      let inside : length front + 1 ≤ length (front ++ next ∷ rest) = in_all in
      let n : length (front ++ next ∷ []) ≡ length front + 1 = length-append front (next ∷ []) ∙ omega arith in
      let unit : unit_of (front ++ next ∷ rest) (length front + 1) ≡ next.unit = ap (λ (p : Part). p.unit) (next_part front next rest) in
      let low : 1 ≤ next.unit = next_numbered.0 in
      let fails : mixes tariff (front ++ next ∷ rest) (length front + 1) ≡ false = unmixed tariff (front ++ next ∷ rest) holds.alone (length front + 1) inside (omega arith) in
      let split : (front ++ next ∷ []) ++ rest ≡ front ++ next ∷ rest = append_assoc front (next ∷ []) rest in
      let same : mixes tariff ((front ++ next ∷ []) ++ rest) (length front + 1) ≡ mixes tariff (front ++ next ∷ []) (length front + 1) = mixes_front tariff (front ++ next ∷ []) rest (length front + 1) (omega arith) (omega arith) in
      sym same ∙ (rw split fails)

  -- and its place is not fruitless
  pub next_fruitful : is_fruitless tariff (front ++ next ∷ []) ≡ false
  unfolding is_fruitless
  next_fruitful =
      let n : length (front ++ next ∷ []) ≡ length front + 1 = length-append front (next ∷ []) ∙ omega arith in
      rw (n, next_uncrossed) next_unmixed
