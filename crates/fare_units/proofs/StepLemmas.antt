-- The steps of a walk over constructions: over ends, fares and units, and from some parts to those that follow.
use Rattle.std.proofs.Common.{◌≡◌, ℕ, ◌+◌, ◌-◌, ◌<◌, ◌≤◌, true, false, ◌⊎◌, List, [], ◌∷◌, ◌++◌, length, Option, Some, None, refl, ap, subst, sym, ◌∙◌, inl, inr, arith}
use Rattle.std.proofs.lemmas.List.{append_assoc, append-nil}
use Rattle.std.proofs.lemmas.Bool.{lt-leb, cases_lt}
use Rattle.fare_trip.specs.Itinerary.{Itinerary, count}
use Rattle.fare_tariff.specs.Tariff.{Tariff}
use Rattle.fare_rules.specs.declared.part.Part.{Part}
use Rattle.fare_rules.specs.Construction.{end_of, greatest_unit, places}
use Rattle.fare_rules.specs.Best.{IsLawful, IsBestAnswer}
use Rattle.fare_rules.proofs.CoverLemmas.{cover, begins_later}
use Rattle.fare_rules.proofs.LawfulLemmas.{kept}
use Rattle.fare_units.specs.Walk.{Walks, Completes, GoesOn, AnyPart, EndsBefore, EndsAt, HasFareBefore, HasFare, HasUnitBefore, IsPart, IsFront, IsList, next_start, may_serve, is_fruitless}
use Rattle.fare_units.proofs.WalkLemmas.{walk_nothing, walk_then, walk_within}
use Rattle.fare_units.proofs.NextLemmas.{next_rises, next_within, next_numbered, next_filed, next_served, next_fruitful}

abbrev Found : Type 0
Found = Option (List Part × ℕ)

true_false : true ≡ false → ⊥
true_false e = cc

-- what comes after some parts starts where they end or later
pub end_before_next : (trip : Itinerary) (front : List Part) → end_of front (length front) ≤ next_start trip front
end_before_next trip [] = omega arith
end_before_next trip (x ∷ xs) =
    let n : length (x ∷ xs) + 1 - 1 ≡ length (x ∷ xs) = omega arith in
    rw (lt-leb (length (x ∷ xs) + 1) 1 (omega arith), n) (begins_later trip (end_of (x ∷ xs) (length (x ∷ xs))))

-- a list that goes on in one of two ways
goes_either : (front : List Part) (M P Q : Part → Type 0) → ((q : Part) → M q → P q ⊎ Q q) → (parts : List Part) → GoesOn front M parts → GoesOn front P parts ⊎ GoesOn front Q parts
goes_either front M P Q each parts g =
    elim (each g.next g.meets) [
      | inl p ↦ inl (record { next = g.next; rest = g.rest; whole = g.whole; meets = p })
      | inr q ↦ inr (record { next = g.next; rest = g.rest; whole = g.whole; meets = q })
    ]

below_or_at : (a n : ℕ) → a < n + 1 → (a < n) ⊎ (a ≡ n)
below_or_at a n h = elim (cases_lt a n) [ inl l ↦ inl l | inr g ↦ inr (omega arith) ]

module _ (tariff : Tariff) (trip : Itinerary) (front : List Part) where
  lawful_next : (M : Part → Type 0) (parts : List Part) (price : ℕ) → IsLawful tariff trip parts price → (g : GoesOn front M parts) → IsLawful tariff trip (front ++ g.next ∷ g.rest) price
  lawful_next M parts price l g = let P : List Part → Type 0 = λ xs. IsLawful tariff trip xs price in subst P g.whole l

  -- parts that cover the trip are all
  whole_only : end_of front (length front) ≡ count trip → (parts : List Part) (price : ℕ) → IsLawful tariff trip parts price → (rest : List Part) → parts ≡ front ++ rest → parts ≡ front
  whole_only e parts price l [] w = w ∙ append-nil front
  whole_only e parts price l (q ∷ more) w =
      let P : List Part → Type 0 = λ xs. IsLawful tariff trip xs price in
      let k = subst P w l in
      let rises : next_start trip front < q.end = next_rises tariff trip front q more price k in
      let within : q.end ≤ count trip = next_within tariff trip front q more price k in
      let before : end_of front (length front) ≤ next_start trip front = end_before_next trip front in
      absurd (omega arith)

  pub walk_whole : (a b : Found) → end_of front (length front) ≡ count trip → Walks tariff trip (IsList front) a b → Walks tariff trip (Completes front) a b
  walk_whole a b e walk = walk_within tariff trip (Completes front) (IsList front) a b walk (λ parts price l d. whole_only e parts price l d.rest d.whole)

  -- parts that do not cover it go on
  goes_further : (end_of front (length front) ≡ count trip → ⊥) → (parts : List Part) (price : ℕ) → IsLawful tariff trip parts price → (rest : List Part) → parts ≡ front ++ rest → GoesOn front AnyPart parts
  goes_further e parts price l [] w =
      let same : parts ≡ front = w ∙ append-nil front in
      let P : List Part → Type 0 = λ xs. end_of xs (length xs) ≡ count trip in
      absurd (e (subst P same (cover trip parts (kept tariff trip parts price l).cover).last))
  goes_further e parts price l (q ∷ more) w = record { next = q; rest = more; whole = w; meets = tt }

  pub walk_further : (a b : Found) → (end_of front (length front) ≡ count trip → ⊥) → Walks tariff trip (GoesOn front AnyPart) a b → Walks tariff trip (Completes front) a b
  walk_further a b e walk = walk_within tariff trip (Completes front) (GoesOn front AnyPart) a b walk (λ parts price l d. goes_further e parts price l d.rest d.whole)

  -- over ends
  pub ends_none : (b : Found) → Walks tariff trip (GoesOn front (EndsBefore (next_start trip front + 1))) b b
  ends_none b =
      walk_nothing tariff trip (GoesOn front (EndsBefore (next_start trip front + 1))) b
      (λ parts price l g.
      let rises : next_start trip front < g.next.end = next_rises tariff trip front g.next g.rest price (lawful_next (EndsBefore (next_start trip front + 1)) parts price l g) in
      let meets : g.next.end < next_start trip front + 1 = g.meets in
      omega arith)

  pub ends_more : (end : ℕ) (a b c : Found) → Walks tariff trip (GoesOn front (EndsBefore end)) a b → Walks tariff trip (GoesOn front (EndsAt end)) b c → Walks tariff trip (GoesOn front (EndsBefore (end + 1))) a c
  ends_more end a b c first second =
      walk_then tariff trip (GoesOn front (EndsBefore end)) (GoesOn front (EndsAt end)) (GoesOn front (EndsBefore (end + 1))) a b c first second
      (goes_either front (EndsBefore (end + 1)) (EndsBefore end) (EndsAt end) (λ q h. below_or_at q.end end h))

  pub ends_all : (past : ℕ) (a b : Found) → count trip + 1 ≤ past → Walks tariff trip (GoesOn front (EndsBefore past)) a b → Walks tariff trip (GoesOn front AnyPart) a b
  ends_all past a b h walk =
      walk_within tariff trip (GoesOn front AnyPart) (GoesOn front (EndsBefore past)) a b walk
      (λ parts price l g.
      let within : g.next.end ≤ count trip = next_within tariff trip front g.next g.rest price (lawful_next AnyPart parts price l g) in
      record { next = g.next; rest = g.rest; whole = g.whole; meets = omega arith })

  -- over fares
  pub fares_none : (end : ℕ) (b : Found) → Walks tariff trip (GoesOn front (HasFareBefore end 2)) b b
  fares_none end b =
      walk_nothing tariff trip (GoesOn front (HasFareBefore end 2)) b
      (λ parts price l g.
      let filed : (2 ≤ g.next.fare) × (g.next.fare < length tariff.records + 2) = next_filed tariff trip front g.next g.rest price (lawful_next (HasFareBefore end 2) parts price l g) in
      let low : 2 ≤ g.next.fare = filed.0 in
      let meets : g.next.fare < 2 = g.meets.1 in
      omega arith)

  fare_below_or_at : (end number : ℕ) (q : Part) → HasFareBefore end (number + 1) q → HasFareBefore end number q ⊎ HasFare end number q
  fare_below_or_at end number q h = elim (below_or_at q.fare number h.1) [ inl l ↦ inl (h.0, l) | inr e ↦ inr (h.0, e) ]

  pub fares_more : (end number : ℕ) (a b c : Found) → Walks tariff trip (GoesOn front (HasFareBefore end number)) a b → Walks tariff trip (GoesOn front (HasFare end number)) b c → Walks tariff trip (GoesOn front (HasFareBefore end (number + 1))) a c
  fares_more end number a b c first second =
      walk_then tariff trip (GoesOn front (HasFareBefore end number)) (GoesOn front (HasFare end number)) (GoesOn front (HasFareBefore end (number + 1))) a b c first second
      (goes_either front (HasFareBefore end (number + 1)) (HasFareBefore end number) (HasFare end number) (fare_below_or_at end number))

  unserved : (end number : ℕ) → may_serve tariff trip front end number ≡ false → (parts : List Part) (price : ℕ) → IsLawful tariff trip parts price → GoesOn front (HasFare end number) parts → ⊥
  unserved end number none parts price l g =
      let served : may_serve tariff trip front g.next.end g.next.fare ≡ true = next_served tariff trip front g.next g.rest price (lawful_next (HasFare end number) parts price l g) in
      let P : ℕ → Type 0 = λ n. may_serve tariff trip front n g.next.fare ≡ true in
      let Q : ℕ → Type 0 = λ n. may_serve tariff trip front end n ≡ true in
      true_false (sym (subst Q g.meets.1 (subst P g.meets.0 served)) ∙ none)

  pub fares_over : (end number : ℕ) (a b : Found) → may_serve tariff trip front end number ≡ false → Walks tariff trip (GoesOn front (HasFareBefore end number)) a b → Walks tariff trip (GoesOn front (HasFareBefore end (number + 1))) a b
  fares_over end number a b none walk =
      fares_more end number a b b walk (walk_nothing tariff trip (GoesOn front (HasFare end number)) b (unserved end number none))

  pub fares_all : (end past : ℕ) (a b : Found) → length tariff.records + 2 ≤ past → Walks tariff trip (GoesOn front (HasFareBefore end past)) a b → Walks tariff trip (GoesOn front (EndsAt end)) a b
  fares_all end past a b h walk =
      walk_within tariff trip (GoesOn front (EndsAt end)) (GoesOn front (HasFareBefore end past)) a b walk
      (λ parts price l g.
      let filed : (2 ≤ g.next.fare) × (g.next.fare < length tariff.records + 2) = next_filed tariff trip front g.next g.rest price (lawful_next (EndsAt end) parts price l g) in
      let high : g.next.fare < length tariff.records + 2 = filed.1 in
      record { next = g.next; rest = g.rest; whole = g.whole; meets = (g.meets, omega arith) })

  -- over units
  pub units_none : (end number : ℕ) (b : Found) → Walks tariff trip (GoesOn front (HasUnitBefore end number 1)) b b
  units_none end number b =
      walk_nothing tariff trip (GoesOn front (HasUnitBefore end number 1)) b
      (λ parts price l g.
      let numbered : (1 ≤ g.next.unit) × (g.next.unit ≤ greatest_unit front (places front) + 1) = next_numbered tariff trip front g.next g.rest price (lawful_next (HasUnitBefore end number 1) parts price l g) in
      let low : 1 ≤ g.next.unit = numbered.0 in
      let meets : g.next.unit < 1 = g.meets.2 in
      omega arith)

  unit_below_or_at : (part q : Part) → HasUnitBefore part.end part.fare (part.unit + 1) q → HasUnitBefore part.end part.fare part.unit q ⊎ IsPart part q
  unit_below_or_at part q h =
      elim (below_or_at q.unit part.unit h.2) [
        | inl l ↦ inl (h.0, h.1, l)
        | inr e ↦ inr (λ i. record { end = h.0 i; unit = e i; fare = h.1 i })
      ]

  pub units_more : (part : Part) (a b c : Found) → Walks tariff trip (GoesOn front (HasUnitBefore part.end part.fare part.unit)) a b → Walks tariff trip (GoesOn front (IsPart part)) b c → Walks tariff trip (GoesOn front (HasUnitBefore part.end part.fare (part.unit + 1))) a c
  units_more part a b c first second =
      walk_then tariff trip (GoesOn front (HasUnitBefore part.end part.fare part.unit)) (GoesOn front (IsPart part)) (GoesOn front (HasUnitBefore part.end part.fare (part.unit + 1))) a b c first second
      (goes_either front (HasUnitBefore part.end part.fare (part.unit + 1)) (HasUnitBefore part.end part.fare part.unit) (IsPart part) (unit_below_or_at part))

  pub units_all : (end number past : ℕ) (a b : Found) → greatest_unit front (places front) + 2 ≤ past → Walks tariff trip (GoesOn front (HasUnitBefore end number past)) a b → Walks tariff trip (GoesOn front (HasFare end number)) a b
  units_all end number past a b h walk =
      walk_within tariff trip (GoesOn front (HasFare end number)) (GoesOn front (HasUnitBefore end number past)) a b walk
      (λ parts price l g.
      let numbered : (1 ≤ g.next.unit) × (g.next.unit ≤ greatest_unit front (places front) + 1) = next_numbered tariff trip front g.next g.rest price (lawful_next (HasFare end number) parts price l g) in
      let high : g.next.unit ≤ greatest_unit front (places front) + 1 = numbered.1 in
      record { next = g.next; rest = g.rest; whole = g.whole; meets = (g.meets.0, g.meets.1, omega arith) })

  -- over one part
  pub part_none : (part : Part) (b : Found) → is_fruitless tariff (front ++ part ∷ []) ≡ true → Walks tariff trip (GoesOn front (IsPart part)) b b
  part_none part b none =
      walk_nothing tariff trip (GoesOn front (IsPart part)) b
      (λ parts price l g.
      let fruitful : is_fruitless tariff (front ++ g.next ∷ []) ≡ false = next_fruitful tariff trip front g.next g.rest price (lawful_next (IsPart part) parts price l g) in
      let P : Part → Type 0 = λ p. is_fruitless tariff (front ++ p ∷ []) ≡ false in
      true_false (sym none ∙ subst P g.meets fruitful))

  pub part_walked : (part : Part) (a b : Found) → Walks tariff trip (Completes (front ++ part ∷ [])) a b → Walks tariff trip (GoesOn front (IsPart part)) a b
  part_walked part a b walk =
      walk_within tariff trip (GoesOn front (IsPart part)) (Completes (front ++ part ∷ [])) a b walk
      (λ parts price l g. record {
        rest = g.rest;
        whole = g.whole ∙ ap (λ (p : Part). front ++ p ∷ g.rest) g.meets ∙ sym (append_assoc front (part ∷ []) g.rest);
      })

-- no parts may be followed
pub front_of_none : (trip : Itinerary) → IsFront trip []
front_of_none trip = record {
  advances = record { ends = λ k. omega arith; rises = λ k low high. absurd (omega arith) };
  few = omega arith;
  ordered = omega arith;
}

-- a walk over all from nothing finds the best
pub best_of_walk : (tariff : Tariff) (trip : Itinerary) (best : Found) → Walks tariff trip (Completes []) None best → IsBestAnswer tariff trip best
best_of_walk tariff trip None walk = λ parts price l. walk.seen parts price l (record { rest = parts; whole = refl })
best_of_walk tariff trip (Some best) walk = record {
  lawful = walk.found tt;
  first = λ other cost l. walk.seen other cost l (record { rest = other; whole = refl });
}
