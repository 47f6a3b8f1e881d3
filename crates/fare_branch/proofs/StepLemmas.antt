-- The steps of a walk: over ends, entries and units, and from some parts to those that follow.
use Rattle.std.proofs.Common.{◌≡◌, ℕ, ◌+◌, ◌<◌, ◌≤◌, ◌⊎◌, true, List, [], ◌∷◌, ◌++◌, length, map, take, get_or, cond, Option, Some, None, refl, ap, subst, sym, ◌∙◌, inl, inr, arith}
use Rattle.std.specs.List.{filter_map, cons_option}
use Rattle.std.proofs.lemmas.List.{append_assoc, append-nil, take_more, map-append}
use Rattle.std.proofs.lemmas.Bool.{cases_lt, lt-ltb, le-leb}
use Rattle.fare_trip.specs.Itinerary.{Itinerary, count}
use Rattle.fare_tariff.specs.Tariff.{Tariff}
use Rattle.fare_rules.specs.declared.part.Part.{Part}
use Rattle.fare_rules.specs.Construction.{end_of, greatest_unit, places}
use Rattle.fare_rules.specs.Completion.{IsCompletion, record_numbers}
use Rattle.fare_rules.specs.Best.{IsLawful}
use Rattle.fare_rules.proofs.CoverLemmas.{cover}
use Rattle.fare_rules.proofs.LawfulLemmas.{kept}
use Rattle.fare_rules.proofs.MemberLemmas.{Member, member_left, member_right, member_map, member_numbers}
use Rattle.fare_units.specs.Walk.{Completes, GoesOn, AnyPart, EndsAt, HasFare, HasUnitBefore, IsPart, IsList, next_start, may_serve}
use Rattle.fare_units.proofs.NextLemmas.{next_rises, next_within, next_numbered, next_filed, next_served}
use Rattle.fare_units.proofs.StepLemmas.{end_before_next}
use Rattle.fare_component.specs.declared.table.entry.Entry.{Entry}
use Rattle.fare_floors.specs.Floors.{HasNoCompletion, IsFloor}
use Rattle.fare_floors.proofs.FollowLemmas.{member_snoc}
use Rattle.fare_component.specs.Table.{entries_of, entry_of, entry_at, has_amount, is_span}
use Rattle.fare_branch.specs.Sought.{AllBehindPassed, AllPassedFrom, IsStill, IsWalk}
use Rattle.fare_branch.proofs.SoughtLemmas.{Passed, Held, walk_left_out, walk_nothing, walk_then, walk_within}

-- a part that ends at a point or behind it
abbrev pub EndsFrom : ℕ → Part → Type 0
EndsFrom end part = end ≤ part.end

-- the record number of an entry's fare
abbrev pub fare_of_entry : Entry → ℕ
fare_of_entry entry = entry.fare

-- a part that ends at a point with the fare of one of some entries
abbrev pub HasEntry : ℕ → List Entry → Part → Type 0
HasEntry end entries part = (part.end ≡ end) × Member part.fare (map fare_of_entry entries)

-- a list that goes on in one of two ways
goes_either : (front : List Part) (M P Q : Part → Type 0) → ((q : Part) → M q → P q ⊎ Q q) → (parts : List Part) → GoesOn front M parts → GoesOn front P parts ⊎ GoesOn front Q parts
goes_either front M P Q each parts g =
    elim (each g.next g.meets) [
      | inl p ↦ inl (record { next = g.next; rest = g.rest; whole = g.whole; meets = p })
      | inr q ↦ inr (record { next = g.next; rest = g.rest; whole = g.whole; meets = q })
    ]

goes_too : (front : List Part) (M P : Part → Type 0) → ((q : Part) → M q → P q) → (parts : List Part) → GoesOn front M parts → GoesOn front P parts
goes_too front M P each parts g = record { next = g.next; rest = g.rest; whole = g.whole; meets = each g.next g.meets }

in_front : (one : Entry) (o : Option Entry) (rest : List Entry) → Member one rest → Member one (cons_option o rest)
in_front one None rest m = m
in_front one (Some z) rest m = inr m

-- an entry that is given for a member is a member of those given
member_given : (f : ℕ → Option Entry) (one : Entry) (x : ℕ) (xs : List ℕ) → f x ≡ Some one → Member x xs → Member one (filter_map f xs)
member_given f one x [] e h = absurd h
member_given f one x (y ∷ ys) e (inl same) =
    let P : ℕ → Type 0 = λ n. f n ≡ Some one in
    rw (subst P same e) (inl refl)
member_given f one x (y ∷ ys) e (inr h) = in_front one (f y) (filter_map f ys) (member_given f one x ys e h)

module _ (tariff : Tariff) (trip : Itinerary) (front : List Part) where
  lawful_next : (M : Part → Type 0) (parts : List Part) (price : ℕ) → IsLawful tariff trip parts price → (g : GoesOn front M parts) → IsLawful tariff trip (front ++ g.next ∷ g.rest) price
  lawful_next M parts price l g = let P : List Part → Type 0 = λ xs. IsLawful tariff trip xs price in subst P g.whole l

  -- parts that cover the trip are all
  whole_only : end_of front (length front) ≡ count trip → (parts : List Part) (price : ℕ) → IsLawful tariff trip parts price → (rest : List Part) → parts ≡ front ++ rest → parts ≡ front
  whole_only e parts price l [] w = w ∙ append-nil front
  whole_only e parts price l (q ∷ more) w =
      let P : List Part → Type 0 = λ xs. IsLawful tariff trip xs price in
      let k = subst P w l in
      let rises : next_start trip front < q.end = next_rises tariff trip front q more price k in
      let within : q.end ≤ count trip = next_within tariff trip front q more price k in
      let before : end_of front (length front) ≤ next_start trip front = end_before_next trip front in
      absurd (omega arith)

  pub walk_whole : (a b : Passed) (x y : Held) → end_of front (length front) ≡ count trip → IsWalk tariff trip (IsList front) a x b y → IsWalk tariff trip (Completes front) a x b y
  walk_whole a b x y e walk =
      walk_within tariff trip (Completes front) (IsList front) a b x y walk
      (λ parts price l d. whole_only e parts price l d.rest d.whole)
      (λ parts d. record { rest = []; whole = d ∙ sym (append-nil front) })

  -- parts that do not cover it go on
  goes_further : (end_of front (length front) ≡ count trip → ⊥) → (parts : List Part) (price : ℕ) → IsLawful tariff trip parts price → (rest : List Part) → parts ≡ front ++ rest → GoesOn front AnyPart parts
  goes_further e parts price l [] w =
      let same : parts ≡ front = w ∙ append-nil front in
      let P : List Part → Type 0 = λ xs. end_of xs (length xs) ≡ count trip in
      absurd (e (subst P same (cover trip parts (kept tariff trip parts price l).cover).last))
  goes_further e parts price l (q ∷ more) w = record { next = q; rest = more; whole = w; meets = tt }

  pub walk_further : (a b : Passed) (x y : Held) → (end_of front (length front) ≡ count trip → ⊥) → IsWalk tariff trip (GoesOn front AnyPart) a x b y → IsWalk tariff trip (Completes front) a x b y
  walk_further a b x y e walk =
      walk_within tariff trip (Completes front) (GoesOn front AnyPart) a b x y walk
      (λ parts price l d. goes_further e parts price l d.rest d.whole)
      (λ parts g. record { rest = g.next ∷ g.rest; whole = g.whole })

  -- over ends, the greatest first
  pub ends_none : (past : ℕ) (a : Passed) (x : Held) → count trip < past → IsWalk tariff trip (GoesOn front (EndsFrom past)) a x a x
  ends_none past a x h =
      walk_nothing tariff trip (GoesOn front (EndsFrom past)) a x
      (λ parts price l g.
      let within : g.next.end ≤ count trip = next_within tariff trip front g.next g.rest price (lawful_next (EndsFrom past) parts price l g) in
      let meets : past ≤ g.next.end = g.meets in
      omega arith)

  ends_or_from : (end : ℕ) (q : Part) → EndsFrom end q → EndsFrom (end + 1) q ⊎ EndsAt end q
  ends_or_from end q h = elim (cases_lt end q.end) [ inl l ↦ inl (omega arith) | inr g ↦ inr (omega arith) ]

  pub ends_more : (end : ℕ) (a b c : Passed) (x y z : Held) → IsWalk tariff trip (GoesOn front (EndsFrom (end + 1))) a x b y → IsWalk tariff trip (GoesOn front (EndsAt end)) b y c z → IsWalk tariff trip (GoesOn front (EndsFrom end)) a x c z
  ends_more end a b c x y z first second =
      walk_then tariff trip (GoesOn front (EndsFrom (end + 1))) (GoesOn front (EndsAt end)) (GoesOn front (EndsFrom end)) a b c x y z first second
      (goes_either front (EndsFrom end) (EndsFrom (end + 1)) (EndsAt end) (ends_or_from end))
      (goes_too front (EndsFrom (end + 1)) (EndsFrom end) (λ q h. let m : end + 1 ≤ q.end = h in omega arith))
      (goes_too front (EndsAt end) (EndsFrom end) (λ q h. let m : q.end ≡ end = h in omega arith))

  pub ends_all : (first : ℕ) (a b : Passed) (x y : Held) → first ≤ next_start trip front + 1 → IsWalk tariff trip (GoesOn front (EndsFrom first)) a x b y → IsWalk tariff trip (GoesOn front AnyPart) a x b y
  ends_all first a b x y h walk =
      walk_within tariff trip (GoesOn front AnyPart) (GoesOn front (EndsFrom first)) a b x y walk
      (λ parts price l g.
      let rises : next_start trip front < g.next.end = next_rises tariff trip front g.next g.rest price (lawful_next AnyPart parts price l g) in
      record { next = g.next; rest = g.rest; whole = g.whole; meets = omega arith })
      (goes_too front (EndsFrom first) AnyPart (λ q m. tt))

  -- over entries
  pub entries_none : (end : ℕ) (a : Passed) (x : Held) → IsWalk tariff trip (GoesOn front (HasEntry end [])) a x a x
  entries_none end a x =
      walk_nothing tariff trip (GoesOn front (HasEntry end [])) a x
      (λ parts price l g. g.meets.1)

  entry_or_in : (end i : ℕ) (entries : List Entry) (one : Entry) → i < length entries → (q : Part) → HasEntry end (take (i + 1) entries) q → HasEntry end (take i entries) q ⊎ HasFare end (get_or entries i one).fare q
  entry_or_in end i entries one h q m =
      let same : map fare_of_entry (take (i + 1) entries) ≡ map fare_of_entry (take i entries) ++ (get_or entries i one).fare ∷ [] =
      ap (map fare_of_entry) (take_more entries i one h) ∙ map-append fare_of_entry (take i entries) (get_or entries i one ∷ []) in
      elim (member_snoc (map fare_of_entry (take i entries)) (get_or entries i one).fare q.fare (subst (Member q.fare) same m.1)) [
        | inl k ↦ inl (m.0, k)
        | inr e ↦ inr (m.0, e)
      ]

  in_entry : (end i : ℕ) (entries : List Entry) (one : Entry) → i < length entries → (q : Part) → HasEntry end (take i entries) q ⊎ HasFare end (get_or entries i one).fare q → HasEntry end (take (i + 1) entries) q
  in_entry end i entries one h q m =
      let same : map fare_of_entry (take (i + 1) entries) ≡ map fare_of_entry (take i entries) ++ (get_or entries i one).fare ∷ [] =
      ap (map fare_of_entry) (take_more entries i one h) ∙ map-append fare_of_entry (take i entries) (get_or entries i one ∷ []) in
      elim m [
        | inl k ↦ (k.0, subst (Member q.fare) (sym same) (member_left q.fare (map fare_of_entry (take i entries)) ((get_or entries i one).fare ∷ []) k.1))
        | inr k ↦ (k.0, subst (Member q.fare) (sym same) (member_right q.fare (map fare_of_entry (take i entries)) ((get_or entries i one).fare ∷ []) (inl k.1)))
      ]

  pub entries_more : (end i : ℕ) (entries : List Entry) (one : Entry) (a b c : Passed) (x y z : Held) → i < length entries → IsWalk tariff trip (GoesOn front (HasEntry end (take i entries))) a x b y → IsWalk tariff trip (GoesOn front (HasFare end (get_or entries i one).fare)) b y c z → IsWalk tariff trip (GoesOn front (HasEntry end (take (i + 1) entries))) a x c z
  entries_more end i entries one a b c x y z h first second =
      walk_then tariff trip (GoesOn front (HasEntry end (take i entries))) (GoesOn front (HasFare end (get_or entries i one).fare)) (GoesOn front (HasEntry end (take (i + 1) entries))) a b c x y z first second
      (goes_either front (HasEntry end (take (i + 1) entries)) (HasEntry end (take i entries)) (HasFare end (get_or entries i one).fare) (entry_or_in end i entries one h))
      (goes_too front (HasEntry end (take i entries)) (HasEntry end (take (i + 1) entries)) (λ q m. in_entry end i entries one h q (inl m)))
      (goes_too front (HasFare end (get_or entries i one).fare) (HasEntry end (take (i + 1) entries)) (λ q m. in_entry end i entries one h q (inr m)))

  -- the fare of a part that goes on is that of an entry of its span
  next_entry : (q : Part) (more : List Part) (price : ℕ) → IsLawful tariff trip (front ++ q ∷ more) price → Member q.fare (map fare_of_entry (entries_of tariff trip (next_start trip front) q.end))
  unfolding entries_of entry_at may_serve
  next_entry q more price l =
      let start : ℕ = next_start trip front in
      let rises : next_start trip front < q.end = next_rises tariff trip front q more price l in
      let within : q.end ≤ count trip = next_within tariff trip front q more price l in
      let filed = next_filed tariff trip front q more price l in
      let served : has_amount (entry_of tariff trip (next_start trip front) q.end q.fare) ≡ true = next_served tariff trip front q more price l in
      let given : entry_at tariff trip (next_start trip front) q.end q.fare ≡ Some (entry_of tariff trip (next_start trip front) q.end q.fare) = ap (λ b. cond b (Some (entry_of tariff trip (next_start trip front) q.end q.fare)) None) served in
      let number : Member q.fare (record_numbers tariff) = member_numbers 2 (length tariff.records + 2) q.fare filed.0 filed.1 in
      let entry : Member (entry_of tariff trip (next_start trip front) q.end q.fare) (filter_map (entry_at tariff trip (next_start trip front) q.end) (record_numbers tariff)) =
      member_given (entry_at tariff trip (next_start trip front) q.end) (entry_of tariff trip (next_start trip front) q.end q.fare) q.fare (record_numbers tariff) given number in
      let span : is_span trip (next_start trip front) q.end ≡ true = rw (lt-ltb (next_start trip front) q.end rises) (le-leb q.end (count trip) within) in
      rw span (member_map fare_of_entry (entry_of tariff trip (next_start trip front) q.end q.fare) (filter_map (entry_at tariff trip (next_start trip front) q.end) (record_numbers tariff)) entry)

  pub entries_all : (end : ℕ) (entries : List Entry) (a b : Passed) (x y : Held) → entries ≡ entries_of tariff trip (next_start trip front) end → IsWalk tariff trip (GoesOn front (HasEntry end entries)) a x b y → IsWalk tariff trip (GoesOn front (EndsAt end)) a x b y
  entries_all end entries a b x y same walk =
      walk_within tariff trip (GoesOn front (EndsAt end)) (GoesOn front (HasEntry end entries)) a b x y walk
      (λ parts price l g.
      let P : List Entry → Type 0 = λ es. Member g.next.fare (map fare_of_entry es) in
      let Q : ℕ → Type 0 = λ n. Member g.next.fare (map fare_of_entry (entries_of tariff trip (next_start trip front) n)) in
      let entry = next_entry g.next g.rest price (lawful_next (EndsAt end) parts price l g) in
      record { next = g.next; rest = g.rest; whole = g.whole; meets = (g.meets, subst P (sym same) (subst Q g.meets entry)) })
      (goes_too front (HasEntry end entries) (EndsAt end) (λ q m. m.0))

  -- over units
  pub units_none : (end number : ℕ) (a : Passed) (x : Held) → IsWalk tariff trip (GoesOn front (HasUnitBefore end number 1)) a x a x
  units_none end number a x =
      walk_nothing tariff trip (GoesOn front (HasUnitBefore end number 1)) a x
      (λ parts price l g.
      let numbered : (1 ≤ g.next.unit) × (g.next.unit ≤ greatest_unit front (places front) + 1) = next_numbered tariff trip front g.next g.rest price (lawful_next (HasUnitBefore end number 1) parts price l g) in
      let low : 1 ≤ g.next.unit = numbered.0 in
      let meets : g.next.unit < 1 = g.meets.2 in
      omega arith)

  unit_below_or_at : (part q : Part) → HasUnitBefore part.end part.fare (part.unit + 1) q → HasUnitBefore part.end part.fare part.unit q ⊎ IsPart part q
  unit_below_or_at part q h =
      elim (cases_lt q.unit part.unit) [
        | inl l ↦ inl (h.0, h.1, l)
        | inr g ↦
            let low : q.unit < part.unit + 1 = h.2 in
            let e : q.unit ≡ part.unit = omega arith in
            inr (λ i. record { end = h.0 i; unit = e i; fare = h.1 i })
      ]

  part_has_unit : (part q : Part) → IsPart part q → HasUnitBefore part.end part.fare (part.unit + 1) q
  part_has_unit part q e = (ap (λ (p : Part). p.end) e, ap (λ (p : Part). p.fare) e, let u : q.unit ≡ part.unit = ap (λ (p : Part). p.unit) e in omega arith)

  pub units_more : (part : Part) (a b c : Passed) (x y z : Held) → IsWalk tariff trip (GoesOn front (HasUnitBefore part.end part.fare part.unit)) a x b y → IsWalk tariff trip (GoesOn front (IsPart part)) b y c z → IsWalk tariff trip (GoesOn front (HasUnitBefore part.end part.fare (part.unit + 1))) a x c z
  units_more part a b c x y z first second =
      walk_then tariff trip (GoesOn front (HasUnitBefore part.end part.fare part.unit)) (GoesOn front (IsPart part)) (GoesOn front (HasUnitBefore part.end part.fare (part.unit + 1))) a b c x y z first second
      (goes_either front (HasUnitBefore part.end part.fare (part.unit + 1)) (HasUnitBefore part.end part.fare part.unit) (IsPart part) (unit_below_or_at part))
      (goes_too front (HasUnitBefore part.end part.fare part.unit) (HasUnitBefore part.end part.fare (part.unit + 1)) (λ q h. (h.0, h.1, let l : q.unit < part.unit = h.2 in omega arith)))
      (goes_too front (IsPart part) (HasUnitBefore part.end part.fare (part.unit + 1)) (part_has_unit part))

  pub units_all : (end number past : ℕ) (a b : Passed) (x y : Held) → greatest_unit front (places front) + 2 ≤ past → IsWalk tariff trip (GoesOn front (HasUnitBefore end number past)) a x b y → IsWalk tariff trip (GoesOn front (HasFare end number)) a x b y
  units_all end number past a b x y h walk =
      walk_within tariff trip (GoesOn front (HasFare end number)) (GoesOn front (HasUnitBefore end number past)) a b x y walk
      (λ parts price l g.
      let numbered : (1 ≤ g.next.unit) × (g.next.unit ≤ greatest_unit front (places front) + 1) = next_numbered tariff trip front g.next g.rest price (lawful_next (HasFare end number) parts price l g) in
      let high : g.next.unit ≤ greatest_unit front (places front) + 1 = numbered.1 in
      record { next = g.next; rest = g.rest; whole = g.whole; meets = (g.meets.0, g.meets.1, omega arith) })
      (goes_too front (HasUnitBefore end number past) (HasFare end number) (λ q m. (m.0, m.1)))

  -- over one part
  completes_part : (part : Part) (parts : List Part) → GoesOn front (IsPart part) parts → Completes (front ++ part ∷ []) parts
  completes_part part parts g = record {
    rest = g.rest;
    whole = g.whole ∙ ap (λ (p : Part). front ++ p ∷ g.rest) g.meets ∙ sym (append_assoc front (part ∷ []) g.rest);
  }

  goes_by_part : (part : Part) (parts : List Part) → Completes (front ++ part ∷ []) parts → GoesOn front (IsPart part) parts
  goes_by_part part parts c = record { next = part; rest = c.rest; whole = c.whole ∙ append_assoc front (part ∷ []) c.rest; meets = refl }

  is_completion : (part : Part) (parts : List Part) (price : ℕ) → IsLawful tariff trip parts price → GoesOn front (IsPart part) parts → IsCompletion tariff trip (front ++ part ∷ []) parts price
  is_completion part parts price l g = let c : Completes (front ++ part ∷ []) parts = completes_part part parts g in record { lawful = l; begins = (c.rest, c.whole) }

  pub part_walked : (part : Part) (a b : Passed) (x y : Held) → IsWalk tariff trip (Completes (front ++ part ∷ [])) a x b y → IsWalk tariff trip (GoesOn front (IsPart part)) a x b y
  part_walked part a b x y walk =
      walk_within tariff trip (GoesOn front (IsPart part)) (Completes (front ++ part ∷ [])) a b x y walk
      (λ parts price l g. completes_part part parts g)
      (goes_by_part part)

  -- a part after which nothing completes is left out
  pub part_none : (part : Part) (a : Passed) (x : Held) → HasNoCompletion tariff trip (front ++ part ∷ []) → IsWalk tariff trip (GoesOn front (IsPart part)) a x a x
  part_none part a x none =
      walk_nothing tariff trip (GoesOn front (IsPart part)) a x
      (λ parts price l g. none parts price (is_completion part parts price l g))

  -- and so is one from whose floor on all are passed
  pub part_dear : (part : Part) (floor : ℕ) (a b : Passed) (x y : Held) → IsStill a x b y → AllPassedFrom floor b → IsFloor tariff trip (front ++ part ∷ []) floor → IsWalk tariff trip (GoesOn front (IsPart part)) a x b y
  part_dear part floor a b x y still dear up =
      walk_left_out tariff trip (GoesOn front (IsPart part)) a b x y still
      (λ parts price l g. dear parts price (up parts price (is_completion part parts price l g)))

  -- or all that complete it are
  pub part_behind : (part : Part) (floor : ℕ) (a b : Passed) (x y : Held) → IsStill a x b y → AllBehindPassed (front ++ part ∷ []) floor b → IsFloor tariff trip (front ++ part ∷ []) floor → IsWalk tariff trip (GoesOn front (IsPart part)) a x b y
  part_behind part floor a b x y still behind up =
      walk_left_out tariff trip (GoesOn front (IsPart part)) a b x y still
      (λ parts price l g.
      let c : Completes (front ++ part ∷ []) parts = completes_part part parts g in
      let P : List Part → Type 0 = λ xs. b xs price in
      subst P (sym c.whole) (behind c.rest price (up parts price (is_completion part parts price l g))))
