-- Parts that others may follow, with one part more.
use Rattle.std.proofs.Common.{◌≡◌, ℕ, zero, suc, ◌+◌, ◌-◌, ◌*◌, ◌<◌, ◌≤◌, max, List, [], ◌∷◌, ◌++◌, length, get_or, ap, subst, sym, ◌∙◌, inl, inr, arith}
use Rattle.std.proofs.lemmas.Bool.{cases_lt}
use Rattle.std.proofs.Math.ListN.{get_or-append, length-append}
use Rattle.std.proofs.Math.Seq.{get_or-append_right}
use Rattle.fare_trip.specs.Itinerary.{Itinerary, count}
use Rattle.fare_rules.specs.declared.part.Part.{Part}
use Rattle.fare_rules.specs.Numbers.{numbers}
use Rattle.fare_rules.specs.Construction.{no_part, end_of, start_of, unit_of, greatest_unit, places}
use Rattle.fare_rules.proofs.NumberLemmas.{numbers_more}
use Rattle.fare_units.specs.Walk.{IsFront, next_start}
use Rattle.fare_units.proofs.NextLemmas.{front_part, front_start, front_unit, greatest_same, next_part, start_by}
use Rattle.fare_units.proofs.StepLemmas.{end_before_next}
use Rattle.fare_lawful.proofs.UnitLemmas.{greatest_append}

only_end : (most : ℕ) (part : Part) (j : ℕ) → part.end ≤ most → (get_or (part ∷ []) j no_part).end ≤ most
only_end most part zero h = h
only_end most part (suc j) h = omega arith

module _ (trip : Itinerary) (front : List Part) (part : Part) where
  longer_length : length (front ++ part ∷ []) ≡ length front + 1
  longer_length = length-append front (part ∷ []) ∙ omega arith

  item_ends : IsFront trip front → part.end ≤ count trip → (i : ℕ) → (get_or (front ++ part ∷ []) i no_part).end ≤ count trip
  item_ends f within i =
      let P : Part → Type 0 = λ p. p.end ≤ count trip in
      elim (cases_lt i (length front)) [
        | inl l ↦
            let e : i + 1 - 1 ≡ i = omega arith in
            let Q : ℕ → Type 0 = λ n. (get_or front n no_part).end ≤ count trip in
            subst P (sym (get_or-append front (part ∷ []) no_part i l)) (subst Q e (f.advances.ends (i + 1)))
        | inr g ↦ subst P (sym (get_or-append_right front (part ∷ []) i no_part g)) (only_end (count trip) part (i - length front) within)
      ]

  part_rises : IsFront trip front → next_start trip front < part.end → (k : ℕ) → 1 ≤ k → k ≤ length (front ++ part ∷ []) → start_of trip (front ++ part ∷ []) k < end_of (front ++ part ∷ []) k
  part_rises f rises k low high =
      let n : length (front ++ part ∷ []) ≡ length front + 1 = longer_length in
      elim (cases_lt (length front) k) [
        | inl l ↦
            let e : k ≡ length front + 1 = omega arith in
            let P : ℕ → Type 0 = λ j. start_of trip (front ++ part ∷ []) j < end_of (front ++ part ∷ []) j in
            let Q : ℕ → Type 0 = λ m. m < end_of (front ++ part ∷ []) (length front + 1) in
            let R : Part → Type 0 = λ p. next_start trip front < p.end in
            subst P (sym e) (subst Q (sym (start_by trip front part [])) (subst R (sym (next_part front part [])) rises))
        | inr g ↦
            let Q : ℕ → Type 0 = λ m. m < end_of (front ++ part ∷ []) k in
            let R : Part → Type 0 = λ p. start_of trip front k < p.end in
            subst Q (sym (front_start trip front (part ∷ []) k low g)) (subst R (sym (front_part front (part ∷ []) k low g)) (f.advances.rises k low g))
      ]

  longer_end : end_of (front ++ part ∷ []) (length (front ++ part ∷ [])) ≡ part.end
  longer_end =
      let P : ℕ → Type 0 = λ n. end_of (front ++ part ∷ []) n ≡ part.end in
      subst P (sym longer_length) (ap (λ (p : Part). p.end) (next_part front part []))

  pub longer_greatest : greatest_unit (front ++ part ∷ []) (places (front ++ part ∷ [])) ≡ max (greatest_unit front (places front)) part.unit
  longer_greatest =
      let P : ℕ → Type 0 = λ n. greatest_unit (front ++ part ∷ []) (numbers 1 (n + 1)) ≡ max (greatest_unit front (places front)) part.unit in
      let same : greatest_unit (front ++ part ∷ []) (numbers 1 (length front + 1)) ≡ greatest_unit front (places front) = greatest_same (front ++ part ∷ []) front 1 (length front + 1 - 1) (λ k low high. front_unit front (part ∷ []) k low (omega arith)) in
      let unit : unit_of (front ++ part ∷ []) (length front + 1) ≡ part.unit = ap (λ (p : Part). p.unit) (next_part front part []) in
      let split : greatest_unit (front ++ part ∷ []) (numbers 1 (length front + 1 + 1)) ≡ max (greatest_unit (front ++ part ∷ []) (numbers 1 (length front + 1))) (max (unit_of (front ++ part ∷ []) (length front + 1)) 0) =
      ap (greatest_unit (front ++ part ∷ [])) (numbers_more 1 (length front + 1) (omega arith)) ∙ greatest_append (front ++ part ∷ []) (numbers 1 (length front + 1)) ((length front + 1) ∷ []) in
      subst P (sym longer_length) (split ∙ (rw (same, unit) (omega arith)))

  -- a part that ends above where it starts and within the trip, in a unit of a number in order, may be followed too
  pub front_more : IsFront trip front → next_start trip front < part.end → part.end ≤ count trip → part.unit ≤ greatest_unit front (places front) + 1 → IsFront trip (front ++ part ∷ [])
  front_more f rises within ordered =
      let n : length (front ++ part ∷ []) ≡ length front + 1 = longer_length in
      let e : end_of (front ++ part ∷ []) (length (front ++ part ∷ [])) ≡ part.end = longer_end in
      let few : length front ≤ end_of front (length front) = f.few in
      let before : end_of front (length front) ≤ next_start trip front = end_before_next trip front in
      let g : greatest_unit (front ++ part ∷ []) (places (front ++ part ∷ [])) ≡ max (greatest_unit front (places front)) part.unit = longer_greatest in
      let most : greatest_unit front (places front) ≤ length front = f.ordered in
      record {
        advances = record { ends = λ k. item_ends f within (k - 1); rises = part_rises f rises };
        few = omega arith;
        ordered = omega arith;
      }

  -- it is below what the trip has
  pub front_short : IsFront trip front → next_start trip front < part.end → part.end ≤ count trip → length front < count trip
  front_short f rises within =
      let few : length front ≤ end_of front (length front) = f.few in
      let before : end_of front (length front) ≤ next_start trip front = end_before_next trip front in
      omega arith

  -- and more of the trip is behind it
  pub front_falls : next_start trip front < part.end → part.end ≤ count trip → 5 * (count trip - end_of (front ++ part ∷ []) (length (front ++ part ∷ []))) + 4 < 5 * (count trip - end_of front (length front))
  front_falls rises within =
      let e : end_of (front ++ part ∷ []) (length (front ++ part ∷ [])) ≡ part.end = longer_end in
      let before : end_of front (length front) ≤ next_start trip front = end_before_next trip front in
      omega arith
