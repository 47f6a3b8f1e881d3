-- The parts of a lawful construction behind its first ones cover what is behind these.
use Rattle.std.proofs.Common.{◌≡◌, ℕ, suc, ◌+◌, ◌-◌, true, false, List, [], ◌∷◌, ◌++◌, length, refl, ap, sym, subst, ◌∙◌, arith}
use Rattle.std.specs.Prelude.{Option, Some, sum_by}
use Rattle.std.specs.List.{range_with_len}
use Rattle.std.proofs.lemmas.Bool.{lt-leb}
use Rattle.std.proofs.lemmas.List.{append_assoc, append-nil}
use Rattle.std.proofs.Math.ListN.{length-append}
use Rattle.std.proofs.lemmas.List.Sums.{sum_by-cons}
use Rattle.fare_trip.specs.Itinerary.{Itinerary, count, sector}
use Rattle.fare_tariff.specs.Tariff.{Tariff}
use Rattle.fare_rules.specs.declared.part.Part.{Part}
use Rattle.fare_rules.specs.Construction.{start_of, end_of, part_at, begin_after}
use Rattle.fare_rules.specs.Best.{IsLawful}
use Rattle.fare_rules.proofs.CoverLemmas.{cover}
use Rattle.fare_rules.proofs.LawfulLemmas.{kept}
use Rattle.fare_component.specs.Table.{entry_of, has_amount}
use Rattle.fare_component.proofs.LawLemmas.{amount_is_entry}
use Rattle.fare_bounds.specs.Covers.{Leg, IsServed, IsCover, cost_of, total}
use Rattle.fare_units.specs.Walk.{next_start, may_serve}
use Rattle.fare_units.proofs.NextLemmas.{next_part, start_by, next_rises, next_within, next_served}
use Rattle.fare_floors.specs.Costs.{or_nothing, fare_least, part_least}
use Rattle.fare_floors.proofs.CostLemmas.{part_has_least}

-- a part that comes after others begins where what is behind them does
pub begins_behind : (trip : Itinerary) (front : List Part) → (sector trip 1).surface ≡ false → begin_after trip (end_of front (length front)) ≡ next_start trip front
begins_behind trip [] flown = rw flown refl
begins_behind trip (x ∷ xs) flown =
    let n : length (x ∷ xs) + 1 - 1 ≡ length (x ∷ xs) = omega arith in
    rw (lt-leb (length (x ∷ xs) + 1) 1 (omega arith), n) refl

end_behind : (front : List Part) (q : Part) → end_of (front ++ q ∷ []) (length (front ++ q ∷ [])) ≡ q.end
end_behind front q =
    let n : length (front ++ q ∷ []) ≡ length front + 1 = length-append front (q ∷ []) ∙ omega arith in
    let P : ℕ → Type 0 = λ k. end_of (front ++ q ∷ []) k ≡ q.end in
    subst P (sym n) (ap (λ (p : Part). p.end) (next_part front q []))

module _ (tariff : Tariff) (trip : Itinerary) where
  -- the legs of parts that come after others
  abbrev pub legs_of : List Part → List Part → List Leg
  legs_of front [] = []
  legs_of front (q ∷ rest) = record { end = q.end; cost = or_nothing (fare_least tariff trip (next_start trip front) q.end q.fare) } ∷ legs_of (front ++ q ∷ []) rest

  -- what the part at its place costs at least is what its leg costs
  leg_costs : (front : List Part) (q : Part) (rest : List Part) → fare_least tariff trip (start_of trip (front ++ q ∷ rest) (length front + 1)) (end_of (front ++ q ∷ rest) (length front + 1)) (part_at (front ++ q ∷ rest) (length front + 1)).fare ≡ fare_least tariff trip (next_start trip front) q.end q.fare
  leg_costs front q rest =
      ap (λ (p : Part). fare_least tariff trip (start_of trip (front ++ q ∷ rest) (length front + 1)) p.end p.fare) (next_part front q rest)
      ∙ ap (λ n. fare_least tariff trip n q.end q.fare) (start_by trip front q rest)

  some_least : (o : Option ℕ) (least : ℕ) → o ≡ Some least → o ≡ Some (or_nothing o)
  some_least o least e = e ∙ ap (λ (x : Option ℕ). Some (or_nothing x)) (sym e)

  has_amount_next : (front : List Part) (q : Part) (rest : List Part) (price : ℕ) → IsLawful tariff trip (front ++ q ∷ rest) price → has_amount (entry_of tariff trip (next_start trip front) q.end q.fare) ≡ true
  unfolding may_serve
  has_amount_next front q rest price l = next_served tariff trip front q rest price l

  pub legs_cover : (sector trip 1).surface ≡ false → (front rest : List Part) (price : ℕ) → IsLawful tariff trip (front ++ rest) price → IsCover tariff trip (end_of front (length front)) (legs_of front rest)
  legs_cover flown front [] price l =
      let P : List Part → Type 0 = λ xs. end_of xs (length xs) ≡ count trip in
      subst P (append-nil front) (cover trip (front ++ []) (kept tariff trip (front ++ []) price l).cover).last
  legs_cover flown front (q ∷ rest) price l =
      let n : length (front ++ q ∷ rest) ≡ length front + suc (length rest) = length-append front (q ∷ rest) in
      let found = part_has_least tariff trip (front ++ q ∷ rest) price l (length front + 1) (omega arith) (omega arith) in
      let served : has_amount (entry_of tariff trip (next_start trip front) q.end q.fare) ≡ true = has_amount_next front q rest price l in
      let P : ℕ → Type 0 = λ a. IsServed tariff trip a (record { end = q.end; cost = or_nothing (fare_least tariff trip (next_start trip front) q.end q.fare) }) in
      let Q : List Part → Type 0 = λ xs. IsLawful tariff trip xs price in
      let R : ℕ → Type 0 = λ e. IsCover tariff trip e (legs_of (front ++ q ∷ []) rest) in (
        subst P (sym (begins_behind trip front flown)) (record {
          entry = entry_of tariff trip (next_start trip front) q.end q.fare;
          there = amount_is_entry tariff trip (next_start trip front) q.end q.fare (next_rises tariff trip front q rest price l) (next_within tariff trip front q rest price l) served;
          costs = some_least (fare_least tariff trip (next_start trip front) q.end q.fare) found.0 (sym (leg_costs front q rest) ∙ found.1);
        }),
        subst R (end_behind front q) (legs_cover flown (front ++ q ∷ []) rest price (subst Q (sym (append_assoc front (q ∷ []) rest)) l)),
      )

  pub legs_total : (all front rest : List Part) → all ≡ front ++ rest → total (legs_of front rest) ≡ sum_by (part_least tariff trip all) (range_with_len (length front + 1) (length rest))
  legs_total all front [] e = refl
  legs_total all front (q ∷ rest) e =
      let n : length (front ++ q ∷ []) ≡ length front + 1 = length-append front (q ∷ []) ∙ omega arith in
      let P : List Part → Type 0 = λ xs. or_nothing (fare_least tariff trip (next_start trip front) q.end q.fare) ≡ part_least tariff trip xs (length front + 1) in
      let here : or_nothing (fare_least tariff trip (next_start trip front) q.end q.fare) ≡ part_least tariff trip all (length front + 1) = subst P (sym e) (ap or_nothing (sym (leg_costs front q rest))) in
      let Q : ℕ → Type 0 = λ m. total (legs_of (front ++ q ∷ []) rest) ≡ sum_by (part_least tariff trip all) (range_with_len (m + 1) (length rest)) in
      let more : total (legs_of (front ++ q ∷ []) rest) ≡ sum_by (part_least tariff trip all) (range_with_len (length front + 1 + 1) (length rest)) = subst Q n (legs_total all (front ++ q ∷ []) rest (e ∙ sym (append_assoc front (q ∷ []) rest))) in
      let a : total (legs_of front (q ∷ rest)) ≡ or_nothing (fare_least tariff trip (next_start trip front) q.end q.fare) + total (legs_of (front ++ q ∷ []) rest) = sum_by-cons cost_of (record { end = q.end; cost = or_nothing (fare_least tariff trip (next_start trip front) q.end q.fare) }) (legs_of (front ++ q ∷ []) rest) in
      let b : sum_by (part_least tariff trip all) (range_with_len (length front + 1) (suc (length rest))) ≡ part_least tariff trip all (length front + 1) + sum_by (part_least tariff trip all) (range_with_len (length front + 1 + 1) (length rest)) = sum_by-cons (part_least tariff trip all) (length front + 1) (range_with_len (length front + 1 + 1) (length rest)) in
      omega arith
