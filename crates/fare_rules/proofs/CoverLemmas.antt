-- Parts that cover a trip: each ends between its start and the trip's end, and the last at the trip's end.
use Rattle.std.proofs.Common.{◌≡◌, ℕ, suc, ◌+◌, ◌-◌, ◌<◌, ◌≤◌, Bool, true, false, cond, ◌||◌, List, [], ◌∷◌, ◌++◌, length, refl, ap, arith}
use Rattle.std.specs.Prelude.{Option, Some, None, find}
use Rattle.std.specs.Option.{option_or}
use Rattle.std.proofs.lemmas.Bool.{leb-false, ltb-false, eqb-true, lt-leb}
use Rattle.std.proofs.Math.ListN.{get_or-append, length-append}
use Rattle.fare_trip.specs.Itinerary.{Itinerary, count}
use Rattle.fare_rules.specs.declared.part.Part.{Part}
use Rattle.fare_rules.specs.Span.{is_surface}
use Rattle.fare_rules.specs.Construction.{uncovered, is_misended, ends_early, places, start_of, begin_after, end_of, no_part}
use Rattle.fare_rules.proofs.NumberLemmas.{find_none}

-- parts cover a trip
pub record IsCover (trip : Itinerary) (parts : List Part) : Type 0 where
  pub above : (k : ℕ) → 1 ≤ k → k ≤ length parts → start_of trip parts k < end_of parts k
  pub within : (k : ℕ) → 1 ≤ k → k ≤ length parts → end_of parts k ≤ count trip
  pub last : end_of parts (length parts) ≡ count trip

true_false : true ≡ false → ⊥
true_false e = cc

some_none : (k : ℕ) → Some k ≡ None → ⊥
some_none k e = cc

pub neither : (a b : Option ℕ) → option_or a b ≡ None → (a ≡ None) × (b ≡ None)
neither None b e = (refl, e)
neither (Some k) b e = absurd (some_none k e)

pub both_false : (a b : Bool) → (a || b) ≡ false → (a ≡ false) × (b ≡ false)
both_false false b e = (refl, e)
both_false true b e = absurd (true_false e)

last_end : (b : Bool) (k : ℕ) → cond b None (Some k) ≡ None → b ≡ true
last_end true k e = refl
last_end false k e = absurd (some_none k e)

pub cover : (trip : Itinerary) (parts : List Part) → uncovered trip parts ≡ None → IsCover trip parts
unfolding uncovered
cover trip parts e =
    let both = neither (find (is_misended trip parts) (places parts)) (ends_early trip parts) e in
    let fails = λ (k : ℕ) (low : 1 ≤ k) (high : k ≤ length parts). both_false _ _ (find_none (is_misended trip parts) 1 (length parts + 1) both.0 k low (omega arith)) in
    record {
      above = λ k low high. leb-false _ _ (fails k low high).0;
      within = λ k low high. ltb-false _ _ (fails k low high).1;
      last = eqb-true _ _ (last_end _ _ both.1);
    }

-- what comes after a point begins there or later
pub begins_later : (trip : Itinerary) (e : ℕ) → e ≤ begin_after trip e
begins_later trip e =
    elim (is_surface trip (e + 1)) as (λ b. e ≤ cond b (e + 1) e) [ true ↦ omega arith | false ↦ omega arith ]

-- the parts of a list are not changed by others behind them
pub same_end : (parts rest : List Part) (k : ℕ) → 1 ≤ k → k ≤ length parts → end_of (parts ++ rest) k ≡ end_of parts k
same_end parts rest k low high = ap (λ (p : Part). p.end) (get_or-append parts rest no_part (k - 1) (omega arith))

-- a list that covers a trip has nothing behind it in a list that covers it too
pub cover_is_whole : (trip : Itinerary) (parts : List Part) (next : Part) (rest : List Part) → IsCover trip parts
    → IsCover trip (parts ++ next ∷ rest) → ⊥
cover_is_whole trip [] next rest a b =
    let e : end_of (next ∷ rest) 1 ≤ count trip = b.within 1 (omega arith) (omega arith) in
    let h : start_of trip (next ∷ rest) 1 < end_of (next ∷ rest) 1 = b.above 1 (omega arith) (omega arith) in
    let l : end_of [] 0 ≡ count trip = a.last in
    omega arith
cover_is_whole trip (x ∷ xs) next rest a b =
    let parts : List Part = x ∷ xs in
    let k : ℕ = length parts + 1 in
    let n : length (parts ++ next ∷ rest) ≡ length parts + suc (length rest) = length-append parts (next ∷ rest) in
    let e : end_of (parts ++ next ∷ rest) k ≤ count trip = b.within k (omega arith) (omega arith) in
    let h : start_of trip (parts ++ next ∷ rest) k < end_of (parts ++ next ∷ rest) k = b.above k (omega arith) (omega arith) in
    let m : end_of (parts ++ next ∷ rest) (length parts) ≡ end_of parts (length parts) = same_end parts (next ∷ rest) (length parts) (omega arith) (omega arith) in
    let g : begin_after trip (end_of (parts ++ next ∷ rest) (k - 1)) < end_of (parts ++ next ∷ rest) k = (rw (lt-leb k 1 (omega arith)) at h) in
    let s : k - 1 ≡ length parts = omega arith in
    let c : count trip ≤ begin_after trip (end_of (parts ++ next ∷ rest) (k - 1)) = rw (s, m, a.last) (begins_later trip (count trip)) in
    omega arith
