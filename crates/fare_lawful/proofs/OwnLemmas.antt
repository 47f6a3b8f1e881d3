-- The places of a unit: how they are gathered, and by their index.
use Rattle.std.proofs.Common.{◌≡◌, ℕ, ◌+◌, ◌-◌, ◌<◌, ◌≤◌, List, [], ◌∷◌, ◌++◌, length, get_or, filter, All, refl, ap, subst, ◌∙◌, sym, arith, suc}
use Rattle.std.proofs.lemmas.List.{append-nil}
use Rattle.std.proofs.lemmas.Bool.{eq-eqb, ne_eqb}
use Rattle.std.proofs.lemmas.List.Elements.{All-filter, All-from_get_or}
use Rattle.std.proofs.lemmas.List.FromFn.{length-range_with_len, get_or-range_with_len}
use Rattle.fare_rules.specs.declared.part.Part.{Part}
use Rattle.fare_rules.specs.Numbers.{numbers}
use Rattle.fare_rules.specs.Construction.{own, places, first_of, last_of, is_own, unit_of}
use Rattle.fare_lawful.specs.Places.{IsPlace, ArePlaces}
use Rattle.fare_rules.proofs.NumberLemmas.{filter_done}
use Rattle.fare_lawful.proofs.Ranges.{filter_more, filter_over}

-- a place that belongs to the unit is put to those that were gathered
pub own_more : (kept : List ℕ) (parts : List Part) (unit first past : ℕ) → first < past → unit_of parts first ≡ unit → (kept ++ first ∷ []) ++ filter (is_own parts unit) (numbers (first + 1) past) ≡ kept ++ filter (is_own parts unit) (numbers first past)
own_more kept parts unit first past h own = filter_more kept (is_own parts unit) first past h (eq-eqb _ _ own)

-- and no other one is
pub own_over : (kept : List ℕ) (parts : List Part) (unit first past : ℕ) → first < past → (unit_of parts first ≡ unit → ⊥) → kept ++ filter (is_own parts unit) (numbers (first + 1) past) ≡ kept ++ filter (is_own parts unit) (numbers first past)
own_over kept parts unit first past h other = filter_over kept (is_own parts unit) first past h (ne_eqb _ _ other)

-- at the end none is left
pub own_all : (kept : List ℕ) (parts : List Part) (unit first past : ℕ) → past ≤ first → kept ++ filter (is_own parts unit) (numbers first past) ≡ kept
own_all kept parts unit first past h = ap (λ more. kept ++ more) (filter_done (is_own parts unit) first past h) ∙ append-nil kept

-- the last of some places stands at the end
pub last_at : (own : List ℕ) → last_of own ≡ get_or own (length own - 1) 0
last_at [] = refl
last_at (k ∷ []) = refl
last_at (k ∷ next ∷ rest) =
    last_at (next ∷ rest) ∙ ap (λ i. get_or (k ∷ next ∷ rest) i 0) (later (length rest))
  where
    later : (n : ℕ) → suc (suc n - 1) ≡ suc (suc n) - 1
    later n = omega arith

-- the numbers of a range of places are places
places_are_places : (parts : List Part) → All (IsPlace parts) (places parts)
places_are_places parts =
    All-from_get_or (IsPlace parts) (places parts) 0
    (λ i h. let inside : i < length parts = omega (arith, length-range_with_len 1 (length parts + 1 - 1)) in
    let at : get_or (places parts) i 0 ≡ 1 + i = get_or-range_with_len 1 (length parts + 1 - 1) i 0 (omega arith) in
    rw at (omega arith, omega arith))

-- the places of a unit are places
pub own_are_places : (parts : List Part) (unit : ℕ) → ArePlaces parts (own parts unit)
unfolding own
own_are_places parts unit = record { all = All-filter (is_own parts unit) (IsPlace parts) (places parts) (places_are_places parts) }

-- each of some places is one
pub place_at : (parts : List Part) (own : List ℕ) (i : ℕ) → ArePlaces parts own → i < length own → IsPlace parts (get_or own i 0)
place_at parts own i h inside = h.all i 0 inside

pub first_is_place : (parts : List Part) (own : List ℕ) → ArePlaces parts own → 1 ≤ length own → IsPlace parts (first_of own)
first_is_place parts [] h some = absurd (omega arith)
first_is_place parts (k ∷ rest) h some = h.all 0 0 some

pub last_is_place : (parts : List Part) (own : List ℕ) → ArePlaces parts own → 1 ≤ length own → IsPlace parts (last_of own)
last_is_place parts own h some = rw (last_at own) (h.all (length own - 1) 0 (omega arith))

-- and so are numbers that are the places of a unit
pub they_are_places : (parts : List Part) (unit : ℕ) (items : List ℕ) → items ≡ own parts unit → ArePlaces parts items
they_are_places parts unit items e = let P : List ℕ → Type 0 = λ xs. ArePlaces parts xs in subst P (sym e) (own_are_places parts unit)
