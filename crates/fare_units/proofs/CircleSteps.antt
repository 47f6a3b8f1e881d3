-- The greatest of the references that are looked at, one point or one part on.
use Rattle.std.proofs.Common.{◌≡◌, ℕ, ◌+◌, ◌-◌, ◌<◌, ◌≤◌, true, false, List, [], ◌∷◌, ◌++◌, length, get_or, drop, filter, Option, Some, None, All, subst, refl, sym, arith, add-one, drop-cons}
use Rattle.std.proofs.Math.ListN.{drop_of_length-le}
use Rattle.std.proofs.lemmas.List.Elements.{All-filter, All-from_get_or}
use Rattle.std.proofs.lemmas.List.FromFn.{length-range_with_len, get_or-range_with_len}
use Rattle.fare_trip.specs.Itinerary.{Itinerary, sector}
use Rattle.fare_rules.specs.declared.part.Part.{Part}
use Rattle.fare_codes.specs.Amounts.{greater}
use Rattle.fare_rules.specs.Numbers.{numbers, greatest_of}
use Rattle.fare_rules.specs.Span.{is_stopover}
use Rattle.fare_rules.specs.Circle.{is_own_sector, own_sectors}
use Rattle.fare_rules.proofs.NumberLemmas.{filter_next, filter_done, greater_grouped}

greater_nothing : (a : Option ℕ) → greater a None ≡ a
greater_nothing None = refl
greater_nothing (Some a) = refl

-- the greatest that was found and that is left to look for, where the next point is a stopover
pub stopovers_more : (found : Option ℕ) (amount : ℕ → Option ℕ) (trip : Itinerary) (first past : ℕ) → first < past → (sector trip first).stop ≡ true → greater (greater found (amount first)) (greatest_of amount (filter (is_stopover trip) (numbers (first + 1) past))) ≡ greater found (greatest_of amount (filter (is_stopover trip) (numbers first past)))
stopovers_more found amount trip first past h stop =
    rw (filter_next (is_stopover trip) first past h, stop) (greater_grouped found (amount first) (greatest_of amount (filter (is_stopover trip) (numbers (first + 1) past))))

-- and where it is none
pub stopovers_over : (found : Option ℕ) (amount : ℕ → Option ℕ) (trip : Itinerary) (first past : ℕ) → first < past → (sector trip first).stop ≡ false → greater found (greatest_of amount (filter (is_stopover trip) (numbers (first + 1) past))) ≡ greater found (greatest_of amount (filter (is_stopover trip) (numbers first past)))
stopovers_over found amount trip first past h stop = rw (filter_next (is_stopover trip) first past h, stop) refl

pub stopovers_all : (found : Option ℕ) (amount : ℕ → Option ℕ) (trip : Itinerary) (first past : ℕ) → past ≤ first → greater found (greatest_of amount (filter (is_stopover trip) (numbers first past))) ≡ found
stopovers_all found amount trip first past h = rw (filter_done (is_stopover trip) first past h) (greater_nothing found)

-- the greatest of some points and one more
pub with_end : (amount : ℕ → Option ℕ) (xs : List ℕ) (x : ℕ) → greatest_of amount (xs ++ x ∷ []) ≡ greater (greatest_of amount xs) (amount x)
with_end amount [] x = greater_nothing (amount x)
with_end amount (y ∷ ys) x = rw (with_end amount ys x) (sym (greater_grouped (amount y) (greatest_of amount ys) (amount x)))

-- the greatest that was found and of the parts that are left
pub greatest_left : (found : Option ℕ) (amount : ℕ → Option ℕ) (own : List ℕ) (i : ℕ) → i < length own → greater (greater found (amount (get_or own i 0))) (greatest_of amount (drop (i + 1) own)) ≡ greater found (greatest_of amount (drop i own))
greatest_left found amount own i h =
    let e : drop i own ≡ get_or own i 0 ∷ drop (i + 1) own = rw (add-one, drop-cons own i 0) refl in
    rw e (greater_grouped found (amount (get_or own i 0)) (greatest_of amount (drop (i + 1) own)))

pub greatest_done : (found : Option ℕ) (amount : ℕ → Option ℕ) (own : List ℕ) (i : ℕ) → length own ≤ i → greater found (greatest_of amount (drop i own)) ≡ found
greatest_done found amount own i h = rw (drop_of_length-le own h) (greater_nothing found)

-- the sectors up to a point are numbered from 1 to it, and so are those that are a unit's own
abbrev pub IsUpTo : ℕ → ℕ → Type 0
IsUpTo i n = (1 ≤ n) × (n ≤ i)

numbers_up_to : (i : ℕ) → All (IsUpTo i) (numbers 1 (i + 1))
numbers_up_to i =
    All-from_get_or (IsUpTo i) (numbers 1 (i + 1)) 0
    (λ j h. let inside : j < i = omega (arith, length-range_with_len 1 (i + 1 - 1)) in
    let at : get_or (numbers 1 (i + 1)) j 0 ≡ 1 + j = get_or-range_with_len 1 (i + 1 - 1) j 0 (omega arith) in
    rw at (omega arith, omega arith))

pub own_sectors_up_to : (trip : Itinerary) (parts : List Part) (own : List ℕ) (i : ℕ) (items : List ℕ) → items ≡ own_sectors trip parts own i → All (IsUpTo i) items
unfolding own_sectors
own_sectors_up_to trip parts own i items e =
    let P : List ℕ → Type 0 = λ xs. All (IsUpTo i) xs in
    subst P (sym e) (All-filter (is_own_sector trip parts own) (IsUpTo i) (numbers 1 (i + 1)) (numbers_up_to i))
