-- The sectors of a line, and where they and a trip differ, one sector at a time.
use Rattle.std.proofs.Common.{◌≡◌, ◌<◌, ◌≤◌, ◌+◌, ◌-◌, ◌∙◌, ℕ, Bool, true, false, cond, ◌&&◌, ◌||◌, List, [], ◌∷◌, ◌++◌, length, take, drop, get_or, nat_lt, nat_le, None, Some, Option, arith, refl, ap, sym, append_assoc}
use Rattle.std.proofs.lemmas.Bool.{cond-false, cond-true, leb-true, ltb-true}
use Rattle.std.proofs.lemmas.List.{drop_more, drop_all, length-drop, length-map}
use Rattle.fare_codes.specs.declared.city.City.{City}
use Rattle.fare_trip.specs.Itinerary.{Itinerary, count}
use Rattle.fare_line.specs.declared.line.part.LinePart.{LinePart}
use Rattle.fare_line.specs.declared.line.sector.LineSector.{LineSector}
use Rattle.fare_line.specs.Line.{are_parts, flown_count, gap_count, is_priced}
use Rattle.fare_audit.specs.declared.legs.Leg.{Leg}
use Rattle.fare_audit.specs.declared.legs.Leg.TheVariants.{Flown}
use Rattle.fare_audit.specs.Legs.{difference_from, is_unlike, legs_from, part_legs}

-- each of five tests holds
all_five : (a b c d e : Bool) → (a && b && c && d && e) ≡ true → (a ≡ true) × (b ≡ true) × (c ≡ true) × (d ≡ true) × (e ≡ true)
all_five a b c d e h = grind arith

-- what the test of parts says of the first
pub record Leads (begun flown : ℕ) (part : LinePart) (parts : List LinePart) : Type 0 where
  pub begins : begun + gap_count part.gap < part.end
  pub ends : part.end ≤ 16
  pub fits : flown_count begun part ≤ flown
  pub rest : are_parts part.end (flown - flown_count begun part) parts ≡ true

pub leads : (begun flown : ℕ) (part : LinePart) (parts : List LinePart) → are_parts begun flown (part ∷ parts) ≡ true → Leads begun flown part parts
unfolding are_parts
leads begun flown part parts h =
    let tests = all_five (is_priced part) (nat_lt (begun + gap_count part.gap) part.end) (nat_le part.end 16) (nat_le (flown_count begun part) flown) (are_parts part.end (flown - flown_count begun part) parts) h in
    record { begins = ltb-true _ _ tests.1; ends = leb-true _ _ tests.2; fits = leb-true _ _ tests.3; rest = tests.4 }

-- the part at an index, and those behind it
pub part_at : (parts : List LinePart) (i : ℕ) (part : LinePart) → i < length parts → part ≡ get_or parts i part → drop i parts ≡ part ∷ drop (i + 1) parts
part_at parts i part below is = drop_more parts i part below ∙ ap (λ (first : LinePart). first ∷ drop (i + 1) parts) (sym is)

-- what holds of the part at an index
pub leads_at : (begun flown : ℕ) (parts : List LinePart) (i : ℕ) (part : LinePart) → i < length parts → part ≡ get_or parts i part
    → are_parts begun flown (drop i parts) ≡ true → Leads begun flown part (drop (i + 1) parts)
leads_at begun flown parts i part below is shared =
    let split = part_at parts i part below is in
    let first : are_parts begun flown (part ∷ drop (i + 1) parts) ≡ true = rw split at shared in
    leads begun flown part (drop (i + 1) parts) first

-- the parts behind a part share the sectors that it leaves
pub shared_behind : (begun : ℕ) (sectors others : List LineSector) (part : LinePart) (parts : List LinePart) → Leads begun (length sectors) part parts
    → others ≡ drop (flown_count begun part) sectors → are_parts part.end (length others) parts ≡ true
shared_behind begun sectors others part parts lead back =
    let left : length others ≡ length sectors - flown_count begun part = ap length back ∙ length-drop (flown_count begun part) sectors in
    rw left lead.rest

-- the sectors of the parts from an index on
legs_at : (begun : ℕ) (sectors : List LineSector) (parts : List LinePart) (i : ℕ) (part : LinePart) → i < length parts → part ≡ get_or parts i part
    → legs_from begun sectors (drop i parts) ≡ part_legs part.gap (take (flown_count begun part) sectors) ++ legs_from part.end (drop (flown_count begun part) sectors) (drop (i + 1) parts)
unfolding legs_from
legs_at begun sectors parts i part below is = rw (part_at parts i part below is) refl

-- no part is left
pub legs_past : (begun : ℕ) (sectors : List LineSector) (parts : List LinePart) (i : ℕ) → length parts ≤ i → legs_from begun sectors (drop i parts) ≡ []
unfolding legs_from
legs_past begun sectors parts i past = rw (drop_all i parts past) refl

-- the sectors of one part more are there
pub legs_step : (now new : List Leg) (begun : ℕ) (sectors own others : List LineSector) (parts : List LinePart) (i : ℕ) (part : LinePart)
    → i < length parts → part ≡ get_or parts i part
    → own ≡ take (flown_count begun part) sectors → others ≡ drop (flown_count begun part) sectors → new ≡ now ++ part_legs part.gap own
    → new ++ legs_from part.end others (drop (i + 1) parts) ≡ now ++ legs_from begun sectors (drop i parts)
legs_step now new begun sectors own others parts i part below is front back put =
    let whole = legs_at begun sectors parts i part below is in
    let more : now ++ legs_from begun sectors (drop i parts) ≡ now ++ part_legs part.gap own ++ legs_from part.end others (drop (i + 1) parts) =
    rw (whole, front, back) (sym (append_assoc now (part_legs part.gap (take (flown_count begun part) sectors)) (legs_from part.end (drop (flown_count begun part) sectors) (drop (i + 1) parts)))) in
    rw put (sym more)

-- a part has as many sectors as its gap and its flown ones
pub length-part_legs : (gap : Option City) (flown : List LineSector) → length (part_legs gap flown) ≡ gap_count gap + length flown
length-part_legs None flown = omega (arith, length-map flown Flown)
length-part_legs (Some city) flown = omega (arith, length-map flown Flown)

-- what is left from an index on, by the sector there
difference_next : (trip : Itinerary) (legs : List Leg) (i : ℕ) (leg : Leg) → i < length legs → leg ≡ get_or legs i leg
    → difference_from trip (i + 1) (drop i legs)
    ≡ cond (nat_lt (count trip) (i + 1) || is_unlike trip (i + 1) leg) (Some (i + 1)) (difference_from trip (i + 1 + 1) (drop (i + 1) legs))
unfolding difference_from
difference_next trip legs i leg below is =
    let split : drop i legs ≡ leg ∷ drop (i + 1) legs = drop_more legs i leg below ∙ ap (λ (first : Leg). first ∷ drop (i + 1) legs) (sym is) in
    rw split refl

-- the first sector that differs is found there
pub difference_stops : (trip : Itinerary) (legs : List Leg) (i : ℕ) (leg : Leg) → i < length legs → leg ≡ get_or legs i leg
    → (nat_lt (count trip) (i + 1) || is_unlike trip (i + 1) leg) ≡ true → difference_from trip (i + 1) (drop i legs) ≡ Some (i + 1)
difference_stops trip legs i leg below is differs =
    difference_next trip legs i leg below is ∙ cond-true (nat_lt (count trip) (i + 1) || is_unlike trip (i + 1) leg) (Some (i + 1)) (difference_from trip (i + 1 + 1) (drop (i + 1) legs)) differs

-- and one that doesn't is passed
pub difference_passes : (trip : Itinerary) (legs : List Leg) (i : ℕ) (leg : Leg) → i < length legs → leg ≡ get_or legs i leg
    → (nat_lt (count trip) (i + 1) || is_unlike trip (i + 1) leg) ≡ false
    → difference_from trip (i + 1) (drop i legs) ≡ difference_from trip (i + 1 + 1) (drop (i + 1) legs)
difference_passes trip legs i leg below is agrees =
    difference_next trip legs i leg below is ∙ cond-false (nat_lt (count trip) (i + 1) || is_unlike trip (i + 1) leg) (Some (i + 1)) (difference_from trip (i + 1 + 1) (drop (i + 1) legs)) agrees

-- and where none is left
pub difference_done : (trip : Itinerary) (legs : List Leg) (i : ℕ) → length legs ≤ i
    → difference_from trip (i + 1) (drop i legs) ≡ cond (nat_le (i + 1) (count trip)) (Some (i + 1)) None
unfolding difference_from
difference_done trip legs i past = rw (drop_all i legs past) refl
