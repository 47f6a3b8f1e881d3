-- The parts of a line that doesn't differ from a trip go on from part to part within the trip.
use Rattle.std.proofs.Common.{◌≡◌, ◌<◌, ◌≤◌, ◌+◌, ◌-◌, ◌∙◌, ℕ, zero, suc, Bool, true, false, cond, ◌&&◌, ◌||◌, List, [], ◌∷◌, ◌++◌, length, map, take, drop, get_or, nat_lt, nat_le, None, Some, Option, arith, refl, ap, subst}
use Rattle.std.specs.Prelude.{bytes_eq}
use Rattle.std.specs.List.{list_all}
use Rattle.std.proofs.lemmas.Bool.{ltb-false, leb-false}
use Rattle.std.proofs.lemmas.List.{length-drop, length-map, length-take-le}
use Rattle.fare_codes.specs.Codes.{is_city}
use Rattle.fare_codes.specs.declared.city.City.{City}
use Rattle.fare_trip.specs.Itinerary.{Itinerary, count}
use Rattle.fare_rules.specs.Construction.{begin_after, end_of, no_part, start_of}
use Rattle.fare_rules.specs.Span.{is_surface}
use Rattle.fare_units.specs.Advance.{Advances}
use Rattle.fare_line.specs.declared.line.part.LinePart.{LinePart}
use Rattle.fare_line.specs.declared.line.sector.LineSector.{LineSector}
use Rattle.fare_line.specs.Line.{CalculationLine, are_parts, flown_count, gap_count, is_amount, is_flown, is_led, is_line, is_plus, is_rate}
use Rattle.fare_audit.specs.declared.legs.Leg.{Leg}
use Rattle.fare_audit.specs.declared.legs.Leg.TheVariants.{Flown}
use Rattle.fare_audit.specs.Filing.{bare_part, bare_parts}
use Rattle.fare_audit.specs.Legs.{difference, difference_from, is_unlike, legs_from, legs_of, part_legs}
use Rattle.fare_audit.proofs.LegLemmas.{leads, length-part_legs}

-- what it says of a first sector that line and trip don't differ
record Agrees (trip : Itinerary) (number : ℕ) (leg : Leg) (legs : List Leg) : Type 0 where
  within : number ≤ count trip
  alike : is_unlike trip number leg ≡ false
  rest : difference_from trip (number + 1) legs ≡ None

-- nothing comes of two tests that fail and what is behind them
neither : (a b : Bool) (k : ℕ) (rest : Option ℕ) → cond (a || b) (Some k) rest ≡ None → (a ≡ false) × (b ≡ false) × (rest ≡ None)
neither true b k rest h = cc
neither false true k rest h = cc
neither false false k rest h = (refl, refl, h)

agrees : (trip : Itinerary) (number : ℕ) (leg : Leg) (legs : List Leg) → difference_from trip number (leg ∷ legs) ≡ None → Agrees trip number leg legs
unfolding difference_from
agrees trip number leg legs h =
    let tests = neither (nat_lt (count trip) number) (is_unlike trip number leg) number (difference_from trip (number + 1) legs) h in
    record { within = ltb-false _ _ tests.0; alike = tests.1; rest = tests.2 }

-- where the first sectors don't differ the trip has them, and the others don't differ either
over : (trip : Itinerary) (front rest : List Leg) (number next : ℕ) → number + length front ≡ next → number ≤ count trip + 1
    → difference_from trip number (front ++ rest) ≡ None → (next ≤ count trip + 1) × (difference_from trip next rest ≡ None)
over trip [] rest number next e low h =
    let same : number ≡ next = omega (arith, e) in
    (omega arith, subst (λ (k : ℕ). difference_from trip k rest ≡ None) same h)
over trip (leg ∷ front) rest number next e low h =
    let first = agrees trip number leg (front ++ rest) h in
    let within : number ≤ count trip = first.within in
    over trip front rest (number + 1) next (omega (arith, e)) (omega arith) first.rest

-- each part that is left ends within the trip and above its start
abbrev pub Goes : Itinerary → ℕ → List LinePart → Type 0
Goes trip begun [] = Unit {0}
Goes trip begun (part ∷ parts) = (begin_after trip begun < part.end) × (part.end ≤ count trip) × Goes trip part.end parts

step_le : (b : Bool) (e : ℕ) → cond b (e + 1) e ≤ e + 1
step_le true e = omega arith
step_le false e = omega arith

first_of_four : (a b c d : Bool) → (a || b || c || d) ≡ false → a ≡ false
first_of_four false b c d h = refl
first_of_four true b c d h = cc

-- a part that begins with a gap ends behind it, and one that begins with a flown sector does not begin behind a gap
rises : (trip : Itinerary) (begun end n : ℕ) (gap : Option City) (flown : List LineSector) (rest : List Leg) → begun + gap_count gap < end
    → n ≡ end - (begun + gap_count gap) → n ≤ length flown → difference_from trip (begun + 1) (part_legs gap (take n flown) ++ rest) ≡ None
    → begin_after trip begun < end
rises trip begun end n (Some city) flown rest low is fits h = omega (arith, step_le (is_surface trip (begun + 1)) begun)
rises trip begun end n None [] rest low is fits h = absurd (omega arith)
rises trip begun end zero None (first ∷ flown) rest low is fits h = absurd (omega arith)
rises trip begun end (suc n) None (first ∷ flown) rest low is fits h =
    let agreed = agrees trip (begun + 1) (Flown first) (map Flown (take n flown) ++ rest) h in
    let flies : is_surface trip (begun + 1) ≡ false = first_of_four _ _ _ _ agreed.alike in
    rw flies (omega arith)

pub goes : (trip : Itinerary) (begun : ℕ) (flown : List LineSector) (parts : List LinePart) → begun ≤ count trip
    → are_parts begun (length flown) parts ≡ true → difference_from trip (begun + 1) (legs_from begun flown parts) ≡ None → Goes trip begun parts
unfolding legs_from
goes trip begun flown [] low shared h = tt
goes trip begun flown (part ∷ parts) low shared h =
    let lead = leads begun (length flown) part parts shared in
    let fits : flown_count begun part ≤ length flown = lead.fits in
    let begins : begun + gap_count part.gap < part.end = lead.begins in
    let front : List Leg = part_legs part.gap (take (flown_count begun part) flown) in
    let size : length front ≡ gap_count part.gap + length (take (flown_count begun part) flown) = length-part_legs part.gap (take (flown_count begun part) flown) in
    let taken : length (take (flown_count begun part) flown) ≡ flown_count begun part = length-take-le (flown_count begun part) flown fits in
    let behind = over trip front (legs_from part.end (drop (flown_count begun part) flown) parts) (begun + 1) (part.end + 1) (omega arith) (omega arith) h in
    let ends : part.end ≤ count trip = omega (arith, behind.0) in
    let left : length (drop (flown_count begun part) flown) ≡ length flown - flown_count begun part = length-drop (flown_count begun part) flown in
    let others : are_parts part.end (length (drop (flown_count begun part) flown)) parts ≡ true = rw left lead.rest in
    (rises trip begun part.end (flown_count begun part) part.gap flown (legs_from part.end (drop (flown_count begun part) flown) parts) begins refl fits h, ends, goes trip part.end (drop (flown_count begun part) flown) parts ends others behind.1)

ends_at : (trip : Itinerary) (begun : ℕ) (parts : List LinePart) → Goes trip begun parts → (i : ℕ) → (get_or (map bare_part parts) i no_part).end ≤ count trip
ends_at trip begun [] on i = omega arith
ends_at trip begun (part ∷ parts) on zero = on.1
ends_at trip begun (part ∷ parts) on (suc i) = ends_at trip part.end parts on.2 i

-- where the part before an index ends
end_before : ℕ → List LinePart → ℕ → ℕ
end_before begun parts zero = begun
end_before begun [] (suc i) = 0
end_before begun (part ∷ parts) (suc i) = end_before part.end parts i

rises_at : (trip : Itinerary) (begun : ℕ) (parts : List LinePart) → Goes trip begun parts → (i : ℕ) → i < length parts
    → begin_after trip (end_before begun parts i) < (get_or (map bare_part parts) i no_part).end
unfolding end_before
rises_at trip begun [] on i below = absurd (omega arith)
rises_at trip begun (part ∷ parts) on zero below = on.0
rises_at trip begun (part ∷ parts) on (suc i) below = rises_at trip part.end parts on.2 i (omega arith)

before_is : (begun : ℕ) (parts : List LinePart) (i : ℕ) → i < length parts → end_before begun parts (suc i) ≡ (get_or (map bare_part parts) i no_part).end
unfolding end_before
before_is begun [] i below = absurd (omega arith)
before_is begun (part ∷ parts) zero below = refl
before_is begun (part ∷ parts) (suc i) below = before_is part.end parts i (omega arith)

none_before : (begun : ℕ) (parts : List LinePart) → end_before begun parts 0 ≡ begun
unfolding end_before
none_before begun [] = refl
none_before begun (part ∷ parts) = refl

rises_from : (trip : Itinerary) (parts : List LinePart) → Goes trip 0 parts → (first : Bool) (k : ℕ) → nat_le k 1 ≡ first → 1 ≤ k
    → k ≤ length parts → start_of trip (map bare_part parts) k < end_of (map bare_part parts) k
rises_from trip parts on true k is low high =
    let above = rises_at trip 0 parts on (k - 1) (omega arith) in
    let some : 0 < end_of (map bare_part parts) k = omega (arith, above) in
    rw is some
rises_from trip parts on false k is low high =
    let second : 1 < k = leb-false _ _ is in
    let index : k - 1 ≡ suc (k - 1 - 1) = omega arith in
    let before : end_before 0 parts (k - 1) ≡ end_of (map bare_part parts) (k - 1) = ap (end_before 0 parts) index ∙ before_is 0 parts (k - 1 - 1) (omega arith) in
    let above = rises_at trip 0 parts on (k - 1) (omega arith) in
    rw is (subst (λ (e : ℕ). begin_after trip e < end_of (map bare_part parts) k) before above)

-- parts that go on advance
pub advance : (trip : Itinerary) (parts : List LinePart) → Goes trip 0 parts → Advances trip (map bare_part parts)
advance trip parts on = record {
  ends = λ k. ends_at trip 0 parts on (k - 1);
  rises = λ k low high. rises_from trip parts on (nat_le k 1) k refl low (let size : length (map bare_part parts) ≡ length parts = length-map parts bare_part in omega arith);
}

-- nothing comes of a choice between something and another 0
if_none : (b : Bool) (found : Option ℕ) → cond b found (Some 0) ≡ None → found ≡ None
if_none true found h = h
if_none false found h = cc

fourth_of_eight : (a b c d e f g h : Bool) → (a && b && c && d && e && f && g && h) ≡ true → d ≡ true
fourth_of_eight a b c d e f g h all = grind arith

pub shares : (line : CalculationLine) → is_line line ≡ true → are_parts 0 (length line.sectors) line.parts ≡ true
unfolding is_line
shares line h =
    fourth_of_eight (is_city line.from) (list_all is_flown line.sectors) (is_led line.parts) (are_parts 0 (length line.sectors) line.parts)
    (list_all is_plus line.plus) (nat_le (length line.plus) 16) (is_amount line.total) (is_rate line.roe) h

-- the parts of a line that doesn't differ from a trip advance
pub line_advances : (trip : Itinerary) (line : CalculationLine) → is_line line ≡ true → difference trip line ≡ None → Advances trip (bare_parts line)
line_advances trip line form same =
    let alike = if_none (bytes_eq line.from trip.from) (difference_from trip 1 (legs_of line)) same in
    advance trip line.parts (goes trip 0 line.sectors line.parts (omega arith) (shares line form) alike)

-- there are at most as many parts as sectors
few_parts : (begun flown : ℕ) (parts : List LinePart) → begun ≤ 16 → are_parts begun flown parts ≡ true → begun + length parts ≤ 16
few_parts begun flown [] low h = omega arith
few_parts begun flown (part ∷ parts) low h =
    let lead = leads begun flown part parts h in
    let begins : begun + gap_count part.gap < part.end = lead.begins in
    let others : part.end + length parts ≤ 16 = few_parts part.end (_) parts lead.ends lead.rest in
    omega arith

pub line_is_short : (line : CalculationLine) → is_line line ≡ true → length line.parts ≤ 16
line_is_short line form =
    let all = few_parts 0 (length line.sectors) line.parts (omega arith) (shares line form) in
    omega (arith, all)
