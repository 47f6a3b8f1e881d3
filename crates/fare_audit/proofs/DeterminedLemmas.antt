-- A line determines its construction.
use Rattle.std.proofs.Common.{◌≡◌, ◌<◌, ◌+◌, ◌-◌, ◌∙◌, ℕ, zero, suc, false, List, [], ◌∷◌, length, map, get_or, None, Some, Option, arith, refl, ap, sym, subst}
use Rattle.std.specs.Prelude.{IsSomeAnd, is_none, option_and_then, slice_get, unwrap_or, ◌↔◌}
use Rattle.std.specs.List.{range_with_len}
use Rattle.std.proofs.lemmas.List.{length-map}
use Rattle.std.proofs.lemmas.List.FromFn.{get_or-map-range_with_len, length-map-range_with_len}
use Rattle.std.proofs.lemmas.Simd.{map-map}
use Rattle.fare_codes.specs.declared.month_day.MonthDay.{MonthDay}
use Rattle.fare_trip.specs.Itinerary.{Itinerary}
use Rattle.fare_records.specs.declared.fare_key.FareKey.{FareKey}
use Rattle.fare_tariff.specs.Filed.{FilesFareOn}
use Rattle.fare_tariff.specs.Lookup.{fare_number}
use Rattle.fare_tariff.specs.Tariff.{Tariff}
use Rattle.fare_rules.specs.declared.part.Part.{Part}
use Rattle.fare_rules.specs.Construction.{no_part, part_at, places}
use Rattle.fare_rules.proofs.NumberLemmas.{find_none}
use Rattle.fare_line.specs.declared.line.part.LinePart.{LinePart}
use Rattle.fare_line.specs.Line.{CalculationLine}
use Rattle.fare_audit.specs.Determined.{FilesPart, IsConstructionOf, without_fare}
use Rattle.fare_audit.specs.Filing.{bare_part, bare_parts, construction_of, key_of, lacks_record, record_for, record_of, recorded_part, season_day, unrecorded}

-- parts with the same end, unit and fare are the same
same_part : (a b : Part) → a.end ≡ b.end → a.unit ≡ b.unit → a.fare ≡ b.fare → a ≡ b
same_part a b ends units fares =
    let made : ℕ → ℕ → ℕ → Part = λ e u f. record { end = e; unit = u; fare = f } in
    ap (λ (e : ℕ). made e a.unit a.fare) ends ∙ ap (λ (u : ℕ). made b.end u a.fare) units ∙ ap (λ (f : ℕ). made b.end b.unit f) fares

same_parts : (xs ys : List Part) → map without_fare xs ≡ map without_fare ys
    → ((k : ℕ) → k < length xs → (get_or xs k no_part).fare ≡ (get_or ys k no_part).fare) → xs ≡ ys
same_parts [] [] bare fares = refl
same_parts [] (y ∷ ys) bare fares = cc
same_parts (x ∷ xs) [] bare fares = cc
same_parts (x ∷ xs) (y ∷ ys) bare fares =
    let first : without_fare x ≡ without_fare y = cc in
    let rest : map without_fare xs ≡ map without_fare ys = cc in
    let head : x ≡ y = same_part x y (ap (λ (p : Part). p.end) first) (ap (λ (p : Part). p.unit) first) (fares 0 (omega arith)) in
    let tail : xs ≡ ys = same_parts xs ys rest (λ k below. fares (suc k) (omega arith)) in
    cc

-- an edition has one fare of a key on a day
abbrev pub HasOneFare : Tariff → Type 0
HasOneFare tariff = (key : FareKey) (on : MonthDay) (a b : ℕ) → FilesFareOn tariff key on a → FilesFareOn tariff key on b → a ≡ b

-- and the look-up answers its number
abbrev pub FindsFares : Tariff → Type 0
FindsFares tariff = (key : FareKey) (on : MonthDay) (n : ℕ) → (fare_number tariff key on ≡ Some n) ↔ FilesFareOn tariff key on n

files_one : (tariff : Tariff) → HasOneFare tariff → (found : Option LinePart) (key : LinePart → FareKey) (on : MonthDay) (a b : ℕ)
    → IsSomeAnd found (λ part. FilesFareOn tariff (key part) on a) → IsSomeAnd found (λ part. FilesFareOn tariff (key part) on b) → a ≡ b
files_one tariff law None key on a b p q = absurd p
files_one tariff law (Some part) key on a b p q = law (key part) on a b p q

-- a line has one construction
pub construction_one : (tariff : Tariff) → HasOneFare tariff → (trip : Itinerary) (line : CalculationLine) (parts others : List Part)
    → IsConstructionOf tariff trip line parts → IsConstructionOf tariff trip line others → parts ≡ others
construction_one tariff law trip line parts others p q =
    let bare : map without_fare parts ≡ map without_fare others = p.bare ∙ sym q.bare in
    let size : length parts ≡ length others = sym (length-map parts without_fare) ∙ ap length bare ∙ length-map others without_fare in
    same_parts parts others bare
    (λ k below. let back : k + 1 - 1 ≡ k = omega arith in
    let same : (part_at parts (k + 1)).fare ≡ (part_at others (k + 1)).fare =
    files_one tariff law (slice_get line.parts (k + 1 - 1)) (key_of tariff trip line (k + 1)) (season_day trip line (k + 1)) (part_at parts (k + 1)).fare (part_at others (k + 1)).fare
    (p.filed (k + 1) (omega arith) (omega arith)) (q.filed (k + 1) (omega arith) (omega arith)) in
    subst (λ (i : ℕ). (get_or parts i no_part).fare ≡ (get_or others i no_part).fare) back same)

-- ---- the construction of the look-ups

mapped : (f : ℕ → Part) (xs : List Part) (a : ℕ) → ((k : ℕ) → k < length xs → f (a + k) ≡ get_or xs k no_part) → map f (range_with_len a (length xs)) ≡ xs
mapped f [] a at = refl
mapped f (x ∷ xs) a at =
    let none : a + 0 ≡ a = omega arith in
    let first : f a ≡ x = sym (ap f none) ∙ at 0 (omega arith) in
    let rest : map f (range_with_len (a + 1) (length xs)) ≡ xs =
    mapped f xs (a + 1) (λ k below. let shift : (a + 1) + k ≡ a + suc k = omega arith in ap f shift ∙ at (suc k) (omega arith)) in
    ap (λ (p : Part). p ∷ map f (range_with_len (a + 1) (length xs))) first ∙ ap (λ (ps : List Part). x ∷ ps) rest

bare_at : (parts : List LinePart) (k : ℕ) → without_fare (get_or (map bare_part parts) k no_part) ≡ get_or (map bare_part parts) k no_part
bare_at [] k = refl
bare_at (part ∷ parts) zero = refl
bare_at (part ∷ parts) (suc k) = bare_at parts k

bare_of : (tariff : Tariff) (trip : Itinerary) (line : CalculationLine) → map without_fare (construction_of tariff trip line) ≡ bare_parts line
unfolding construction_of
bare_of tariff trip line =
    let bare : List Part = bare_parts line in
    let of_place : ℕ → Part = λ k. without_fare (recorded_part tariff trip line k) in
    let size : length bare + 1 - 1 ≡ length bare = omega arith in
    map-map without_fare (recorded_part tariff trip line) (places bare)
    ∙ ap (λ (n : ℕ). map of_place (range_with_len 1 n)) size
    ∙ mapped of_place bare 1
    (λ k below. let back : 1 + k - 1 ≡ k = omega arith in
    ap (λ (i : ℕ). without_fare (get_or bare i no_part)) back ∙ bare_at line.parts k)

found_some : (answer : Option ℕ) (P : ℕ → Type 0) → ((n : ℕ) → answer ≡ Some n → P n) → is_none answer ≡ false → P (unwrap_or answer 0)
found_some None P law h = absurd (cc h)
found_some (Some n) P law h = law n refl

files_of : (found : Option LinePart) (number : LinePart → Option ℕ) (P : LinePart → ℕ → Type 0) → ((part : LinePart) (n : ℕ) → number part ≡ Some n → P part n)
    → is_none (option_and_then number found) ≡ false → IsSomeAnd found (λ part. P part (unwrap_or (option_and_then number found) 0))
files_of None number P law h = absurd (cc h)
files_of (Some part) number P law h = found_some (number part) (P part) (law part) h

filed_at : (tariff : Tariff) → FindsFares tariff → (trip : Itinerary) (line : CalculationLine) (k : ℕ) → lacks_record tariff trip line k ≡ false
    → FilesPart tariff trip line k (recorded_part tariff trip line k).fare
unfolding record_of
filed_at tariff law trip line k has =
    files_of (slice_get line.parts (k - 1)) (record_for tariff trip line k)
    (λ part n. FilesFareOn tariff (key_of tariff trip line k part) (season_day trip line k) n)
    (λ part n is. (law (key_of tariff trip line k part) (season_day trip line k) n).0 is) has

-- where each part has a record the look-ups give the construction
pub construction_found : (tariff : Tariff) → FindsFares tariff → (trip : Itinerary) (line : CalculationLine) → unrecorded tariff trip line ≡ None
    → IsConstructionOf tariff trip line (construction_of tariff trip line)
unfolding construction_of unrecorded
construction_found tariff law trip line all = record {
  bare = bare_of tariff trip line;
  filed = λ k low high.
      let count : ℕ = length (bare_parts line) + 1 - 1 in
      let size : length (map (recorded_part tariff trip line) (places (bare_parts line))) ≡ count = length-map-range_with_len (recorded_part tariff trip line) 1 count in
      let at : part_at (map (recorded_part tariff trip line) (places (bare_parts line))) k ≡ recorded_part tariff trip line k =
      get_or-map-range_with_len (recorded_part tariff trip line) 1 count (k - 1) k no_part (omega arith) (omega arith) in
      let has : lacks_record tariff trip line k ≡ false = find_none (lacks_record tariff trip line) 1 (length (bare_parts line) + 1) all k low (omega arith) in
      subst (λ (part : Part). FilesPart tariff trip line k part.fare) (sym at) (filed_at tariff law trip line k has);
}
