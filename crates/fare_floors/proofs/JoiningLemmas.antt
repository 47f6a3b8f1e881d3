-- A unit of the first parts of a lawful construction to which a part comes behind them: where that part may begin.
use Rattle.std.proofs.Common.{◌≡◌, ℕ, ◌+◌, ◌-◌, ◌<◌, ◌≤◌, ◌⊎◌, Bool, true, false, ◌&&◌, ◌||◌, not, cond, ltb, leb, List, [], ◌∷◌, ◌++◌, length, refl, ap, sym, subst, inl, inr, arith}
use Rattle.std.specs.Prelude.{bytes_eq}
use Rattle.std.specs.List.{list_any}
use Rattle.std.proofs.lemmas.Bool.{cases_Bool, cases_lt, or_cases, and_parts, lt-ltb}
use Rattle.std.proofs.lemmas.Slice.Eq.{bytes_eq-Decides}
use Rattle.fare_codes.specs.declared.city.City.{City}
use Rattle.fare_trip.specs.Itinerary.{Itinerary, count}
use Rattle.fare_tariff.specs.Tariff.{Tariff}
use Rattle.fare_rules.specs.declared.part.Part.{Part}
use Rattle.fare_rules.specs.Best.{IsLawful}
use Rattle.fare_rules.specs.Construction.{begin_after, places, own, last_of, greatest_unit, start_of, end_of, start_city, end_city}
use Rattle.fare_rules.specs.Numbers.{numbers}
use Rattle.fare_rules.specs.Shape.{follows, is_chained, is_jaw, lie_together}
use Rattle.fare_rules.proofs.CoverLemmas.{IsCover, cover, same_end}
use Rattle.fare_rules.proofs.LawfulLemmas.{kept}
use Rattle.fare_rules.proofs.MemberLemmas.{Member, member_numbers}
use Rattle.fare_units.specs.Onward.{is_in_city, points_behind}
use Rattle.fare_units.specs.Walk.{next_start}
use Rattle.fare_floors.specs.Joining.{may_join}
use Rattle.fare_floors.proofs.OnwardLemmas.{closed_whole, ends_rise, either_left, either_right, must_close_from, no_one_way, point_behind, starts_behind}
use Rattle.fare_floors.proofs.SameLemmas.{AreFirst, start_same, end_same, last_member}
use Rattle.fare_floors.proofs.ShutLemmas.{any_at, both_true}

true_false : true ≡ false → ⊥
true_false e = cc

-- of an open jaw the second part ends where the first begins, or begins where that ends
jaw_joins : (n l e m o p : Bool) → ((n && l && e) || (m && o && p)) ≡ true → (e ≡ true) ⊎ (p ≡ true)
jaw_joins n l e m o p h =
    elim (or_cases (n && l && e) (m && o && p) h) [
      | inl g ↦ inl (and_parts (n && l) e g).1
      | inr g ↦ inr (and_parts (m && o) p g).1
    ]

pub other_way : (a b : City) → bytes_eq a b ≡ true → bytes_eq b a ≡ true
other_way a b e = (bytes_eq-Decides b a).1 (sym ((bytes_eq-Decides a b).0 e))

-- of what is chained each begins where the one before it ends
pub joint : (trip : Itinerary) (parts : List Part) (x : ℕ) (xs : List ℕ) (k : ℕ) (more : List ℕ) → is_chained trip parts ((x ∷ xs) ++ k ∷ more) ≡ true → follows trip parts (last_of (x ∷ xs)) k ≡ true
joint trip parts x [] k more h = (and_parts (follows trip parts x k) (is_chained trip parts (k ∷ more)) h).0
joint trip parts x (y ∷ ys) k more h = joint trip parts y ys k more (and_parts (follows trip parts x y) (is_chained trip parts ((y ∷ ys) ++ k ∷ more)) h).1

-- where the next part of a list starts depends on its end alone
next_same : (trip : Itinerary) (front rest : List Part) → 1 ≤ length front → start_of trip (front ++ rest) (length front + 1) ≡ next_start trip front
next_same trip front rest some =
    let n : length front + 1 - 1 ≡ length front = omega arith in
    let P : ℕ → Type 0 = λ k. end_of (front ++ rest) k ≡ end_of front k in
    let same : end_of (front ++ rest) (length front + 1 - 1) ≡ end_of front (length front + 1 - 1) = subst P (sym n) (same_end front rest (length front) some (omega arith)) in
    ap (λ e. cond (leb (length front + 1) 1) 0 (begin_after trip e)) same

module _ (tariff : Tariff) (trip : Itinerary) (front rest : List Part) (price : ℕ) (lawful : IsLawful tariff trip (front ++ rest) price) (unit : ℕ) (low : 1 ≤ unit) (high : unit ≤ greatest_unit (front ++ rest) (places (front ++ rest)))
    (x : ℕ) (xs : List ℕ) (k : ℕ) (more : List ℕ) (first : AreFirst tariff trip front rest (x ∷ xs)) (whole : own (front ++ rest) unit ≡ (x ∷ xs) ++ k ∷ more) (past : length front < k) (within : k ≤ length (front ++ rest)) where
  all : IsCover trip (front ++ rest)
  all = cover trip (front ++ rest) (kept tariff trip (front ++ rest) price lawful).cover

  some : 1 ≤ length front
  some = let place = first x (inl refl) in let one : 1 ≤ x = place.0 in let last : x ≤ length front = place.1 in omega arith

  -- the part begins where the next one does or later
  begins_later : (j : ℕ) → length front < j → j ≤ length (front ++ rest) → next_start trip front ≤ start_of trip (front ++ rest) j
  begins_later j behind last =
      let s : 1 ≤ length front = some in
      let same : start_of trip (front ++ rest) (length front + 1) ≡ next_start trip front = next_same trip front rest some in
      elim (cases_lt (length front + 1) j) [
        | inl less ↦
            let n : j - 1 + 1 ≡ j = omega arith in
            let P : ℕ → Type 0 = λ m. end_of (front ++ rest) (j - 1) ≤ start_of trip (front ++ rest) m in
            let later : end_of (front ++ rest) (j - 1) ≤ start_of trip (front ++ rest) j = subst P n (starts_behind trip (front ++ rest) all (j - 1) (omega arith)) in
            let above : start_of trip (front ++ rest) (length front + 1) < end_of (front ++ rest) (length front + 1) = all.above (length front + 1) (omega arith) (omega arith) in
            let rise : end_of (front ++ rest) (length front + 1) ≤ end_of (front ++ rest) (j - 1) = up_to (j - 1) (omega arith) (omega arith) in
            omega arith
        | inr here ↦
            let e : length front + 1 ≡ j = omega arith in
            let P : ℕ → Type 0 = λ m. next_start trip front ≤ start_of trip (front ++ rest) m in
            subst P e (omega arith)
      ]
    where
      up_to : (m : ℕ) → length front + 1 ≤ m → m ≤ length (front ++ rest) → end_of (front ++ rest) (length front + 1) ≤ end_of (front ++ rest) m
      up_to m low_m high_m =
          elim (cases_lt (length front + 1) m) [
            | inl less ↦ let rise : end_of (front ++ rest) (length front + 1) < end_of (front ++ rest) m = ends_rise trip (front ++ rest) all (length front + 1) m (omega arith) less high_m in omega arith
            | inr here ↦ let e : length front + 1 ≡ m = omega arith in let same : end_of (front ++ rest) (length front + 1) ≡ end_of (front ++ rest) m = ap (end_of (front ++ rest)) e in omega arith
          ]

  begins_there : Member (start_of trip (front ++ rest) k) (numbers (next_start trip front) (count trip + 1))
  begins_there =
      let later : next_start trip front ≤ start_of trip (front ++ rest) k = begins_later k past within in
      let above : start_of trip (front ++ rest) k < end_of (front ++ rest) k = all.above k (omega arith) within in
      let last : end_of (front ++ rest) k ≤ count trip = all.within k (omega arith) within in
      member_numbers (next_start trip front) (count trip + 1) (start_of trip (front ++ rest) k) later (omega arith)

  -- the part begins where the last of the first ones ends, or it is the second one of an open jaw and ends where that
  -- begins
  abbrev Joins : Type 0
  Joins =
      (bytes_eq (start_city trip (front ++ rest) k) (end_city trip (front ++ rest) (last_of (x ∷ xs))) ≡ true)
      ⊎ ((length (x ∷ xs) < 2) × (bytes_eq (end_city trip (front ++ rest) k) (start_city trip (front ++ rest) x) ≡ true))

  jaw_joins_by : (ys zs : List ℕ) → ys ≡ xs → is_jaw tariff trip (front ++ rest) ((x ∷ ys) ++ k ∷ zs) ≡ true → Joins
  jaw_joins_by [] [] e h =
      let found : (bytes_eq (end_city trip (front ++ rest) k) (start_city trip (front ++ rest) x) ≡ true) ⊎ (bytes_eq (end_city trip (front ++ rest) x) (start_city trip (front ++ rest) k) ≡ true) =
      jaw_joins (not (bytes_eq (end_city trip (front ++ rest) x) (start_city trip (front ++ rest) k))) (lie_together tariff (end_city trip (front ++ rest) x) (start_city trip (front ++ rest) k)) (bytes_eq (end_city trip (front ++ rest) k) (start_city trip (front ++ rest) x))
      (not (bytes_eq (end_city trip (front ++ rest) k) (start_city trip (front ++ rest) x))) (lie_together tariff (end_city trip (front ++ rest) k) (start_city trip (front ++ rest) x)) (bytes_eq (end_city trip (front ++ rest) x) (start_city trip (front ++ rest) k)) h in
      let P : List ℕ → Type 0 = λ ys. length (x ∷ ys) < 2 in
      let Q : List ℕ → Type 0 = λ ys. bytes_eq (start_city trip (front ++ rest) k) (end_city trip (front ++ rest) (last_of (x ∷ ys))) ≡ true in
      elim found [
        | inl home ↦ inr (subst P e (omega arith), home)
        | inr joined ↦ inl (subst Q e (other_way (end_city trip (front ++ rest) x) (start_city trip (front ++ rest) k) joined))
      ]
  jaw_joins_by [] (z ∷ zs) e h = absurd (true_false (sym h))
  jaw_joins_by (y ∷ []) zs e h = absurd (true_false (sym h))
  jaw_joins_by (y ∷ w ∷ ws) zs e h = absurd (true_false (sym h))

  joins : Joins
  joins =
      elim (cases_Bool (is_jaw tariff trip (front ++ rest) ((x ∷ xs) ++ k ∷ more))) [
        | inl t ↦ jaw_joins_by xs more refl t
        | inr f ↦
            let close = closed_whole tariff trip front rest price lawful unit low high ((x ∷ xs) ++ k ∷ more) whole (must_close_from tariff trip (front ++ rest) ((x ∷ xs) ++ k ∷ more) (no_one_way tariff trip front rest price lawful unit low high x xs k more whole) f) in
            inl (joint trip (front ++ rest) x xs k more close.0)
      ]

  -- so a part may join it
  pub joined : may_join trip front (x ∷ xs) ≡ true
  joined =
      let one = first x (inl refl) in
      let end = first (last_of (x ∷ xs)) (last_member x xs) in
      let P : City → Type 0 = λ city. bytes_eq (start_city trip (front ++ rest) k) city ≡ true in
      let Q : City → Type 0 = λ city. bytes_eq (end_city trip (front ++ rest) k) city ≡ true in
      elim joins [
        | inl h ↦
            either_left (list_any (is_in_city trip (end_city trip front (last_of (x ∷ xs)))) (numbers (next_start trip front) (count trip + 1))) (ltb (length (x ∷ xs)) 2 && list_any (is_in_city trip (start_city trip front x)) (points_behind trip front))
            (any_at (is_in_city trip (end_city trip front (last_of (x ∷ xs)))) (start_of trip (front ++ rest) k) (numbers (next_start trip front) (count trip + 1)) begins_there
            (subst P (end_same tariff trip front rest (last_of (x ∷ xs)) end.0 end.1) h))
        | inr h ↦
            either_right (list_any (is_in_city trip (end_city trip front (last_of (x ∷ xs)))) (numbers (next_start trip front) (count trip + 1))) (ltb (length (x ∷ xs)) 2 && list_any (is_in_city trip (start_city trip front x)) (points_behind trip front))
            (both_true (ltb (length (x ∷ xs)) 2) (list_any (is_in_city trip (start_city trip front x)) (points_behind trip front)) (lt-ltb (length (x ∷ xs)) 2 h.0)
            (any_at (is_in_city trip (start_city trip front x)) (end_of (front ++ rest) k) (points_behind trip front) (point_behind tariff trip front rest price lawful unit low high k some past within)
            (subst Q (start_same tariff trip front rest x one.0 one.1) h.1)))
      ]
