-- The first parts of a list that covers a trip: they go on within it, and are no more than its sectors.
use Rattle.std.proofs.Common.{◌≡◌, ℕ, zero, suc, ◌+◌, ◌-◌, ◌<◌, ◌≤◌, List, ◌∷◌, ◌++◌, length, get_or, take, drop, Option, Some, None, refl, subst, sym, inl, inr, arith}
use Rattle.std.specs.Result.{ForErr}
use Rattle.std.proofs.lemmas.Bool.{lt-leb, cases_lt}
use Rattle.std.proofs.lemmas.List.{get_or_past, take-append-drop, length-take}
use Rattle.std.proofs.Math.ListN.{get_or-append, length-append}
use Rattle.fare_trip.specs.Itinerary.{Itinerary, count}
use Rattle.fare_tariff.specs.Tariff.{Tariff}
use Rattle.fare_rules.specs.declared.broken.Broken.{Broken}
use Rattle.fare_rules.specs.declared.part.Part.{Part}
use Rattle.fare_rules.specs.Numbers.{first_given}
use Rattle.fare_rules.specs.Construction.{no_part, start_of, end_of, begin_after, uncovered}
use Rattle.fare_rules.specs.Lawful.{broken_at, at_rule, breaks, first_broken, lawful_price, unless_broken}
use Rattle.fare_rules.specs.UnitPrice.{price}
use Rattle.fare_rules.proofs.CoverLemmas.{begins_later}
use Rattle.fare_lawful.specs.Advance.{EndsWithin, Advances, MeetsFirstThree}
use Rattle.fare_units.proofs.NextLemmas.{front_part, front_start}
use Rattle.fare_lawful.proofs.UnitLemmas.{advances_of_cover}

-- where Cover is broken it is the first rule that is
covered : (place : Option ℕ) (later : List (Option Broken)) (cost : ℕ) → ForErr (unless_broken (first_given (at_rule 1 place ∷ later)) cost) (λ broken. 3 < broken.rule) → place ≡ None
covered None later cost h = refl
covered (Some k) later cost h =
    let past : 3 < 1 = h (broken_at 1 k) refl in
    absurd (omega arith)

cover_of_three : (tariff : Tariff) (trip : Itinerary) (parts : List Part) → MeetsFirstThree tariff trip parts → uncovered trip parts ≡ None
unfolding lawful_price first_broken breaks
cover_of_three tariff trip parts h = covered (uncovered trip parts) (drop 1 (breaks tariff trip parts)) (price tariff trip parts) h

-- parts that go on rise by a point each at least
past_place : (trip : Itinerary) (parts : List Part) → Advances trip parts → (k : ℕ) → k ≤ length parts → k ≤ end_of parts k
past_place trip parts a zero high = omega arith
past_place trip parts a (suc zero) high =
    let up : start_of trip parts 1 < end_of parts 1 = a.rises 1 (omega arith) high in
    omega arith
past_place trip parts a (suc (suc n)) high =
    let before : suc n ≤ end_of parts (suc n) = past_place trip parts a (suc n) (omega arith) in
    let up : start_of trip parts (suc (suc n)) < end_of parts (suc (suc n)) = a.rises (suc (suc n)) (omega arith) high in
    let above : begin_after trip (end_of parts (suc (suc n) - 1)) < end_of parts (suc (suc n)) = (rw (lt-leb (suc (suc n)) 1 (omega arith)) at up) in
    let e : suc (suc n) - 1 ≡ suc n = omega arith in
    let later : end_of parts (suc n) ≤ begin_after trip (end_of parts (suc (suc n) - 1)) = rw e (begins_later trip (end_of parts (suc n))) in
    omega arith

-- the first parts of a list that goes on do so too
front_ends : (trip : Itinerary) (front rest : List Part) → EndsWithin trip (front ++ rest) → (i : ℕ) → (get_or front i no_part).end ≤ count trip
front_ends trip front rest ends i =
    let P : Part → Type 0 = λ p. p.end ≤ count trip in
    elim (cases_lt i (length front)) [
      | inl l ↦
          let e : i + 1 - 1 ≡ i = omega arith in
          let Q : ℕ → Type 0 = λ n. (get_or (front ++ rest) n no_part).end ≤ count trip in
          subst P (get_or-append front rest no_part i l) (subst Q e (ends (i + 1)))
      | inr g ↦ subst P (sym (get_or_past front i no_part g)) (omega arith)
    ]

front_rises : (trip : Itinerary) (front rest : List Part) → Advances trip (front ++ rest) → (k : ℕ) → 1 ≤ k → k ≤ length front → start_of trip front k < end_of front k
front_rises trip front rest a k low high =
    let n : length (front ++ rest) ≡ length front + length rest = length-append front rest in
    let R : Part → Type 0 = λ p. start_of trip front k < p.end in
    let Q : ℕ → Type 0 = λ m. m < end_of (front ++ rest) k in
    subst R (front_part front rest k low high) (subst Q (front_start trip front rest k low high) (a.rises k low (omega arith)))

front_advances : (trip : Itinerary) (front rest : List Part) → Advances trip (front ++ rest) → Advances trip front
front_advances trip front rest a = record { ends = λ k. front_ends trip front rest a.ends (k - 1); rises = front_rises trip front rest a }

pub first_advance : (tariff : Tariff) (trip : Itinerary) (parts : List Part) (m : ℕ) → MeetsFirstThree tariff trip parts → Advances trip (take m parts)
first_advance tariff trip parts m h =
    let whole : Advances trip parts = advances_of_cover trip parts (cover_of_three tariff trip parts h) in
    let P : List Part → Type 0 = λ xs. Advances trip xs in
    front_advances trip (take m parts) (drop m parts) (subst P (sym (take-append-drop m parts)) whole)

pub first_few : (tariff : Tariff) (trip : Itinerary) (parts : List Part) (m : ℕ) → MeetsFirstThree tariff trip parts → count trip ≤ 16 → length (take m parts) ≤ 16
first_few tariff trip parts m h sectors =
    let whole : Advances trip parts = advances_of_cover trip parts (cover_of_three tariff trip parts h) in
    let up : length parts ≤ end_of parts (length parts) = past_place trip parts whole (length parts) (omega arith) in
    let end : end_of parts (length parts) ≤ count trip = whole.ends (length parts) in
    let n : length (take m parts) ≡ _ = length-take m parts in
    omega arith
