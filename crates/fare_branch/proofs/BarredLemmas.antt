-- First parts that the rules on stays and on combined fares bar have no completion.
use Rattle.std.proofs.Common.{◌≡◌, ℕ, ◌+◌, ◌-◌, ◌≤◌, Bool, true, false, ◌&&◌, List, [], ◌∷◌, ◌++◌, length, refl, ap, sym, subst, ◌∙◌, inl, inr, arith}
use Rattle.std.proofs.Math.ListN.{length-append}
use Rattle.std.proofs.lemmas.Bool.{or_cases, and_parts, eq-eqb, eqb-false}
use Rattle.fare_trip.specs.Itinerary.{Itinerary}
use Rattle.fare_tariff.specs.Tariff.{Tariff}
use Rattle.fare_rules.specs.declared.part.Part.{Part}
use Rattle.fare_rules.specs.Construction.{places, own, is_own, greatest_unit, unit_of, is_misnumbered, misnumbered}
use Rattle.fare_rules.specs.Shape.{is_hr}
use Rattle.fare_rules.specs.UnitRules.{is_mistimed, mistimed, is_misfit, has_misfit, is_misfitted, misfitted, is_clash, clashes, clashed}
use Rattle.fare_rules.specs.Best.{IsLawful}
use Rattle.fare_rules.proofs.CoverLemmas.{both_false}
use Rattle.fare_rules.proofs.LawfulLemmas.{IsKept, kept}
use Rattle.fare_rules.proofs.MemberLemmas.{Member, member_filter, member_numbers}
use Rattle.fare_rules.proofs.NumberLemmas.{find_none}
use Rattle.fare_units.specs.Barred.{is_uncombined, is_untimely}
use Rattle.fare_units.specs.Shut.{is_shut}
use Rattle.fare_units.proofs.ShutLemmas.{shut_has_parts}
use Rattle.fare_units.proofs.NextLemmas.{any_same, front_unit, same_unit_front}
use Rattle.fare_floors.specs.Floors.{HasNoCompletion}
use Rattle.fare_floors.specs.Stays.{is_outside}
use Rattle.fare_floors.proofs.SameLemmas.{AreFirst, fare_same, hr_same}
use Rattle.fare_floors.proofs.ShutLemmas.{any_at, own_are_first, shut_own}
use Rattle.fare_floors.proofs.StayLemmas.{outside_same}
use Rattle.fare_floors.proofs.SumLemmas.{unit_up_to}

true_false : true ≡ false → ⊥
true_false e = cc

both_same : (a b c d : Bool) → a ≡ b → c ≡ d → (a && c) ≡ (b && d)
both_same a b c d e h = rw (e, h) refl

module _ (tariff : Tariff) (trip : Itinerary) (front rest : List Part) where
  -- two parts of the front combine in the whole as they do in the front
  misfit_same : (k j : ℕ) → 1 ≤ k → k ≤ length front → 1 ≤ j → j ≤ length front → is_misfit tariff (front ++ rest) k j ≡ is_misfit tariff front k j
  misfit_same k j kl kh jl jh = rw (same_unit_front front rest k j kl kh jl jh, fare_same tariff trip front rest j jl jh, fare_same tariff trip front rest k kl kh) refl

  clash_same : (k j : ℕ) → 1 ≤ k → k ≤ length front → 1 ≤ j → j ≤ length front → is_clash tariff (front ++ rest) k j ≡ is_clash tariff front k j
  clash_same k j kl kh jl jh = rw (same_unit_front front rest k j kl kh jl jh, fare_same tariff trip front rest j jl jh, fare_same tariff trip front rest k kl kh) refl

  has_misfit_same : (k : ℕ) → 1 ≤ k → k ≤ length front → has_misfit tariff (front ++ rest) k ≡ has_misfit tariff front k
  has_misfit_same k low high = any_same (is_misfit tariff (front ++ rest) k) (is_misfit tariff front k) 1 (k - 1) (λ j jl jh. misfit_same k j low high jl (omega arith))

  clashes_same : (k : ℕ) → 1 ≤ k → k ≤ length front → clashes tariff (front ++ rest) k ≡ clashes tariff front k
  clashes_same k low high = any_same (is_clash tariff (front ++ rest) k) (is_clash tariff front k) 1 (k - 1) (λ j jl jh. clash_same k j low high jl (omega arith))

  -- the stay of half round trips at some places is outside the rule of one of them
  abbrev is_late : List Part → List ℕ → Bool
  is_late parts xs = is_hr tariff parts xs && is_outside tariff trip parts xs

  late_same : (xs : List ℕ) → AreFirst tariff trip front rest xs → is_late (front ++ rest) xs ≡ is_late front xs
  late_same xs first = both_same (is_hr tariff (front ++ rest) xs) (is_hr tariff front xs) (is_outside tariff trip (front ++ rest) xs) (is_outside tariff trip front xs) (hr_same tariff trip front rest xs first) (outside_same tariff trip front rest xs first)

  module _ (cost : ℕ) (lawful : IsLawful tariff trip (front ++ rest) cost) (some : 1 ≤ length front) where
    in_all : length front ≤ length (front ++ rest)
    in_all = let n : length (front ++ rest) ≡ length front + length rest = length-append front rest in omega arith

    holds : IsKept tariff trip (front ++ rest)
    holds = kept tariff trip (front ++ rest) cost lawful

    last_unit : unit_of (front ++ rest) (length front) ≡ unit_of front (length front)
    last_unit = front_unit front rest (length front) some (omega arith)

    -- the unit of the last part is one of the units
    low : 1 ≤ unit_of (front ++ rest) (length front)
    unfolding misnumbered
    low =
        let within : length front ≤ length (front ++ rest) = in_all in
        let fails : is_misnumbered (front ++ rest) (length front) ≡ false = find_none (is_misnumbered (front ++ rest)) 1 (length (front ++ rest) + 1) holds.numbering (length front) some (omega arith) in
        let above : unit_of (front ++ rest) (length front) ≡ 0 → ⊥ = eqb-false _ _ (both_false _ _ fails).0 in
        omega arith

    high : unit_of (front ++ rest) (length front) ≤ greatest_unit (front ++ rest) (places (front ++ rest))
    high = let within : length front ≤ length (front ++ rest) = in_all in unit_up_to (front ++ rest) 1 (length (front ++ rest) + 1 - 1) (length front) some (omega arith)

    last_own : Member (length front) (own (front ++ rest) (unit_of (front ++ rest) (length front)))
    unfolding own
    last_own =
        let within : length front ≤ length (front ++ rest) = in_all in
        member_filter (is_own (front ++ rest) (unit_of (front ++ rest) (length front))) (length front) (places (front ++ rest)) (eq-eqb (unit_of (front ++ rest) (length front)) (unit_of (front ++ rest) (length front)) refl)
        (member_numbers 1 (length (front ++ rest) + 1) (length front) some (omega arith))

    -- in a lawful list the last part of the front combines with those before it
    uncombined_fails : is_uncombined tariff front ≡ true → ⊥
    unfolding is_uncombined misfitted clashed
    uncombined_fails h =
        let within : length front ≤ length (front ++ rest) = in_all in
        let unit_low = low in
        let unit_high = high in
        elim (or_cases (has_misfit tariff front (length front)) (clashes tariff front (length front)) h) [
          | inl m ↦
              let there : has_misfit tariff (front ++ rest) (length front) ≡ true = has_misfit_same (length front) some (omega arith) ∙ m in
              let any : is_misfitted tariff (front ++ rest) (unit_of (front ++ rest) (length front)) ≡ true = any_at (has_misfit tariff (front ++ rest)) (length front) (own (front ++ rest) (unit_of (front ++ rest) (length front))) last_own there in
              true_false (sym any ∙ find_none (is_misfitted tariff (front ++ rest)) 1 (greatest_unit (front ++ rest) (places (front ++ rest)) + 1) holds.combine (unit_of (front ++ rest) (length front)) unit_low (omega arith))
          | inr c ↦
              let there : clashes tariff (front ++ rest) (length front) ≡ true = clashes_same (length front) some (omega arith) ∙ c in
              true_false (sym there ∙ find_none (clashes tariff (front ++ rest)) 1 (length (front ++ rest) + 1) holds.ends (length front) some (omega arith))
        ]

    -- and its unit, where it is shut, has a stay that is allowed
    untimely_fails : is_untimely tariff trip front (unit_of front (length front)) ≡ true → ⊥
    unfolding is_untimely mistimed
    untimely_fails h =
        let both = and_parts (is_shut tariff trip front (own front (unit_of front (length front)))) (is_mistimed tariff trip front (unit_of front (length front))) h in
        let P : ℕ → Type 0 = λ u. 1 ≤ u in
        let Q : ℕ → Type 0 = λ u. u ≤ greatest_unit (front ++ rest) (places (front ++ rest)) in
        let least : 1 ≤ unit_of front (length front) = subst P last_unit low in
        let most : unit_of front (length front) ≤ greatest_unit (front ++ rest) (places (front ++ rest)) = subst Q last_unit high in
        let same : own (front ++ rest) (unit_of front (length front)) ≡ own front (unit_of front (length front)) = shut_own tariff trip front rest cost lawful (unit_of front (length front)) least most both.0 in
        let here : is_mistimed tariff trip (front ++ rest) (unit_of front (length front)) ≡ is_mistimed tariff trip front (unit_of front (length front)) =
        ap (is_late (front ++ rest)) same ∙ late_same (own front (unit_of front (length front))) (own_are_first tariff trip front rest (unit_of front (length front))) in
        true_false (sym both.1 ∙ sym here ∙ find_none (is_mistimed tariff trip (front ++ rest)) 1 (greatest_unit (front ++ rest) (places (front ++ rest)) + 1) holds.stay (unit_of front (length front)) least (omega arith))

-- no part is barred where there is none
none_uncombined : (tariff : Tariff) → is_uncombined tariff [] ≡ true → ⊥
unfolding is_uncombined
none_uncombined tariff h = cc

none_untimely : (tariff : Tariff) (trip : Itinerary) (unit : ℕ) → is_untimely tariff trip [] unit ≡ true → ⊥
unfolding is_untimely own
none_untimely tariff trip unit h =
    let both = and_parts (is_shut tariff trip [] (own [] unit)) (is_mistimed tariff trip [] unit) h in
    let some : 1 ≤ length (own [] unit) = shut_has_parts tariff trip [] (own [] unit) both.0 in
    let none : length (own [] unit) ≡ 0 = refl in
    absurd (omega arith)

module _ (tariff : Tariff) (trip : Itinerary) where
  lawful_by : (front parts rest : List Part) (cost : ℕ) → parts ≡ front ++ rest → IsLawful tariff trip parts cost → IsLawful tariff trip (front ++ rest) cost
  lawful_by front parts rest cost e l = let P : List Part → Type 0 = λ ys. IsLawful tariff trip ys cost in subst P e l

  pub uncombined_is_none : (front : List Part) → is_uncombined tariff front ≡ true → HasNoCompletion tariff trip front
  uncombined_is_none [] h parts cost c = none_uncombined tariff h
  uncombined_is_none (x ∷ xs) h parts cost c =
      uncombined_fails tariff trip (x ∷ xs) c.begins.0 cost (lawful_by (x ∷ xs) parts c.begins.0 cost c.begins.1 c.lawful) (omega arith) h

  pub untimely_is_none : (front : List Part) → is_untimely tariff trip front (unit_of front (length front)) ≡ true → HasNoCompletion tariff trip front
  untimely_is_none [] h parts cost c = none_untimely tariff trip (unit_of [] (length {A = Part} [])) h
  untimely_is_none (x ∷ xs) h parts cost c =
      untimely_fails tariff trip (x ∷ xs) c.begins.0 cost (lawful_by (x ∷ xs) parts c.begins.0 cost c.begins.1 c.lawful) (omega arith) h
