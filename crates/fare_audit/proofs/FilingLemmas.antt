-- Constructions that are made part by part.
use Rattle.std.proofs.Common.{◌≡◌, ◌+◌, ◌∙◌, ℕ, [], ◌∷◌, ◌++◌, map, Result, Ok, Err, arith, refl, ap}
use Rattle.std.specs.Result.{IsOk, OnOk}
use Rattle.std.proofs.lemmas.List.{map-append}
use Rattle.fare_rules.specs.declared.part.Part.{Part}
use Rattle.fare_rules.specs.Numbers.{numbers}
use Rattle.fare_rules.proofs.NumberLemmas.{numbers_more}

-- what holds on success holds, where there is success
pub on_ok : {A E : Type 0} → (answer : Result A E) (P : Type 0) → IsOk answer → OnOk answer P → P
on_ok (Ok value) P is holds = holds
on_ok (Err fault) P is holds = absurd (cc is)

-- one part more of those of the places from 1 on
pub recorded_more : (part_of : ℕ → Part) (i : ℕ) → map part_of (numbers 1 (i + 1 + 1)) ≡ map part_of (numbers 1 (i + 1)) ++ part_of (i + 1) ∷ []
recorded_more part_of i = ap (map part_of) (numbers_more 1 (i + 1) (omega arith)) ∙ map-append part_of (numbers 1 (i + 1)) ((i + 1) ∷ [])

-- and none of them
pub recorded_none : (part_of : ℕ → Part) → map part_of (numbers 1 1) ≡ []
recorded_none part_of = refl
