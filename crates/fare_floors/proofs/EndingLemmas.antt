-- The last of the places of a unit, place by place.
use Rattle.std.proofs.Common.{◌≡◌, ℕ, ◌+◌, ◌<◌, ◌≤◌, List, [], ◌∷◌, refl, ap, ◌∙◌}
use Rattle.std.specs.Prelude.{filter}
use Rattle.fare_rules.specs.declared.part.Part.{Part}
use Rattle.fare_rules.specs.Construction.{is_own, last_of, unit_of}
use Rattle.fare_rules.specs.Numbers.{numbers}
use Rattle.fare_floors.proofs.StackRowLemmas.{own_here, own_over, own_done}

-- the last of some places, where another one was the last before them
abbrev pub last_after : ℕ → List ℕ → ℕ
last_after before [] = before
last_after before (k ∷ more) = last_of (k ∷ more)

pub last_of_all : (xs : List ℕ) → last_of xs ≡ last_after 0 xs
last_of_all [] = refl
last_of_all (k ∷ more) = refl

after_next : (k : ℕ) (more : List ℕ) → last_of (k ∷ more) ≡ last_after k more
after_next k [] = refl
after_next k (next ∷ rest) = refl

-- the last of the places of a unit from one on
abbrev pub last_from : List Part → ℕ → ℕ → ℕ → ℕ → ℕ
last_from parts unit before k past = last_after before (filter (is_own parts unit) (numbers k past))

pub last_here : (parts : List Part) (unit before k past : ℕ) → k < past → unit_of parts k ≡ unit → last_from parts unit before k past ≡ last_from parts unit k (k + 1) past
last_here parts unit before k past h mine =
    ap (last_after before) (own_here parts unit k past h mine) ∙ after_next k (filter (is_own parts unit) (numbers (k + 1) past))

pub last_over : (parts : List Part) (unit before k past : ℕ) → k < past → (unit_of parts k ≡ unit → ⊥) → last_from parts unit before k past ≡ last_from parts unit before (k + 1) past
last_over parts unit before k past h other = ap (last_after before) (own_over parts unit k past h other)

pub last_done : (parts : List Part) (unit before k past : ℕ) → past ≤ k → last_from parts unit before k past ≡ before
last_done parts unit before k past h = ap (last_after before) (own_done parts unit k past h)
