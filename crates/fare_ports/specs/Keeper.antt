-- What the calls of a keeper do to its bodies, where they are told.
use Rattle.std.specs.Prelude.{◌≡◌, ◌⊎◌, ℕ, ◌-◌, ◌≤◌, List, [], ◌∷◌, ◌++◌, Option, Some, None, length, slice_get}
use Rattle.std.specs.Prelude.{slice_set, ⊤}
use Rattle.std.specs.Option.{unwrap_or}

-- where the bodies are told after a call, they were told before it, and this relation holds of them
abbrev pub ToldAfter : Option (List (List ℕ)) → Option (List (List ℕ))
    → (List (List ℕ) → List (List ℕ) → Type 0) → Type 0
ToldAfter old None relation = ⊤
ToldAfter None (Some new) relation = ⊥
ToldAfter (Some old) (Some new) relation = relation old new

-- where the bodies are told both before and after a call, this relation holds of them
abbrev pub WhereTold : Option (List (List ℕ)) → Option (List (List ℕ))
    → (List (List ℕ) → List (List ℕ) → Type 0) → Type 0
WhereTold None new relation = ⊤
WhereTold (Some old) None relation = ⊤
WhereTold (Some old) (Some new) relation = relation old new

-- the name by which a store that was just opened was opened first: this one, where none was before
abbrev pub first_name : Option (List ℕ) → List ℕ → Option (List ℕ)
first_name before name = Some (unwrap_or before name)

-- the bodies are as before
abbrev pub BodiesStay : List (List ℕ) → List (List ℕ) → Type 0
BodiesStay old new = new ≡ old

-- the bodies are the old ones with this one at the end
abbrev pub BodyAppended : List ℕ → List (List ℕ) → List (List ℕ) → Type 0
BodyAppended body old new = new ≡ old ++ body ∷ []

-- the bodies are as before, or the old ones with this one at the end
abbrev pub MayAppend : List ℕ → List (List ℕ) → List (List ℕ) → Type 0
MayAppend body old new = BodiesStay old new ⊎ BodyAppended body old new

-- the body at this place, counted from 1, is this one, and the others are as before
abbrev pub BodyReplaced : ℕ → List ℕ → List (List ℕ) → List (List ℕ) → Type 0
BodyReplaced place body old new = new ≡ slice_set old (place - 1) body

-- the bodies are as before, or just the one at this place is changed to this one
abbrev pub MayReplace : ℕ → List ℕ → List (List ℕ) → List (List ℕ) → Type 0
MayReplace place body old new = BodiesStay old new ⊎ BodyReplaced place body old new

-- a body stands at this place, counted from 1
abbrev pub HasPlace : ℕ → List (List ℕ) → Type 0
HasPlace place bodies = (1 ≤ place) × (place ≤ length bodies)

-- the body at this place, counted from 1
abbrev pub body_at : ℕ → List (List ℕ) → Option (List ℕ)
body_at place bodies = slice_get bodies (place - 1)
