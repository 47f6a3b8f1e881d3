-- Steps of which each needs the value of the one before it.
use Rattle.std.specs.Prelude.{Option, Some, None}

-- the next step on the value of this one; nothing where this one gives none
infixl 10 ◌>>=◌
abbrev pub ◌>>=◌ : {A B : Type 0} → Option A → (A → Option B) → Option B
Some value >>= next = next value
None >>= next = None
