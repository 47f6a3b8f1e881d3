-- Answers of calls that may find memory wanting, and readings in steps.
use Rattle.std.specs.Prelude.{◌≡◌, ◌≢◌, Result, Ok, Err}

-- a call answers what is expected, its value seen through a view, unless memory was wanting
abbrev pub Gives : {A B E : Type 0} → E → (A → B) → Result A E → Result B E → Type 0
Gives memory view (Ok value) expected = expected ≡ Ok (view value)
Gives memory view (Err fault) expected = fault ≢ memory → expected ≡ Err fault

-- a reading, and then one that needs its value: the first fault counts
infixl 10 ◌>>=◌
abbrev pub ◌>>=◌ : {A B E : Type 0} → Result A E → (A → Result B E) → Result B E
(Ok value) >>= next = next value
(Err fault) >>= next = Err fault
