-- Pieces at the end of a text.
use Rattle.std.proofs.Common.{◌≡◌, ℕ, List, ◌++◌, ap, sym, ◌∙◌, append_assoc}
use Rattle.std.specs.Prelude.{Result, Ok, Err, IfOk, OnOk}

-- two pieces, one behind the other
pub two : {A E : Type 0} (r : Result A E) (new old a b : List ℕ) → OnOk r (new ≡ old ++ a ++ b) → OnOk r (new ≡ old ++ (a ++ b))
two (Ok value) new old a b h = h ∙ append_assoc old a b
two (Err fault) new old a b h = tt

-- three
pub three : {A E : Type 0} (r : Result A E) (new old a b c : List ℕ) → OnOk r (new ≡ old ++ a ++ b ++ c) → OnOk r (new ≡ old ++ (a ++ b ++ c))
three (Ok value) new old a b c h = h ∙ append_assoc (old ++ a) b c ∙ append_assoc old a (b ++ c) ∙ ap (λ t. old ++ t) (sym (append_assoc a b c))
three (Err fault) new old a b c h = tt

-- a part of an answer, and what it is
pub if_ok : {V E X : Type 0} (items : V → X) (r : Result V E) (text other : X) → text ≡ other → IfOk r (λ v. items v ≡ text) → IfOk r (λ v. items v ≡ other)
if_ok items (Ok v) text other same h = h ∙ same
if_ok items (Err fault) text other same h = tt
