-- A field by its index.
use Rattle.std.proofs.Common.{◌≡◌, ℕ, zero, suc, List, [], ◌∷◌, Option, Some, None, refl, ap, ◌∙◌, slice_index_or}
use Rattle.std.specs.Prelude.{option_map, unwrap_or}
use Rattle.std.specs.Borrow.{Bor}
use Rattle.csv.specs.Records.{field_at}

-- a field that is there, or the empty one
pub unwrap_or-field_at : (fields : List (List ℕ)) (i : ℕ) → unwrap_or (field_at fields i) [] ≡ slice_index_or fields i []
unfolding field_at
unwrap_or-field_at [] i = refl
unwrap_or-field_at (f ∷ fs) zero = refl
unwrap_or-field_at (f ∷ fs) (suc i) = unwrap_or-field_at fs i

-- a lent field that is there, or a lent empty one
pub unwrap_or-lent : (o : Option (Bor (List ℕ))) (empty : Bor (List ℕ)) (fields : List (List ℕ)) (i : ℕ) → empty.now ≡ [] → option_map (λ s. s.now) o ≡ field_at fields i
    → (unwrap_or o empty).now ≡ slice_index_or fields i []
unwrap_or-lent None empty fields i none e = none ∙ ap (λ (f : Option (List ℕ)). unwrap_or f []) e ∙ unwrap_or-field_at fields i
unwrap_or-lent (Some field) empty fields i none e = ap (λ (f : Option (List ℕ)). unwrap_or f []) e ∙ unwrap_or-field_at fields i
