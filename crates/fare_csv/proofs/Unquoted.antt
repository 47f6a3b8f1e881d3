-- A text without quotation marks.
use Rattle.std.proofs.Common.{◌≡◌, ℕ, List, [], ◌∷◌, Bool, true, false, refl}
use Rattle.std.specs.Prelude.{◌==◌, not}
use Rattle.std.specs.List.{list_all, list_any}
use Rattle.fare_csv.specs.Pieces.{is_unquoted}

-- no byte is a quotation mark where not any is
pub no_quotation_mark : (text : List ℕ) → not (list_any (λ byte. byte == 34) text) ≡ list_all is_unquoted text
no_quotation_mark [] = refl
no_quotation_mark (byte ∷ text) = by (byte == 34) refl (no_quotation_mark text)
  where
    by : (b : Bool) → (byte == 34) ≡ b → not (list_any (λ other. other == 34) text) ≡ list_all is_unquoted text
        → not (list_any (λ other. other == 34) (byte ∷ text)) ≡ list_all is_unquoted (byte ∷ text)
    by true e rest = rw e refl
    by false e rest = rw e rest
