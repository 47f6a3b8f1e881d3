-- Fields joined by a byte, one field further.
use Rattle.std.proofs.Common.{◌≡◌, ◌<◌, ◌+◌, ℕ, zero, suc, List, [], ◌∷◌, ◌++◌, length, take, get_or, false, refl, sym, ap, ◌∙◌, arith, append_assoc, length-take-le, if◌then◌else◌}
use Rattle.std.specs.Prelude.{◌==◌}
use Rattle.std.specs.List.{join_with_byte}
use Rattle.std.proofs.lemmas.Bool.{ne_eqb}
use Rattle.std.proofs.lemmas.List.{take_more}

-- one more piece behind some
join-behind : (c : ℕ) (first : List ℕ) (pieces : List (List ℕ)) (piece : List ℕ)
    → join_with_byte c ((first ∷ pieces) ++ (piece ∷ [])) ≡ (join_with_byte c (first ∷ pieces) ++ (c ∷ [])) ++ piece
join-behind c first [] piece = sym (append_assoc first (c ∷ []) piece)
join-behind c first (next ∷ pieces) piece =
    ap (λ (t : List ℕ). first ++ (c ∷ t)) (join-behind c next pieces piece)
    ∙ sym (append_assoc first (c ∷ (join_with_byte c (next ∷ pieces) ++ (c ∷ []))) piece)
    ∙ ap (λ (t : List ℕ). t ++ piece) (sym (append_assoc first (c ∷ join_with_byte c (next ∷ pieces)) (c ∷ [])))

-- a field behind some fields
behind : (fields : List (List ℕ)) (i : ℕ) (field : List ℕ) → length fields ≡ i
    → (if i == 0 then join_with_byte 44 fields else join_with_byte 44 fields ++ (44 ∷ [])) ++ field ≡ join_with_byte 44 (fields ++ (field ∷ []))
behind [] zero field e = refl
behind [] (suc i) field e = absurd (omega arith)
behind (first ∷ fields) zero field e = absurd (omega arith)
behind (first ∷ fields) (suc i) field e =
    let some : (suc i == 0) ≡ false = ne_eqb (suc i) 0 (λ z. cc z) in
    rw some (sym (join-behind 44 first fields field))

-- the first fields, and then the next
pub join-step : (fields : List (List ℕ)) (i : ℕ) (text : List ℕ) → i < length fields → text ≡ join_with_byte 44 (take i fields)
    → (if i == 0 then text else text ++ (44 ∷ [])) ++ get_or fields i [] ≡ join_with_byte 44 (take (i + 1) fields)
join-step fields i text h e = rw (e, behind (take i fields) i (get_or fields i []) (length-take-le i fields (omega arith)), take_more fields i [] h) refl
