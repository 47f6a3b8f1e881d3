-- A text that is cut into pieces one after the other, and the records of the pieces one after the other.
use Rattle.std.proofs.Common.{◌≡◌, ℕ, List, [], ◌∷◌, ◌++◌, refl, sym, ap, ◌∙◌, append_assoc, map}
use Rattle.std.specs.Borrow.{Bor}
use Rattle.std.specs.List.{concat}
use Rattle.std.specs.Global.{Vec}
use Rattle.std.specs.Prelude.{Result, Ok, Err}
use Rattle.std.proofs.lemmas.List.{append-nil}
use Rattle.fare_records.specs.declared.record.Record.{Record}
use Rattle.fare_csv.specs.declared.pieces.NotInPieces.{NotInPieces}
use Rattle.fare_csv.specs.Joined.{joined}

-- one piece more in front of what is left
one-more : (pieces : List (Bor (List ℕ))) (piece : Bor (List ℕ)) (more : List ℕ)
    → concat (map (λ p. p.now) (pieces ++ (piece ∷ []))) ++ more ≡ concat (map (λ p. p.now) pieces) ++ (piece.now ++ more)
one-more [] piece more = rw (append-nil piece.now) refl
one-more (first ∷ pieces) piece more =
    let texts = concat (map (λ (p : Bor (List ℕ)). p.now) pieces) in
    let longer = concat (map (λ (p : Bor (List ℕ)). p.now) (pieces ++ (piece ∷ []))) in
    append_assoc first.now longer more
    ∙ ap (λ (rest : List ℕ). first.now ++ rest) (one-more pieces piece more)
    ∙ sym (append_assoc first.now texts (piece.now ++ more))

-- the pieces and what is left behind them stay the text
pub cut_further : (pieces : List (Bor (List ℕ))) (piece : Bor (List ℕ)) (left more text : List ℕ) → left ≡ piece.now ++ more
    → concat (map (λ p. p.now) pieces) ++ left ≡ text → concat (map (λ p. p.now) (pieces ++ (piece ∷ []))) ++ more ≡ text
cut_further pieces piece left more text e h = one-more pieces piece more ∙ rw e at h

-- the records of one piece more
after-joined : (first : Result (Vec Record) NotInPieces) (read : List (Result (Vec Record) NotInPieces)) (found : Result (Vec Record) NotInPieces) (records : Vec Record)
    → ((front : List Record) → joined read ≡ Ok front → joined (read ++ (found ∷ [])) ≡ Ok (front ++ records.items))
    → (front : List Record) → joined (first ∷ read) ≡ Ok front → joined (first ∷ (read ++ (found ∷ []))) ≡ Ok (front ++ records.items)
unfolding joined
after-joined (Err fault) read found records more front h = absurd (cc h)
after-joined (Ok one) read found records more front h = by (joined read) refl
  where
    by : (others : Result (List Record) NotInPieces) → joined read ≡ others → joined (Ok one ∷ (read ++ (found ∷ []))) ≡ Ok (front ++ records.items)
    by (Err fault) e = absurd (cc (rw e at h))
    by (Ok rest) e =
        let is : front ≡ one.items ++ rest = cc (rw e at h) in
        rw (more rest e, is) (ap Ok (sym (append_assoc one.items rest records.items)))

pub joined-further : (read : List (Result (Vec Record) NotInPieces)) (found : Result (Vec Record) NotInPieces) (records : Vec Record) (front : List Record)
    → joined read ≡ Ok front → found ≡ Ok records → joined (read ++ (found ∷ [])) ≡ Ok (front ++ records.items)
unfolding joined
joined-further [] found records front h was =
    let none : front ≡ [] = cc h in
    rw (was, none) (ap Ok (append-nil records.items))
joined-further (first ∷ read) found records front h was =
    after-joined first read found records (λ rest e. joined-further read found records rest e was) front h
