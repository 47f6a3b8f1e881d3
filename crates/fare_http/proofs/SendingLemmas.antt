-- Bytes that are sent one piece after the other.
use Rattle.std.proofs.Common.{◌≡◌, ℕ, ◌+◌, List, [], ◌∷◌, ◌++◌, Option, None, Some, Result, Ok, Err, zero, suc, length, take, refl, sym, ap, ◌∙◌, arith, append_assoc, append-nil, length-append, subst}
use Rattle.std.proofs.Math.Seq.{take-append-add}
use Rattle.std.proofs.lemmas.List.{take-append-le}
use Rattle.std.specs.Prelude.{OnErr, OnOk, codes, decimal}
use Rattle.std.specs.Fmt.{digits}
use Rattle.fare_ports.specs.Door.{with_more_at}
use Rattle.fare_http.specs.Sending.{sent_more, Sends, SendsPrefix}

-- a list that grew twice at a place grew by both pieces
grown-twice : (lists : List (List ℕ)) (place : ℕ) (front back : List ℕ)
    → with_more_at (Some place) back (with_more_at (Some place) front lists) ≡ with_more_at (Some place) (front ++ back) lists
grown-twice [] place front back = refl
grown-twice (xs ∷ lists) zero front back = ap (λ ys. ys ∷ lists) (append_assoc xs front back)
grown-twice (xs ∷ lists) (suc place) front back = ap (λ ys. xs ∷ ys) (grown-twice lists place front back)

-- a list that grew by nothing is as it was
grown-none : (lists : List (List ℕ)) (place : ℕ) → with_more_at (Some place) [] lists ≡ lists
grown-none [] place = refl
grown-none (xs ∷ lists) zero = ap (λ ys. ys ∷ lists) (append-nil xs)
grown-none (xs ∷ lists) (suc place) = ap (λ ys. xs ∷ ys) (grown-none lists place)

-- no byte more was sent
pub sent_more-nil : (current : Option ℕ) (sent : Option (List (List ℕ))) → sent_more current sent [] ≡ sent
sent_more-nil None None = refl
sent_more-nil None (Some lists) = refl
sent_more-nil (Some place) None = refl
sent_more-nil (Some place) (Some lists) = ap Some (grown-none lists place)

sent_more-append : (current : Option ℕ) (sent : Option (List (List ℕ))) (front back : List ℕ)
    → sent_more current (sent_more current sent front) back ≡ sent_more current sent (front ++ back)
sent_more-append None None front back = refl
sent_more-append None (Some lists) front back = refl
sent_more-append (Some place) None front back = refl
sent_more-append (Some place) (Some lists) front back = ap Some (grown-twice lists place front back)

-- no byte was sent yet
pub sends-none : (current : Option ℕ) (sent : Option (List (List ℕ))) → Sends current current sent sent []
sends-none current sent = record { stays = refl; sent = sym (sent_more-nil current sent) }

-- a piece was sent after those before it
pub sends-both : {a b c : Option ℕ} {p q r : Option (List (List ℕ))} {front back : List ℕ}
    → Sends a b p q front → Sends b c q r back → Sends a c p r (front ++ back)
sends-both {a} {b} {c} {p} {q} {r} {front} {back} first second =
    let now : r ≡ sent_more a q back = subst (λ x. r ≡ sent_more x q back) first.stays second.sent in
    let both : r ≡ sent_more a (sent_more a p front) back = subst (λ x. r ≡ sent_more a x back) first.sent now in
    record { stays = second.stays ∙ first.stays; sent = both ∙ sent_more-append a p front back }

-- a prefix of the first piece is one of both
pub sends-first_prefix : {a b : Option ℕ} {p q : Option (List (List ℕ))} {front : List ℕ} (back : List ℕ)
    → SendsPrefix a b p q front → SendsPrefix a b p q (front ++ back)
sends-first_prefix {a} {b} {p} {q} {front} back first =
    let count = first.sent.0 in
    let below = first.sent.1 in
    let same = take-append-le count front back (omega (arith, below)) in
    record {
      stays = first.stays;
      sent = (count, omega (arith, below, length-append front back), first.sent.2 ∙ ap (sent_more a p) (sym same));
    }

-- after the first piece, a prefix of the second is one of both
pub sends-second_prefix : {a b c : Option ℕ} {p q r : Option (List (List ℕ))} {front back : List ℕ}
    → Sends a b p q front → SendsPrefix b c q r back → SendsPrefix a c p r (front ++ back)
sends-second_prefix {a} {b} {c} {p} {q} {r} {front} {back} first second =
    let count = second.sent.0 in
    let piece : Sends b c q r (take count back) = record { stays = second.stays; sent = second.sent.2 } in
    let both = sends-both first piece in
    record {
      stays = both.stays;
      sent = (
        length front + count,
        omega (arith, second.sent.1, length-append front back),
        both.sent ∙ ap (sent_more a p) (sym (take-append-add front back count)),
      );
    }

-- a fact that holds holds after a failure
pub on_err : {A E P : Type 0} (result : Result A E) → P → OnErr result P
on_err (Ok value) p = tt
on_err (Err fault) p = p

-- the last piece was sent behind the others
pub sends-last : {a b : Option ℕ} {p q : Option (List (List ℕ))} {front : List ℕ} {A E : Type 0}
    (c : Option ℕ) (r : Option (List (List ℕ))) (back : List ℕ) (result : Result A E)
    → Sends a b p q front → OnOk result (Sends b c q r back) → OnOk result (Sends a c p r (front ++ back))
sends-last c r back (Ok value) first last = sends-both first last
sends-last c r back (Err fault) first last = tt

-- a prefix of the last piece was sent behind the others
pub sends-last_prefix : {a b : Option ℕ} {p q : Option (List (List ℕ))} {front : List ℕ} {A E : Type 0}
    (c : Option ℕ) (r : Option (List (List ℕ))) (back : List ℕ) (result : Result A E)
    → Sends a b p q front → OnErr result (SendsPrefix b c q r back) → OnErr result (SendsPrefix a c p r (front ++ back))
sends-last_prefix c r back (Ok value) first last = tt
sends-last_prefix c r back (Err fault) first last = sends-second_prefix first last

-- the length of the text NO MEMORY
pub ten-digits : decimal 10 ≡ codes "10"
unfolding digits
ten-digits = refl
