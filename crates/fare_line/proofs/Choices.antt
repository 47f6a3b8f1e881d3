-- One of two readings, by what each of them returned.
use Rattle.std.proofs.Common.{◌≡◌, ℕ, min, List, Result, Ok, Err, refl, subst}
use Rattle.fare_line.specs.reader.Reading.{Gives, either}

-- the first one was read
pub first_found : {X : Type 0} (found : Result X ℕ) (x : X) (rest : List ℕ) (a b : Result (X × List ℕ) ℕ)
    → found ≡ Ok x → Gives found rest a → either a b ≡ Ok (x, rest)
first_found {X} found x rest a b is gave =
    let one : a ≡ Ok (x, rest) = subst (λ (r : Result X ℕ). Gives r rest a) is gave in
    rw one refl

-- the first one stopped, and the second was read
pub second_found : {X : Type 0} (found other : Result X ℕ) (x : X) (left : ℕ) (behind rest : List ℕ) (a b : Result (X × List ℕ) ℕ)
    → found ≡ Err left → Gives found behind a → other ≡ Ok x → Gives other rest b → either a b ≡ Ok (x, rest)
second_found {X} found other x left behind rest a b stops gave is gave' =
    let one : a ≡ Err left = subst (λ (r : Result X ℕ). Gives r behind a) stops gave in
    let two : b ≡ Ok (x, rest) = subst (λ (r : Result X ℕ). Gives r rest b) is gave' in
    rw (one, two) refl

-- both stopped
pub both_stop : {X : Type 0} (found other : Result X ℕ) (left more least : ℕ) (behind rest : List ℕ) (a b : Result (X × List ℕ) ℕ)
    → found ≡ Err left → Gives found behind a → other ≡ Err more → Gives other rest b → least ≡ min left more
    → either a b ≡ Err least
both_stop {X} found other left more least behind rest a b stops gave is gave' e =
    let one : a ≡ Err left = subst (λ (r : Result X ℕ). Gives r behind a) stops gave in
    let two : b ≡ Err more = subst (λ (r : Result X ℕ). Gives r rest b) is gave' in
    rw (one, two, e) refl
