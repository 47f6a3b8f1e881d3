-- A scan for the highest pair: what is best so far, and what is left.
use Rattle.std.proofs.Common.{◌≡◌, ℕ, ◌+◌, ◌<◌, ◌≤◌, Bool, true, false, cond, List, [], ◌∷◌, ◌++◌, Option, Some, None, find, filter_map, flat_map, max, refl, sym, ap, ◌∙◌, inl, inr, arith, nat_lt, ◌==◌}
use Rattle.std.specs.Option.{option_or, option_to_list}
use Rattle.std.specs.List.{cons_option}
use Rattle.std.proofs.lemmas.Bool.{cases_lt, lt-ltb}
use Rattle.std.proofs.lemmas.Bool.Decides.{nat_tests}
use Rattle.fare_rules.specs.Numbers.{numbers}
use Rattle.fare_rules.specs.Base.{Compared, greatest_amount, gives, highest}
use Rattle.fare_rules.proofs.NumberLemmas.{numbers_next, numbers_none}
use Rattle.fare_points.specs.Improved.{amount_to_exceed, improved}

-- the greatest amount isn't below the one that it begins with
at_least : (low : ℕ) (pairs : List Compared) → low ≤ greatest_amount low pairs
at_least low [] = omega arith
at_least low (found ∷ rest) = omega (arith, at_least low rest)

-- to begin with a greater amount is to compare with it
begun_higher : (low high : ℕ) (pairs : List Compared) → low ≤ high
    → max high (greatest_amount low pairs) ≡ greatest_amount high pairs
begun_higher low high [] h = omega arith
begun_higher low high (found ∷ rest) h = omega (arith, begun_higher low high rest h)

-- where the first pair doesn't give the greatest amount, the rest have it
not_first : (v g rest : ℕ) → (v == g) ≡ false → g ≡ max v rest → g ≡ rest
not_first v g rest t e = grind (arith, nat_tests)

-- what holds of what is found in the rest holds of what is found first
found_step : (b : Bool) (found : Compared) (o other : Option Compared) → (b ≡ false → option_or o other ≡ o)
    → option_or (cond b (Some found) o) other ≡ cond b (Some found) o
found_step true found o other k = refl
found_step false found o other k = k refl

-- a pair that gives the greatest amount is found where that is above the one that it begins with
found_at : (low g : ℕ) (pairs : List Compared) (other : Option Compared) → g ≡ greatest_amount low pairs → low < g
    → option_or (find (gives g) pairs) other ≡ find (gives g) pairs
found_at low g [] other e h = absurd (omega arith)
found_at low g (found ∷ rest) other e h =
    found_step (found.2 == g) found (find (gives g) rest) other
    (λ t. found_at low g rest other (not_first found.2 g (greatest_amount low rest) t e) h)

-- a first pair above what is to be exceeded is the highest, unless one of the rest is higher
raised : (low v g : ℕ) (o : Option Compared) (found : Compared) → low < v → v ≤ g
    → (v < g → option_or o (Some found) ≡ o) → cond (nat_lt low g) (cond (v == g) (Some found) o) None
    ≡ option_or (cond (nat_lt v g) o None) (Some found)
raised low v g o found h le k = grind (arith, nat_tests)

-- a first pair that isn't above it is passed over
kept : (low v g : ℕ) (o : Option Compared) (found : Compared) → v ≤ low
    → cond (nat_lt low g) (cond (v == g) (Some found) o) None ≡ cond (nat_lt low g) o None
kept low v g o found h = grind (arith, nat_tests)

-- a first pair above the amount is the highest unless one of the rest is higher
highest_raised : (low : ℕ) (found : Compared) (rest : List Compared) → low < found.2
    → highest low (found ∷ rest) ≡ option_or (highest found.2 rest) (Some found)
highest_raised low found rest h =
    let g : ℕ = greatest_amount found.2 rest in
    let e : max found.2 (greatest_amount low rest) ≡ g = begun_higher low found.2 rest (omega arith) in
    ap (λ n. cond (nat_lt low n) (cond (found.2 == n) (Some found) (find (gives n) rest)) None) e
    ∙ raised low found.2 g (find (gives g) rest) found h (at_least found.2 rest) (λ k. found_at found.2 g rest (Some found) refl k)

-- any other first pair is passed over
highest_kept : (low : ℕ) (found : Compared) (rest : List Compared) → found.2 ≤ low
    → highest low (found ∷ rest) ≡ highest low rest
highest_kept low found rest h =
    let g : ℕ = greatest_amount low rest in
    let e : max found.2 g ≡ g = omega (arith, at_least low rest) in
    ap (λ n. cond (nat_lt low n) (cond (found.2 == n) (Some found) (find (gives n) rest)) None) e
    ∙ kept low found.2 g (find (gives g) rest) found h

-- what is found first stands before what is best so far
or_twice : (o best : Option Compared) (found : Compared)
    → option_or (option_or o (Some found)) best ≡ option_or o (Some found)
or_twice None best found = refl
or_twice (Some other) best found = refl

-- two equal choices are none
no_choice : (b : Bool) (o : Option Compared) → cond b o o ≡ o
no_choice true o = refl
no_choice false o = refl

-- with no pair more the best stays
pub improved_none : (amount : ℕ) (best : Option Compared) → improved amount best [] ≡ best
unfolding improved
improved_none amount best =
    let t : ℕ = amount_to_exceed amount best in
    ap (λ o. option_or o best) (no_choice (nat_lt t t) None)

-- a pair above the best is the best from then on
improved_raised : (amount : ℕ) (best : Option Compared) (found : Compared) (rest : List Compared)
    → amount_to_exceed amount best < found.2 → improved amount best (found ∷ rest) ≡ improved amount (Some found) rest
unfolding improved
improved_raised amount best found rest h =
    ap (λ o. option_or o best) (highest_raised (amount_to_exceed amount best) found rest h)
    ∙ or_twice (highest found.2 rest) best found

-- any other pair leaves it
improved_kept : (amount : ℕ) (best : Option Compared) (found : Compared) (rest : List Compared)
    → found.2 ≤ amount_to_exceed amount best → improved amount best (found ∷ rest) ≡ improved amount best rest
unfolding improved
improved_kept amount best found rest h =
    ap (λ o. option_or o best) (highest_kept (amount_to_exceed amount best) found rest h)

not_above : (a b : ℕ) → b ≤ a → nat_lt a b ≡ false
not_above a b h = grind (arith, nat_tests)

-- one pair more
pub improved_one : (amount : ℕ) (best : Option Compared) (found : Compared)
    → improved amount best (found ∷ []) ≡ cond (nat_lt (amount_to_exceed amount best) found.2) (Some found) best
improved_one amount best found =
    elim (cases_lt (amount_to_exceed amount best) found.2) [
      | inl h ↦ improved_raised amount best found [] h ∙ improved_none amount (Some found) ∙ sym (ap (λ b. cond b (Some found) best) (lt-ltb (amount_to_exceed amount best) found.2 h))
      | inr h ↦ improved_kept amount best found [] h ∙ improved_none amount best ∙ sym (ap (λ b. cond b (Some found) best) (not_above (amount_to_exceed amount best) found.2 h))
    ]

-- more pairs, and then more again
pub improved_more : (amount : ℕ) (best : Option Compared) (xs ys : List Compared)
    → improved amount best (xs ++ ys) ≡ improved amount (improved amount best xs) ys
improved_more amount best [] ys = ap (λ b. improved amount b ys) (sym (improved_none amount best))
improved_more amount best (found ∷ xs) ys =
    elim (cases_lt (amount_to_exceed amount best) found.2) [
      | inl h ↦ improved_raised amount best found (xs ++ ys) h ∙ improved_more amount (Some found) xs ys ∙ ap (λ b. improved amount b ys) (sym (improved_raised amount best found xs h))
      | inr h ↦ improved_kept amount best found (xs ++ ys) h ∙ improved_more amount best xs ys ∙ ap (λ b. improved amount b ys) (sym (improved_kept amount best found xs h))
    ]

-- one answer before others, as a list
given_first : (o : Option Compared) (rest : List Compared) → cons_option o rest ≡ option_to_list o ++ rest
given_first None rest = refl
given_first (Some found) rest = refl

-- the pairs of a range that are found, one number on
pub improved_next : (amount : ℕ) (best : Option Compared) (f : ℕ → Option Compared) (first past : ℕ) → first < past
    → improved amount best (filter_map f (numbers first past))
    ≡ improved amount (improved amount best (option_to_list (f first))) (filter_map f (numbers (first + 1) past))
improved_next amount best f first past h =
    let rest : List Compared = filter_map f (numbers (first + 1) past) in
    ap (λ l. improved amount best (filter_map f l)) (numbers_next first past h)
    ∙ ap (improved amount best) (given_first (f first) rest)
    ∙ improved_more amount best (option_to_list (f first)) rest

-- an empty range has none
pub improved_past : (amount : ℕ) (best : Option Compared) (f : ℕ → Option Compared) (first past : ℕ) → past ≤ first
    → improved amount best (filter_map f (numbers first past)) ≡ best
improved_past amount best f first past h =
    ap (λ l. improved amount best (filter_map f l)) (numbers_none first past h) ∙ improved_none amount best

-- the lists of pairs of a range, one number on
pub improved_at : (amount : ℕ) (best : Option Compared) (f : ℕ → List Compared) (first past : ℕ) → first < past
    → improved amount best (flat_map f (numbers first past))
    ≡ improved amount (improved amount best (f first)) (flat_map f (numbers (first + 1) past))
improved_at amount best f first past h =
    let rest : List Compared = flat_map f (numbers (first + 1) past) in
    ap (λ l. improved amount best (flat_map f l)) (numbers_next first past h)
    ∙ improved_more amount best (f first) rest

-- an empty range has none
pub improved_end : (amount : ℕ) (best : Option Compared) (f : ℕ → List Compared) (first past : ℕ) → past ≤ first
    → improved amount best (flat_map f (numbers first past)) ≡ best
improved_end amount best f first past h =
    ap (λ l. improved amount best (flat_map f l)) (numbers_none first past h) ∙ improved_none amount best

or_none : (o : Option Compared) → option_or o None ≡ o
or_none None = refl
or_none (Some found) = refl

-- with nothing before, the best of some pairs is the highest
pub improved_first : (amount : ℕ) (pairs : List Compared) → improved amount None pairs ≡ highest amount pairs
unfolding improved
improved_first amount pairs = or_none (highest amount pairs)

exceeded : (amount : ℕ) (o : Option Compared) (found : Compared)
    → amount_to_exceed amount (option_or o (Some found)) ≡ amount_to_exceed found.2 o
exceeded amount None found = refl
exceeded amount (Some other) found = refl

-- the greatest amount is that of the highest pair, or the first amount where no pair is higher
pub amount_of_highest : (amount : ℕ) (pairs : List Compared)
    → greatest_amount amount pairs ≡ amount_to_exceed amount (highest amount pairs)
amount_of_highest amount [] = sym (ap (amount_to_exceed amount) (no_choice (nat_lt amount amount) None))
amount_of_highest amount (found ∷ rest) =
    elim (cases_lt amount found.2) [
      | inl h ↦ begun_higher amount found.2 rest (omega arith) ∙ amount_of_highest found.2 rest ∙ sym (exceeded amount (highest found.2 rest) found) ∙ sym (ap (amount_to_exceed amount) (highest_raised amount found rest h))
      | inr h ↦ (let e : max found.2 (greatest_amount amount rest) ≡ greatest_amount amount rest = omega (arith, at_least amount rest) in e) ∙ amount_of_highest amount rest ∙ sym (ap (amount_to_exceed amount) (highest_kept amount found rest h))
    ]
