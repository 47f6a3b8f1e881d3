-- Lists whose elements are fit, and have rising ranks.
use Rattle.std.proofs.Common.{◌≡◌, ℕ, zero, suc, ◌+◌, ◌-◌, ◌<◌, ◌≤◌, Bool, true, false, cond, List, [], ◌∷◌, ◌++◌, length, take, map, None, refl, arith, add-zero, inl, inr, max}
use Rattle.std.specs.List.{flat_map, range_with_len, enumerate_from, position, position_or_len, count_by}
use Rattle.std.proofs.lemmas.List.Sums.{sum_by-cons}
use Rattle.std.proofs.lemmas.Bool.{cases_Bool, le-ltb}

-- each element is fit and ranks at least as high as `low`, higher than the one before it, and below `high`
unfoldable pub Rising : {A : Type 0} → (A → ℕ) → (A → Type 0) → ℕ → List A → ℕ → Type 0
Rising rank Fit low [] high = low ≤ high
Rising rank Fit low (x ∷ xs) high = Fit x × (low ≤ rank x) × Rising rank Fit (rank x + 1) xs high

-- the least rank is at most the limit
pub rising_bounds : {A : Type 0} (rank : A → ℕ) (Fit : A → Type 0) (low : ℕ) (xs : List A) (high : ℕ) → Rising rank Fit low xs high → low ≤ high
unfolding Rising
rising_bounds rank Fit low [] high h = h
rising_bounds rank Fit low (x ∷ xs) high h = omega (arith, h.1, rising_bounds rank Fit (rank x + 1) xs high h.2)

-- the bounds may be wider
pub rising_wider : {A : Type 0} (rank : A → ℕ) (Fit : A → Type 0) (low low' : ℕ) (xs : List A) (high high' : ℕ) → Rising rank Fit low xs high → low' ≤ low → high ≤ high' → Rising rank Fit low' xs high'
unfolding Rising
rising_wider rank Fit low low' [] high high' h below above = omega (arith, h)
rising_wider rank Fit low low' (x ∷ xs) high high' h below above =
    (h.0, omega (arith, h.1), rising_wider rank Fit (rank x + 1) (rank x + 1) xs high high' h.2 (omega arith) above)

-- one list behind another
pub Rising-append : {A : Type 0} (rank : A → ℕ) (Fit : A → Type 0) (low : ℕ) (xs : List A) (middle : ℕ) (ys : List A) (high : ℕ) → Rising rank Fit low xs middle → Rising rank Fit middle ys high → Rising rank Fit low (xs ++ ys) high
unfolding Rising
Rising-append rank Fit low [] middle ys high h k = rising_wider rank Fit middle low ys high high k h (omega arith)
Rising-append rank Fit low (x ∷ xs) middle ys high h k =
    (h.0, h.1, Rising-append rank Fit (rank x + 1) xs middle ys high h.2 k)

-- the first so many elements
pub Rising-take : {A : Type 0} (rank : A → ℕ) (Fit : A → Type 0) (n low : ℕ) (xs : List A) (high : ℕ) → Rising rank Fit low xs high → Rising rank Fit low (take n xs) high
unfolding Rising
Rising-take rank Fit zero low xs high h = rising_bounds rank Fit low xs high h
Rising-take rank Fit (suc n) low [] high h = h
Rising-take rank Fit (suc n) low (x ∷ xs) high h = (h.0, h.1, Rising-take rank Fit n (rank x + 1) xs high h.2)

-- a list that a function makes, element by element
pub Rising-map : {A B : Type 0} (rank : A → ℕ) (Fit : A → Type 0) (rank' : B → ℕ) (Fit' : B → Type 0) (f : A → B) → ((x : A) → Fit x → Fit' (f x) × (rank' (f x) ≡ rank x)) → (low : ℕ) (xs : List A) (high : ℕ) → Rising rank Fit low xs high → Rising rank' Fit' low (map f xs) high
unfolding Rising
Rising-map rank Fit rank' Fit' f made low [] high h = h
Rising-map rank Fit rank' Fit' f made low (x ∷ xs) high h =
    let same = made x h.0 in
    let rest : Rising rank' Fit' (rank x + 1) (map f xs) high = Rising-map rank Fit rank' Fit' f made (rank x + 1) xs high h.2 in
    (same.0, omega (arith, h.1, same.1), rw (← same.1) at rest)

-- a list that a function makes of the numbered elements
pub rising_numbered : {A B : Type 0} (rank : A → ℕ) (Fit : A → Type 0) (rank' : B → ℕ) (Fit' : B → Type 0) (f : (ℕ × A) → B) → ((k : ℕ) (x : A) → Fit x → Fit' (f (k, x)) × (rank' (f (k, x)) ≡ rank x)) → (n low : ℕ) (xs : List A) (high : ℕ) → Rising rank Fit low xs high → Rising rank' Fit' low (map f (enumerate_from n xs)) high
unfolding Rising
rising_numbered rank Fit rank' Fit' f made n low [] high h = h
rising_numbered rank Fit rank' Fit' f made n low (x ∷ xs) high h =
    let same = made n x h.0 in
    let rest : Rising rank' Fit' (rank x + 1) (map f (enumerate_from (n + 1) xs)) high = rising_numbered rank Fit rank' Fit' f made (n + 1) (rank x + 1) xs high h.2 in
    (same.0, omega (arith, h.1, same.1), rw (← same.1) at rest)

-- a list that a function makes of a row of numbers, each of which has bounds of its own
pub rising_row : {A : Type 0} (rank : A → ℕ) (Fit : A → Type 0) (f : ℕ → A) (bound : ℕ → ℕ) (a n : ℕ) → ((i : ℕ) → a ≤ i → i < a + n → Fit (f i) × (bound i ≤ rank (f i)) × (rank (f i) < bound (i + 1))) → Rising rank Fit (bound a) (map f (range_with_len a n)) (bound (a + n))
unfolding Rising
rising_row rank Fit f bound a zero each = rw add-zero (omega arith)
rising_row rank Fit f bound a (suc n) each =
    let here = each a (omega arith) (omega arith) in
    let rest : Rising rank Fit (bound (a + 1)) (map f (range_with_len (a + 1) n)) (bound ((a + 1) + n)) = rising_row rank Fit f bound (a + 1) n (λ i low high. each i (omega arith) (omega arith)) in
    let last : (a + 1) + n ≡ a + suc n = omega arith in
    let more = rw last at rest in
    (here.0, here.1, rising_wider rank Fit (bound (a + 1)) (rank (f a) + 1) (map f (range_with_len (a + 1) n)) (bound (a + suc n)) (bound (a + suc n)) more (omega (arith, here.2)) (omega arith))

-- the pieces that a function makes of a row of numbers, each of which has bounds of its own
pub rising_pieces : {A : Type 0} (rank : A → ℕ) (Fit : A → Type 0) (f : ℕ → List A) (bound : ℕ → ℕ) (a n : ℕ) → ((i : ℕ) → a ≤ i → i < a + n → Rising rank Fit (bound i) (f i) (bound (i + 1))) → Rising rank Fit (bound a) (flat_map f (range_with_len a n)) (bound (a + n))
unfolding Rising
rising_pieces rank Fit f bound a zero each = rw add-zero (omega arith)
rising_pieces rank Fit f bound a (suc n) each =
    let rest : Rising rank Fit (bound (a + 1)) (flat_map f (range_with_len (a + 1) n)) (bound ((a + 1) + n)) = rising_pieces rank Fit f bound (a + 1) n (λ i low high. each i (omega arith) (omega arith)) in
    let last : (a + 1) + n ≡ a + suc n = omega arith in
    Rising-append rank Fit (bound a) (f a) (bound (a + 1)) (flat_map f (range_with_len (a + 1) n)) (bound (a + suc n)) (each a (omega arith) (omega arith)) (rw last at rest)

-- where no element passes a test, its first place is the length
nowhere : {A : Type 0} (rank : A → ℕ) (Fit : A → Type 0) (p : A → Bool) (top low : ℕ) (xs : List A) (high : ℕ) → Rising rank Fit low xs high → high ≤ top → ((x : A) → rank x < top → p x ≡ false) → position_or_len p xs ≡ length xs
unfolding Rising
nowhere rank Fit p top low [] high h below fails = refl
nowhere rank Fit p top low (x ∷ xs) high h below fails =
    let bound = rising_bounds rank Fit (rank x + 1) xs high h.2 in
    let here : p x ≡ false = fails x (omega arith) in
    let rest : position_or_len p xs ≡ length xs = nowhere rank Fit p top (rank x + 1) xs high h.2 below fails in
    rw here (omega (arith, rest))

-- a test that fails of all below a rank has no place in a list that stays below it
pub no_place : {A : Type 0} (rank : A → ℕ) (Fit : A → Type 0) (p : A → Bool) (top low : ℕ) (xs : List A) (high : ℕ) → Rising rank Fit low xs high → high ≤ top → ((x : A) → rank x < top → p x ≡ false) → position p xs ≡ None
no_place rank Fit p top low xs high h below fails =
    let end = nowhere rank Fit p top low xs high h below fails in
    let past = le-ltb (position_or_len p xs) (length xs) (omega (arith, end)) in
    rw past refl

-- a test that passes only between two ranks passes of no more elements than there are ranks between them
pub few_pass : {A : Type 0} (rank : A → ℕ) (Fit : A → Type 0) (p : A → Bool) (from to low : ℕ) (xs : List A) (high : ℕ) → Rising rank Fit low xs high → ((x : A) → p x ≡ true → (from ≤ rank x) × (rank x < to)) → count_by p xs ≤ to - max from low
unfolding Rising
few_pass rank Fit p from to low [] high h between = omega arith
few_pass rank Fit p from to low (x ∷ xs) high h between =
    let rest : count_by p xs ≤ to - max from (rank x + 1) = few_pass rank Fit p from to (rank x + 1) xs high h.2 between in
    let step : count_by p (x ∷ xs) ≡ cond (p x) 1 0 + count_by p xs = sum_by-cons (λ y. cond (p y) 1 0) x xs in
    elim (cases_Bool (p x)) [
      | inl passes ↦
          let at = between x passes in
          let unit : ℕ = 1 in
          let one : cond (p x) 1 0 ≡ unit = rw passes refl in
          omega (arith, step, rest, one, at.0, at.1, h.1)
      | inr fails ↦
          let nil : ℕ = 0 in
          let none : cond (p x) 1 0 ≡ nil = rw fails refl in
          omega (arith, step, rest, none, h.1)
    ]
