-- Lists that grow by one more element, or by one more piece.
use Rattle.std.proofs.Common.{◌≡◌, ℕ, zero, suc, ◌+◌, ◌-◌, ◌<◌, ◌≤◌, List, [], ◌∷◌, ◌++◌, length, get_or, take, map, min, refl, sym, ap, ◌∙◌, arith, append_assoc, append-nil, add-one, length-take-le, ⊎_elim}
use Rattle.std.specs.List.{flat_map, range_with_len, enumerate_from}
use Rattle.std.proofs.lemmas.Bool.{cases_lt}
use Rattle.std.proofs.lemmas.List.FromFn.{length-map-range_with_len, map-range_with_len_more, take-map-range_with_len}
use Rattle.std.proofs.lemmas.List.{map-append, map_more, take_all, take_more}

-- numbers from one on, and one more
range_more : (a n j : ℕ) → a + n ≡ j → range_with_len a (n + 1) ≡ range_with_len a n ++ j ∷ []
range_more a zero j h = let e : a ≡ j = omega arith in rw e refl
range_more a (suc n) j h = let rest : range_with_len (a + 1) (n + 1) ≡ range_with_len (a + 1) n ++ j ∷ [] = range_more (a + 1) n j (omega arith) in
    rw (add-one (suc n)) (ap (λ xs. a ∷ xs) (rw (add-one n) at rest))

-- the pieces of a list with one more are its pieces and that one's
flat_map-push : {X A : Type 0} (f : X → List A) (xs : List X) (x : X) → flat_map f (xs ++ x ∷ []) ≡ flat_map f xs ++ f x
flat_map-push f [] x = append-nil (f x)
flat_map-push f (y ∷ xs) x = rw (flat_map-push f xs x) (sym (append_assoc (f y) (flat_map f xs) (f x)))

-- the pieces of numbers from one on, and those of one more
pub pieces_more : {X : Type 0} (f : ℕ → List X) (a n j : ℕ) → a + n ≡ j → flat_map f (range_with_len a (n + 1)) ≡ flat_map f (range_with_len a n) ++ f j
pieces_more f a n j next = rw (range_more a n j next) (flat_map-push f (range_with_len a n) j)

-- one more element of a list, as a function changes it
pub listed_more : {X Y : Type 0} (f : X → Y) (front : List Y) (xs : List X) (i : ℕ) (d : X) → i < length xs → (front ++ map f (take i xs)) ++ f (get_or xs i d) ∷ [] ≡ front ++ map f (take (i + 1) xs)
listed_more f front xs i d h = rw (map_more f xs i d h) (append_assoc front (map f (take i xs)) (f (get_or xs i d) ∷ []))

-- a list that gains an element that a function makes from the next number
pub mapped_more : {X : Type 0} (f : ℕ → X) (front now new : List X) (a n j m : ℕ) (v : X) → now ≡ front ++ map f (range_with_len a n) → new ≡ now ++ v ∷ [] → v ≡ f j → a + n ≡ j → m ≡ n + 1 → new ≡ front ++ map f (range_with_len a m)
mapped_more f front now new a n j m v before grown made next more =
    rw (grown, before, made, more, map-range_with_len_more f a n j next) (append_assoc front (map f (range_with_len a n)) (f j ∷ []))

-- a list that gains the piece that a function makes from the next number
pub joined_more : {X : Type 0} (f : ℕ → List X) (front now new : List X) (a n j m : ℕ) → now ≡ front ++ flat_map f (range_with_len a n) → new ≡ now ++ f j → a + n ≡ j → m ≡ n + 1 → new ≡ front ++ flat_map f (range_with_len a m)
joined_more f front now new a n j m before grown next more =
    rw (grown, before, more, pieces_more f a n j next) (append_assoc front (flat_map f (range_with_len a n)) (f j))

-- the first so many of a list and of another behind it
take-append : {X : Type 0} (n : ℕ) (xs ys : List X) → take n (xs ++ ys) ≡ take n xs ++ take (n - length xs) ys
take-append zero [] ys = refl
take-append zero (x ∷ xs) ys = let none : 0 - suc (length xs) ≡ 0 = omega arith in rw none refl
take-append (suc n) [] ys = let every : suc n - 0 ≡ suc n = omega arith in rw every refl
take-append (suc n) (x ∷ xs) ys =
    let fewer : suc n - suc (length xs) ≡ n - length xs = omega arith in
    rw fewer (ap (λ l. x ∷ l) (take-append n xs ys))

-- the numbered elements of a list and of another behind it
enumerate_from-append : {X : Type 0} (n : ℕ) (xs ys : List X) → enumerate_from n (xs ++ ys) ≡ enumerate_from n xs ++ enumerate_from (n + length xs) ys
enumerate_from-append n [] ys = let none : n + 0 ≡ n = omega arith in rw none refl
enumerate_from-append n (x ∷ xs) ys =
    let more : n + suc (length xs) ≡ (n + 1) + length xs = omega arith in
    rw more (ap (λ l. (n, x) ∷ l) (enumerate_from-append (n + 1) xs ys))

-- the first so many of the elements of pieces, and those of one more piece
pub first_more : {X : Type 0} (f : ℕ → List X) (i m k : ℕ) → k ≡ min m (length (flat_map f (range_with_len 0 i))) → take m (flat_map f (range_with_len 0 i)) ++ take (m - k) (f i) ≡ take m (flat_map f (range_with_len 0 (i + 1)))
first_more f i m k is =
    let left : m - k ≡ m - length (flat_map f (range_with_len 0 i)) = omega (arith, is) in
    rw (left, pieces_more f 0 i i (omega arith)) (sym (take-append m (flat_map f (range_with_len 0 i)) (f i)))

-- the first so many of what a function makes of numbers, where there may be fewer
pub first_made : {X : Type 0} (f : ℕ → X) (a n m k : ℕ) → k ≡ min m n → take m (map f (range_with_len a n)) ≡ map f (range_with_len a k)
first_made f a n m k is = ⊎_elim
    (λ (few : m < n). let same : k ≡ m = omega (arith, is, few) in rw same (take-map-range_with_len f a n m (omega arith)))
    (λ (all : n ≤ m).
    let same : k ≡ n = omega (arith, is, all) in
    rw same (take_all m (map f (range_with_len a n)) (rw (length-map-range_with_len f a n) all)))
    (cases_lt m n)

-- a list that gains what a function makes of more numbered elements
pub numbered_joined : {X Y : Type 0} (f : (ℕ × X) → Y) (front now new : List Y) (n j : ℕ) (xs ys : List X) → now ≡ front ++ map f (enumerate_from n xs) → new ≡ now ++ map f (enumerate_from j ys) → n + length xs ≡ j → new ≡ front ++ map f (enumerate_from n (xs ++ ys))
numbered_joined f front now new n j xs ys before grown next =
    rw (grown, before, ← next, enumerate_from-append n xs ys, map-append f (enumerate_from n xs) (enumerate_from (n + length xs) ys))
    (append_assoc front (map f (enumerate_from n xs)) (map f (enumerate_from (n + length xs) ys)))

-- a list that gains an element that a function makes from the next numbered element of another
pub numbered_more : {X Y : Type 0} (f : (ℕ × X) → Y) (front now new : List Y) (xs : List X) (i : ℕ) (x : X) (v : Y) → now ≡ front ++ map f (enumerate_from 0 (take i xs)) → new ≡ now ++ v ∷ [] → v ≡ f (i, x) → x ≡ get_or xs i x → i < length xs → new ≡ front ++ map f (enumerate_from 0 (take (i + 1) xs))
numbered_more f front now new xs i x v before grown made item h =
    let short : 0 + length (take i xs) ≡ i = rw (length-take-le i xs (omega arith)) (omega arith) in
    let more : take i xs ++ x ∷ [] ≡ take (i + 1) xs = sym (take_more xs i x h ∙ ap (λ y. take i xs ++ y ∷ []) (sym item)) in
    numbered_joined f front now new 0 i (take i xs) (x ∷ []) before (grown ∙ ap (λ y. now ++ y ∷ []) made) short
    ∙ ap (λ ys. front ++ map f (enumerate_from 0 ys)) more
