-- Lists whose members stand in an order: one more member, and the first few.
use Rattle.std.proofs.Common.{◌≡◌, ℕ, zero, suc, ◌+◌, ◌<◌, ◌≤◌, ◌⊎◌, Bool, true, false, List, [], ◌∷◌, length, take, drop, get_or, Option, Some, None, refl, ap, sym, subst, ◌∙◌, inl, inr, arith}
use Rattle.std.specs.Prelude.{slice_get, Contains, insert}
use Rattle.std.specs.List.{AllByRecursion, AllPairs}
use Rattle.std.proofs.Math.Numerals.{add-one}
use Rattle.std.proofs.Math.Seq.{drop-cons, drop-length}
use Rattle.std.proofs.lemmas.List.Elements.{All-from_recursion, recursion_from_All}
use Rattle.std.proofs.lemmas.List.Kept.{AllPairs-cons}
use Rattle.std.proofs.lemmas.Bool.{cases_Bool}
use Rattle.fare_rules.proofs.MemberLemmas.{Member}
use Rattle.fare_ranking.specs.Ranking.{ranked_with, place_of, is_taken}

some_same : {A : Type 0} (x y : A) → Some x ≡ Some y → x ≡ y
some_same x y e = cc

true_false : true ≡ false → ⊥
true_false e = cc

none_same : {A : Type 0} (x : A) → ◌≡◌ {A = Option A} None (Some x) → ⊥
none_same x e = cc

pub contained : {A : Type 0} (x : A) (xs : List A) → Contains xs x → Member x xs
contained x [] c = let h : c.0 < 0 = c.1 in absurd (omega arith)
contained x (y ∷ ys) (zero, h, e) = inl (sym e)
contained x (y ∷ ys) (suc k, h, e) = inr (contained x ys (k, omega arith, e))

every_weaker : {A : Type 0} (P Q : A → Type 0) → ((x : A) → P x → Q x) → (xs : List A) → AllByRecursion P xs → AllByRecursion Q xs
every_weaker P Q each [] a = tt
every_weaker P Q each (x ∷ xs) (p, a) = (each x p, every_weaker P Q each xs a)

pub every_take : {A : Type 0} (P : A → Type 0) (n : ℕ) (xs : List A) → AllByRecursion P xs → AllByRecursion P (take n xs)
every_take P zero xs a = tt
every_take P (suc n) [] a = tt
every_take P (suc n) (x ∷ xs) (p, a) = (p, every_take P n xs a)

pub every_member : {A : Type 0} (P : A → Type 0) (x : A) (xs : List A) → AllByRecursion P xs → Member x xs → P x
every_member P x [] a m = absurd m
every_member P x (y ∷ ys) (p, a) (inl e) = subst P (sym e) p
every_member P x (y ∷ ys) (p, a) (inr m) = every_member P x ys a m

pub every_of_members : {A : Type 0} (P : A → Type 0) (xs : List A) → ((x : A) → Member x xs → P x) → AllByRecursion P xs
every_of_members P [] each = tt
every_of_members P (x ∷ xs) each = (each x (inl refl), every_of_members P xs (λ y m. each y (inr m)))

every_get : {A : Type 0} (P : A → Type 0) (xs : List A) (k : ℕ) (x : A) → AllByRecursion P xs → slice_get xs k ≡ Some x → P x
every_get P [] k x a e = absurd (none_same x e)
every_get P (y ∷ ys) zero x (p, a) e = subst P (some_same y x e) p
every_get P (y ∷ ys) (suc k) x (p, a) e = every_get P ys k x a e

module _ {A : Type 0} (before : A → A → Bool) where
  abbrev pub Before : A → A → Type 0
  Before x y = before x y ≡ true

  -- each member is before all behind it
  abbrev pub Rising : List A → Type 0
  Rising [] = Unit {0}
  Rising (x ∷ xs) = AllByRecursion (λ y. before x y ≡ true) xs × Rising xs

  pub rising : (xs : List A) → AllPairs (λ x y. before x y ≡ true) xs → Rising xs
  rising [] a = tt
  rising (x ∷ xs) a = (
    recursion_from_All (λ y. before x y ≡ true) xs (λ k d h. a 0 (suc k) d (omega arith) (omega arith)),
    rising xs (λ i j d up within. a (suc i) (suc j) d (omega arith) (omega arith)),
  )

  pub all_pairs : (xs : List A) → Rising xs → AllPairs (λ x y. before x y ≡ true) xs
  all_pairs [] r = λ i j d up within. absurd (omega arith)
  all_pairs (x ∷ xs) (a, r) =
      AllPairs-cons (λ x y. before x y ≡ true) x xs (All-from_recursion (λ y. before x y ≡ true) xs a) (all_pairs xs r)

  pub take_rising : (n : ℕ) (xs : List A) → Rising xs → Rising (take n xs)
  take_rising zero xs r = tt
  take_rising (suc n) [] r = tt
  take_rising (suc n) (x ∷ xs) (a, r) = (every_take (λ y. before x y ≡ true) n xs a, take_rising n xs r)

  -- of a member the first few hold it, or are as many as asked for and all before it
  pub take_placed : (n : ℕ) (xs : List A) (other : A) → Rising xs → Member other xs
      → Member other (take n xs) ⊎ ((length (take n xs) ≡ n) × AllByRecursion (λ y. before y other ≡ true) (take n xs))
  take_placed zero xs other r m = inr (refl, tt)
  take_placed (suc n) [] other r m = absurd m
  take_placed (suc n) (x ∷ xs) other (a, r) (inl e) = inl (inl e)
  take_placed (suc n) (x ∷ xs) other (a, r) (inr m) =
      elim (take_placed n xs other r m) [
        | inl there ↦ inl (inr there)
        | inr full ↦ inr (ap suc full.0, (every_member (λ y. before x y ≡ true) other xs a m, full.1))
      ]

  module _ (one : A) where
    pub with_every : (P : A → Type 0) (xs : List A) → P one → AllByRecursion P xs → AllByRecursion P (ranked_with before one xs)
    with_every P [] p a = (p, tt)
    with_every P (x ∷ xs) p (q, a) =
        elim (cases_Bool (before x one)) [
          | inl t ↦ rw t (q, with_every P xs p a)
          | inr f ↦ elim (cases_Bool (before one x)) [ inl u ↦ rw (f, u) (p, (q, a)) | inr g ↦ rw (f, g) (q, a) ]
        ]

    pub with_kept : (other : A) (xs : List A) → Member other xs → Member other (ranked_with before one xs)
    with_kept other [] m = absurd m
    with_kept other (x ∷ xs) (inl e) =
        elim (cases_Bool (before x one)) [
          | inl t ↦ rw t (inl e)
          | inr f ↦ elim (cases_Bool (before one x)) [ inl u ↦ rw (f, u) (inr (inl e)) | inr g ↦ rw (f, g) (inl e) ]
        ]
    with_kept other (x ∷ xs) (inr m) =
        elim (cases_Bool (before x one)) [
          | inl t ↦ rw t (inr (with_kept other xs m))
          | inr f ↦ elim (cases_Bool (before one x)) [ inl u ↦ rw (f, u) (inr (inr m)) | inr g ↦ rw (f, g) (inr m) ]
        ]

    -- the order tells one from what differs
    abbrev pub IsToldApart : A → Type 0
    IsToldApart x = before x one ≡ false → before one x ≡ false → one ≡ x

    pub with_has : (xs : List A) → AllByRecursion (λ x. before x one ≡ false → before one x ≡ false → one ≡ x) xs → Member one (ranked_with before one xs)
    with_has [] a = inl refl
    with_has (x ∷ xs) (apart, a) =
        elim (cases_Bool (before x one)) [
          | inl t ↦ rw t (inr (with_has xs a))
          | inr f ↦ elim (cases_Bool (before one x)) [ inl u ↦ rw (f, u) (inl refl) | inr g ↦ rw (f, g) (inl (apart f g)) ]
        ]

    pub with_long : (xs : List A) → length xs ≤ length (ranked_with before one xs)
    with_long [] = omega arith
    with_long (x ∷ xs) =
        let more : length xs ≤ length (ranked_with before one xs) = with_long xs in
        elim (cases_Bool (before x one)) [
          | inl t ↦ rw t (omega arith)
          | inr f ↦ elim (cases_Bool (before one x)) [ inl u ↦ rw (f, u) (omega arith) | inr g ↦ rw (f, g) (omega arith) ]
        ]

    -- where it is put
    pub put_here : (xs : List A) → is_taken before one (slice_get xs (place_of before one xs)) ≡ false
        → insert xs (place_of before one xs) one ≡ ranked_with before one xs
    put_here [] free = refl
    put_here (x ∷ xs) free =
        elim (cases_Bool (before x one)) [
          | inl t ↦
              let free_behind : is_taken before one (slice_get xs (place_of before one xs)) ≡ false = rw t at free in
              rw t (ap (λ ys. x ∷ ys) (put_here xs free_behind))
          | inr f ↦ elim (cases_Bool (before one x)) [
            | inl u ↦ rw (f, u) refl
            | inr g ↦ let never : true ≡ false = rw (f, g) at free in absurd (true_false never)
          ]
        ]

    pub stays : (xs : List A) → is_taken before one (slice_get xs (place_of before one xs)) ≡ true
        → xs ≡ ranked_with before one xs
    stays [] taken = absurd (true_false (sym taken))
    stays (x ∷ xs) taken =
        elim (cases_Bool (before x one)) [
          | inl t ↦
              let taken_behind : is_taken before one (slice_get xs (place_of before one xs)) ≡ true = rw t at taken in
              rw t (ap (λ ys. x ∷ ys) (stays xs taken_behind))
          | inr f ↦ elim (cases_Bool (before one x)) [
            | inl u ↦ let never : false ≡ true = rw (f, u) at taken in absurd (true_false (sym never))
            | inr g ↦ rw (f, g) refl
          ]
        ]

    -- member by member
    front : (xs : List A) (i : ℕ) (x : A) → i < length xs → x ≡ get_or xs i x → drop i xs ≡ x ∷ drop (i + 1) xs
    front xs i x h same = rw add-one (drop-cons xs i x h ∙ ap (λ y. y ∷ drop (suc i) xs) (sym same))

    pub place_over : (xs : List A) (i : ℕ) (x : A) (all : ℕ) → i < length xs → x ≡ get_or xs i x → before x one ≡ true
        → all ≡ i + place_of before one (drop i xs) → all ≡ (i + 1) + place_of before one (drop (i + 1) xs)
    place_over xs i x all h same t so_far =
        let step : place_of before one (drop i xs) ≡ suc (place_of before one (drop (i + 1) xs)) =
        ap (place_of before one) (front xs i x h same) ∙ rw t refl in
        omega arith

    pub place_here : (xs : List A) (i : ℕ) (x : A) (all : ℕ) → i < length xs → x ≡ get_or xs i x → before x one ≡ false
        → all ≡ i + place_of before one (drop i xs) → i ≡ all
    place_here xs i x all h same f so_far =
        let step : place_of before one (drop i xs) ≡ 0 = ap (place_of before one) (front xs i x h same) ∙ rw f refl in
        omega arith

    pub place_past : (xs : List A) (i : ℕ) (all : ℕ) → i ≡ length xs → all ≡ i + place_of before one (drop i xs)
        → length xs ≡ all
    place_past xs i all past so_far =
        let none : place_of before one (drop i xs) ≡ 0 =
        ap (λ n. place_of before one (drop n xs)) past ∙ ap (place_of before one) (drop-length xs) in
        omega arith

    pub placed_within : (xs : List A) → place_of before one xs ≤ length xs
    placed_within [] = omega arith
    placed_within (x ∷ xs) =
        let more : place_of before one xs ≤ length xs = placed_within xs in
        elim (cases_Bool (before x one)) [ inl t ↦ rw t (omega arith) | inr f ↦ rw f (omega arith) ]

  module _ (through : (x y z : A) → before x y ≡ true → before y z ≡ true → before x z ≡ true) (one : A) where
    pub with_rising : (xs : List A) → Rising xs → Rising (ranked_with before one xs)
    with_rising [] r = (tt, tt)
    with_rising (x ∷ xs) (a, r) =
        elim (cases_Bool (before x one)) [
          | inl t ↦ rw t (with_every one (λ y. before x y ≡ true) xs t a, with_rising xs r)
          | inr f ↦ elim (cases_Bool (before one x)) [
            | inl u ↦ rw (f, u) ((u, every_weaker (λ y. before x y ≡ true) (λ y. before one y ≡ true) (λ y h. through one x y u h) xs a), (a, r))
            | inr g ↦ rw (f, g) (a, r)
          ]
        ]

    -- the first few stay before what they were before
    pub full_before : (n : ℕ) (xs : List A) (other : A) → length xs ≡ n → AllByRecursion (λ y. before y other ≡ true) xs
        → AllByRecursion (λ y. before y other ≡ true) (take n (ranked_with before one xs))
    full_before zero xs other e a = tt
    full_before (suc n) [] other e a = let none : length {A = A} [] ≡ suc n = e in absurd (omega arith)
    full_before (suc n) (x ∷ xs) other e (b, a) =
        let len : length xs ≡ n = omega arith in
        elim (cases_Bool (before x one)) [
          | inl t ↦ rw t (b, full_before n xs other len a)
          | inr f ↦ elim (cases_Bool (before one x)) [
            | inl u ↦ rw (f, u) (through one x other u b, every_take (λ y. before y other ≡ true) n (x ∷ xs) (b, a))
            | inr g ↦ rw (f, g) (b, every_take (λ y. before y other ≡ true) n xs a)
          ]
        ]

  -- the first few, each of which costs no more than the last
  module _ (price : A → ℕ) (dearer : (x y : A) → before x y ≡ true → price x ≤ price y) where
    pub costs_no_more : (xs : List A) (j : ℕ) (last : A) → Rising xs → length xs ≤ suc j → slice_get xs j ≡ Some last
        → (length xs ≡ suc j) × AllByRecursion (λ x. price x ≤ price last) xs
    costs_no_more [] j last r few e = absurd (none_same last e)
    costs_no_more (x ∷ []) zero last r few e =
        let same : x ≡ last = some_same x last e in
        let P : A → Type 0 = λ y. price x ≤ price y in
        (refl, (subst P same (omega arith), tt))
    costs_no_more (x ∷ y ∷ xs) zero last r few e = absurd (omega arith)
    costs_no_more (x ∷ xs) (suc j) last (a, r) few e =
        let rest = costs_no_more xs j last r (omega arith) e in
        (ap suc rest.0, (dearer x last (every_get (λ y. before x y ≡ true) xs j last a e), rest.1))

  -- what holds of the last and of all that is before it holds of each
  pub all_up_to : (P : A → Type 0) (xs : List A) (j : ℕ) (last : A) → Rising xs → length xs ≤ suc j → slice_get xs j ≡ Some last → P last
      → ((x : A) → before x last ≡ true → P x) → (length xs ≡ suc j) × AllByRecursion P xs
  all_up_to P [] j last r few e p each = absurd (none_same last e)
  all_up_to P (x ∷ []) zero last r few e p each = (refl, (subst P (sym (some_same x last e)) p, tt))
  all_up_to P (x ∷ y ∷ xs) zero last r few e p each = absurd (omega arith)
  all_up_to P (x ∷ xs) (suc j) last (a, r) few e p each =
      let rest = all_up_to P xs j last r (omega arith) e p each in
      (ap suc rest.0, (each x (every_get (λ y. before x y ≡ true) xs j last a e), rest.1))
