-- Order is total: facts about which of two parts, and of two constructions, is before the other.
use Rattle.std.proofs.Common.{◌≡◌, ℕ, ◌<◌, ◌⊎◌, true, ◌&&◌, List, [], ◌∷◌, ◌++◌, refl, eqb, ltb, sym, subst, ◌∙◌, arith, inl, inr}
use Rattle.std.specs.declared.cmp.Ordering.TheVariants.{Less, Equal, Greater}
use Rattle.std.proofs.lemmas.Bool.{cases_order, lt-ltb, le-ltb, ltb-true, eqb-true, eq-eqb, or_cases, and_parts}
use Rattle.fare_rules.specs.declared.part.Part.{Part}
use Rattle.fare_rules.specs.Order.{compare_numbers, compare_parts, tie, is_less, is_before}

-- a part is before another at the same place
abbrev pub PartBefore : Part → Part → Type 0
PartBefore x y = (y.end < x.end) ⊎ ((y.end ≡ x.end) × ((x.fare < y.fare) ⊎ ((x.fare ≡ y.fare) × (x.unit < y.unit))))

numbers_tell : (a b : ℕ) → ((compare_numbers a b ≡ Less) × (a < b)) ⊎ ((compare_numbers a b ≡ Equal) × (a ≡ b))
    ⊎ ((compare_numbers a b ≡ Greater) × (b < a))
numbers_tell a b =
    elim (cases_order a b) [
      | inl e ↦ inr (inl (rw (le-ltb a b (omega arith), le-ltb b a (omega arith)), e))
      | inr other ↦ elim other [
        | inl l ↦ inl (rw (lt-ltb a b l), l)
        | inr g ↦ inr (inr (rw (le-ltb a b (omega arith), lt-ltb b a g), g))
      ]
    ]

same_part : (x y : Part) → y.end ≡ x.end → x.fare ≡ y.fare → x.unit ≡ y.unit → x ≡ y
same_part x y e f u = λ i. record { end = sym e i; unit = u i; fare = f i }

pub parts_tell : (x y : Part) → ((compare_parts x y ≡ Less) × PartBefore x y) ⊎ ((compare_parts x y ≡ Equal) × (x ≡ y))
    ⊎ ((compare_parts x y ≡ Greater) × PartBefore y x)
unfolding compare_parts
parts_tell x y =
    elim (numbers_tell y.end x.end) [
      | inl (e, h) ↦ inl (rw e, inl h)
      | inr rest ↦ elim rest [
        | inr (e, h) ↦ inr (inr (rw e, inl h))
        | inl (e, same) ↦ elim (numbers_tell x.fare y.fare) [
          | inl (f, h) ↦ inl (rw (e, f), inr (same, inl h))
          | inr more ↦ elim more [
            | inr (f, h) ↦ inr (inr (rw (e, f), inr (sym same, inl h)))
            | inl (f, alike) ↦ elim (numbers_tell x.unit y.unit) [
              | inl (u, h) ↦ inl (rw (e, f, u), inr (same, inr (alike, h)))
              | inr last ↦ elim last [
                | inl (u, equal) ↦ inr (inl (rw (e, f, u), same_part x y same alike equal))
                | inr (u, h) ↦ inr (inr (rw (e, f, u), inr (sym same, inr (sym alike, h))))
              ]
            ]
          ]
        ]
      ]
    ]

pub part_before_trans : (x y z : Part) → PartBefore x y → PartBefore y z → PartBefore x z
part_before_trans x y z (inl a) (inl b) = inl (omega arith)
part_before_trans x y z (inl a) (inr b) = inl (omega arith)
part_before_trans x y z (inr a) (inl b) = inl (omega arith)
part_before_trans x y z (inr (e, inl a)) (inr (f, inl b)) = inr (omega arith, inl (omega arith))
part_before_trans x y z (inr (e, inl a)) (inr (f, inr b)) = inr (omega arith, inl (omega arith))
part_before_trans x y z (inr (e, inr a)) (inr (f, inl b)) = inr (omega arith, inl (omega arith))
part_before_trans x y z (inr (e, inr a)) (inr (f, inr b)) = inr (omega arith, inr (omega arith, omega arith))

pub part_before_itself : (x : Part) → PartBefore x x → ⊥
part_before_itself x (inl a) = omega arith
part_before_itself x (inr (e, inl a)) = omega arith
part_before_itself x (inr (e, inr a)) = omega arith

-- a list is before another by its first differing part
abbrev pub ListBefore : List Part → List Part → Type 0
ListBefore [] ys = ⊥
ListBefore (x ∷ xs) [] = ⊥
ListBefore (x ∷ xs) (y ∷ ys) = PartBefore x y ⊎ ((x ≡ y) × ListBefore xs ys)

-- one of two lists is a front of the other
abbrev pub IsFront : List Part → List Part → Type 0
IsFront xs ys = ((rest : List Part) × (ys ≡ xs ++ rest)) ⊎ ((rest : List Part) × (xs ≡ ys ++ rest))

front_more : (x y : Part) (xs ys : List Part) → x ≡ y → IsFront xs ys → IsFront (x ∷ xs) (y ∷ ys)
front_more x y xs ys e (inl (rest, f)) = inl (rest, λ i. sym e i ∷ f i)
front_more x y xs ys e (inr (rest, f)) = inr (rest, λ i. e i ∷ f i)

pub tie_tells : (xs ys : List Part) → ((tie xs ys ≡ Less) × ListBefore xs ys) ⊎ ((tie xs ys ≡ Equal) × IsFront xs ys)
    ⊎ ((tie xs ys ≡ Greater) × ListBefore ys xs)
tie_tells [] ys = inr (inl (refl, inl (ys, refl)))
tie_tells (x ∷ xs) [] = inr (inl (refl, inr (x ∷ xs, refl)))
tie_tells (x ∷ xs) (y ∷ ys) =
    elim (parts_tell x y) [
      | inl (e, h) ↦ inl (rw e, inl h)
      | inr rest ↦ elim rest [
        | inr (e, h) ↦ inr (inr (rw e, inl h))
        | inl (e, same) ↦ elim (tie_tells xs ys) [
          | inl (f, h) ↦ inl (rw e f, inr (same, h))
          | inr more ↦ elim more [
            | inl (f, h) ↦ inr (inl (rw e f, front_more x y xs ys same h))
            | inr (f, h) ↦ inr (inr (rw e f, inr (sym same, h)))
          ]
        ]
      ]
    ]

pub list_before_trans : (xs ys zs : List Part) → ListBefore xs ys → ListBefore ys zs → ListBefore xs zs
list_before_trans [] ys zs h k = absurd h
list_before_trans (x ∷ xs) [] zs h k = absurd h
list_before_trans (x ∷ xs) (y ∷ ys) [] h k = absurd k
list_before_trans (x ∷ xs) (y ∷ ys) (z ∷ zs) (inl h) (inl k) = inl (part_before_trans x y z h k)
list_before_trans (x ∷ xs) (y ∷ ys) (z ∷ zs) (inl h) (inr (e, k)) = inl (subst (PartBefore x) e h)
list_before_trans (x ∷ xs) (y ∷ ys) (z ∷ zs) (inr (e, h)) (inl k) = inl (subst (λ p. PartBefore p z) (sym e) k)
list_before_trans (x ∷ xs) (y ∷ ys) (z ∷ zs) (inr (e, h)) (inr (f, k)) = inr (e ∙ f, list_before_trans xs ys zs h k)

pub list_before_itself : (xs : List Part) → ListBefore xs xs → ⊥
list_before_itself [] h = h
list_before_itself (x ∷ xs) (inl h) = part_before_itself x h
list_before_itself (x ∷ xs) (inr (e, h)) = list_before_itself xs h

-- a construction with its price is before another
abbrev pub Before : List Part → ℕ → List Part → ℕ → Type 0
Before xs px ys py = (px < py) ⊎ ((px ≡ py) × ListBefore xs ys)

front_before : (xs rest : List Part) → ListBefore xs (xs ++ rest) → ⊥
front_before [] rest h = h
front_before (x ∷ xs) rest (inl h) = part_before_itself x h
front_before (x ∷ xs) rest (inr (e, h)) = front_before xs rest h

back_before : (xs rest : List Part) → ListBefore (xs ++ rest) xs → ⊥
back_before [] [] h = h
back_before [] (r ∷ rest) h = h
back_before (x ∷ xs) rest (inl h) = part_before_itself x h
back_before (x ∷ xs) rest (inr (e, h)) = back_before xs rest h

front_is_not_before : (xs ys : List Part) → IsFront xs ys → ListBefore xs ys → ⊥
front_is_not_before xs ys (inl (rest, e)) h = front_before xs rest (subst (ListBefore xs) e h)
front_is_not_before xs ys (inr (rest, e)) h = back_before ys rest (subst (λ zs. ListBefore zs ys) e h)

not_equal_less : is_less Equal ≡ true → ⊥
not_equal_less e = cc

not_greater_less : is_less Greater ≡ true → ⊥
not_greater_less e = cc

less_of_before : (xs ys : List Part) → ListBefore xs ys → tie xs ys ≡ Less
less_of_before xs ys h =
    elim (tie_tells xs ys) [
      | inl (e, k) ↦ e
      | inr rest ↦ elim rest [
        | inl (e, k) ↦ absurd (front_is_not_before xs ys k h)
        | inr (e, k) ↦ absurd (list_before_itself xs (list_before_trans xs ys xs h k))
      ]
    ]

before_of_less : (xs ys : List Part) → is_less (tie xs ys) ≡ true → ListBefore xs ys
before_of_less xs ys h =
    elim (tie_tells xs ys) [
      | inl (e, k) ↦ k
      | inr rest ↦ elim rest [ inl (e, k) ↦ absurd (not_equal_less (rw e at h)) | inr (e, k) ↦ absurd (not_greater_less (rw e at h)) ]
    ]

pub before_tells : (xs ys : List Part) (px py : ℕ) → is_before xs px ys py ≡ true → Before xs px ys py
unfolding is_before
before_tells xs ys px py h =
    elim (or_cases (ltb px py) (eqb px py && is_less (tie xs ys)) h) [
      | inl l ↦ inl (ltb-true px py l)
      | inr both ↦
          let parts = and_parts (eqb px py) (is_less (tie xs ys)) both in
          inr (eqb-true px py parts.0, before_of_less xs ys parts.1)
    ]

pub before_says : (xs ys : List Part) (px py : ℕ) → Before xs px ys py → is_before xs px ys py ≡ true
unfolding is_before
before_says xs ys px py (inl l) = rw (lt-ltb px py l)
before_says xs ys px py (inr (e, h)) = rw (le-ltb px py (omega arith), eq-eqb px py e, less_of_before xs ys h)

pub before_trans : (xs ys zs : List Part) (px py pz : ℕ) → Before xs px ys py → Before ys py zs pz → Before xs px zs pz
before_trans xs ys zs px py pz (inl a) (inl b) = inl (omega arith)
before_trans xs ys zs px py pz (inl a) (inr (f, b)) = inl (omega arith)
before_trans xs ys zs px py pz (inr (e, a)) (inl b) = inl (omega arith)
before_trans xs ys zs px py pz (inr (e, a)) (inr (f, b)) = inr (e ∙ f, list_before_trans xs ys zs a b)

pub before_itself : (xs : List Part) (p : ℕ) → Before xs p xs p → ⊥
before_itself xs p (inl a) = omega arith
before_itself xs p (inr (e, h)) = list_before_itself xs h

-- two constructions, of which neither is a front of the other, are in order
pub before_cases : (xs ys : List Part) (px py : ℕ)
    → Before xs px ys py ⊎ Before ys py xs px ⊎ ((px ≡ py) × IsFront xs ys)
before_cases xs ys px py =
    elim (cases_order px py) [
      | inl e ↦ elim (tie_tells xs ys) [
        | inl (t, h) ↦ inl (inr (e, h))
        | inr rest ↦ elim rest [
          | inl (t, h) ↦ inr (inr (e, h))
          | inr (t, h) ↦ inr (inl (inr (sym e, h)))
        ]
      ]
      | inr other ↦ elim other [ inl l ↦ inl (inl l) | inr g ↦ inr (inl (inl g)) ]
    ]
