-- The lesser and the sum of two amounts, and the numbers of a row.
use Rattle.std.proofs.Common.{◌≡◌, refl, ℕ, ◌+◌, ◌<◌, ◌≤◌, min, max, List, length, set, sym, subst, ◌∙◌, inl, inr, arith, get_or}
use Rattle.std.specs.Prelude.{Option, Some, None}
use Rattle.std.proofs.lemmas.Bool.{cases_eq}
use Rattle.std.proofs.lemmas.Option.{none-some, same_Some}
use Rattle.std.proofs.lemmas.List.{get_or-set_same, get_or-set_other}
use Rattle.fare_bounds.specs.Covers.{lesser, rest_at}
use Rattle.fare_legs.specs.Costs.{IsUpTo}
use Rattle.fare_legs.specs.Floor.{added, capped, greater}

-- the lesser of two amounts is no more than either
pub lesser_first : (a b : Option ℕ) (amount : ℕ) → a ≡ Some amount → IsUpTo amount (lesser a b)
lesser_first None b amount e = absurd (none-some amount e)
lesser_first (Some a) None amount e = (a, refl, omega (arith, same_Some a amount e))
lesser_first (Some a) (Some b) amount e = (min a b, refl, omega (arith, same_Some a amount e))

pub lesser_second : (a b : Option ℕ) (amount : ℕ) → b ≡ Some amount → IsUpTo amount (lesser a b)
lesser_second None b amount e = (amount, e, omega arith)
lesser_second (Some a) None amount e = absurd (none-some amount e)
lesser_second (Some a) (Some b) amount e = (min a b, refl, omega (arith, same_Some b amount e))

-- a lesser number is up to no more
pub up_more : (a b : ℕ) (found : Option ℕ) → a ≤ b → IsUpTo a found → IsUpTo b found
up_more a b found h up = let low : up.0 ≤ a = up.2 in (up.0, up.1, omega arith)

pub up_first : (a b : Option ℕ) (most : ℕ) → IsUpTo most a → IsUpTo most (lesser a b)
up_first a b most up = let least = lesser_first a b up.0 up.1 in up_more up.0 most (lesser a b) up.2 least

pub up_second : (a b : Option ℕ) (most : ℕ) → IsUpTo most b → IsUpTo most (lesser a b)
up_second a b most up = let least = lesser_second a b up.0 up.1 in up_more up.0 most (lesser a b) up.2 least

-- a sum is there where both amounts are
pub added_of : (a b : Option ℕ) (x y : ℕ) → a ≡ Some x → b ≡ Some y → added a b ≡ Some (capped (x + y))
added_of a b x y e f = rw (e, f) refl

-- and is no more than both together
pub capped_low : (x : ℕ) → capped x ≤ x
capped_low x = omega arith

pub added_up : (a b found : Option ℕ) → found ≡ added a b → (x y : ℕ) → a ≡ Some x → b ≡ Some y → IsUpTo (x + y) found
added_up a b found is x y e f = (capped (x + y), is ∙ added_of a b x y e f, capped_low (x + y))

-- what holds of the items of a row below a point, where the item at the point is put
pub row_more : {A : Type 0} (P : ℕ → Option A → Type 0) (row : List (Option A)) (p : ℕ) (item : Option A) → p < length row
    → ((j : ℕ) → j < p → P j (get_or row j None)) → P p item → (j : ℕ) → j < p + 1 → P j (get_or (set row p item) j None)
row_more P row p item within before here j below =
    elim (cases_eq j p) [
      | inl same ↦
          let Q : ℕ → Type 0 = λ n. P n (get_or (set row p item) n None) in
          subst Q (sym same) (subst (P p) (sym (get_or-set_same row p item None within)) here)
      | inr other ↦ subst (P j) (sym (get_or-set_other row p j item None other)) (before j (omega arith))
    ]

-- what holds of each number of a row, where that at a point is put and what holds of the others goes on
pub row_put : (Before After : ℕ → Option ℕ → Type 0) (row : List (Option ℕ)) (p : ℕ) (number : Option ℕ) → p < length row
    → ((j : ℕ) → Before j (rest_at row j)) → ((j : ℕ) (found : Option ℕ) → (j ≡ p → ⊥) → Before j found → After j found)
    → After p number → (j : ℕ) → After j (rest_at (set row p number) j)
row_put Before After row p number within before goes here j =
    elim (cases_eq j p) [
      | inl same ↦
          let Q : ℕ → Type 0 = λ n. After n (rest_at (set row p number) n) in
          subst Q (sym same) (subst (After p) (sym (get_or-set_same row p number None within)) here)
      | inr other ↦ subst (After j) (sym (get_or-set_other row p j number None other)) (goes j (rest_at row j) other (before j))
    ]

-- what is under both of two amounts is under the greater of them
pub greater_up : (a b found : Option ℕ) (most : ℕ) → found ≡ greater a b → IsUpTo most a → IsUpTo most b → IsUpTo most found
greater_up None b found most is up more = absurd (none-some up.0 up.1)
greater_up (Some x) None found most is up more = absurd (none-some more.0 more.1)
greater_up (Some x) (Some y) found most is up more =
    let first : x ≡ up.0 = same_Some x up.0 up.1 in
    let second : y ≡ more.0 = same_Some y more.0 more.1 in
    let low : up.0 ≤ most = up.2 in
    let high : more.0 ≤ most = more.2 in
    (max x y, is, omega arith)
