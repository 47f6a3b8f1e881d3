-- The lesser of two amounts, and the cheapest of some entries.
use Rattle.std.proofs.Common.{◌≡◌, refl, ℕ, zero, suc, ◌+◌, ◌<◌, ◌≤◌, ◌⊎◌, List, [], ◌∷◌, length, drop, get_or, min, ap, sym, subst, ◌∙◌, arith, inl, inr}
use Rattle.std.specs.Prelude.{Option, Some, None, IfSome, Contains}
use Rattle.std.proofs.lemmas.Bool.{cases_lt}
use Rattle.std.proofs.lemmas.List.{at_drop_more, at_drop_all}
use Rattle.std.proofs.lemmas.Option.{same_Some, none-some}
use Rattle.fare_component.specs.declared.table.entry.Entry.{Entry}
use Rattle.fare_bounds.specs.Covers.{least_cost, lesser}
use Rattle.fare_bounds.specs.Search.{cheapest}

-- the cheapest of what is left of some entries is the lesser of the first and of what is left behind it
pub cheapest_more : (entries : List Entry) (i : ℕ) (d : Entry) → i < length entries
    → cheapest (drop i entries) ≡ lesser (least_cost (get_or entries i d)) (cheapest (drop (i + 1) entries))
cheapest_more entries i d h = at_drop_more cheapest entries i d h

pub cheapest_all : (entries : List Entry) (i : ℕ) → length entries ≤ i → cheapest (drop i entries) ≡ None
cheapest_all entries i h = at_drop_all cheapest entries i h

-- the lesser of three amounts, whichever two come first
pub lesser_grouped : (a b c : Option ℕ) → lesser (lesser a b) c ≡ lesser a (lesser b c)
lesser_grouped None b c = refl
lesser_grouped (Some a) None c = refl
lesser_grouped (Some a) (Some b) None = refl
lesser_grouped (Some a) (Some b) (Some c) = ap Some (omega arith)

pub lesser_nothing : (a : Option ℕ) → lesser a None ≡ a
lesser_nothing None = refl
lesser_nothing (Some a) = refl

-- the lesser of two amounts is one of them
pub lesser_is : (a b : Option ℕ) (least : ℕ) → lesser a b ≡ Some least → (a ≡ Some least) ⊎ (b ≡ Some least)
lesser_is None b least e = inr e
lesser_is (Some a) None least e = inl e
lesser_is (Some a) (Some b) least e =
    let s = same_Some (min a b) least e in
    elim (cases_lt a b) [
      | inl less ↦ inl (ap Some (omega arith))
      | inr not_less ↦ inr (ap Some (omega arith))
    ]

-- and above neither
lesser_low_first : (a b : Option ℕ) (amount : ℕ) → a ≡ Some amount
    → (least : ℕ) × (lesser a b ≡ Some least) × (least ≤ amount)
lesser_low_first None b amount e = absurd (none-some amount e)
lesser_low_first (Some a) None amount e = (a, refl, omega (arith, same_Some a amount e))
lesser_low_first (Some a) (Some b) amount e = (min a b, refl, omega (arith, same_Some a amount e))

lesser_low_second : (a b : Option ℕ) (amount : ℕ) → b ≡ Some amount
    → (least : ℕ) × (lesser a b ≡ Some least) × (least ≤ amount)
lesser_low_second a None amount e = absurd (none-some amount e)
lesser_low_second None (Some b) amount e = (b, refl, omega (arith, same_Some b amount e))
lesser_low_second (Some a) (Some b) amount e = (min a b, refl, omega (arith, same_Some b amount e))

pub lesser_bound : (a b : Option ℕ) (most : ℕ) → IfSome a (λ x. x ≤ most) → IfSome b (λ x. x ≤ most)
    → IfSome (lesser a b) (λ x. x ≤ most)
lesser_bound None b most ha hb = hb
lesser_bound (Some a) None most ha hb = ha
lesser_bound (Some a) (Some b) most ha hb = omega arith

-- the cheapest entry costs no more than any
pub cheapest_low : (entries : List Entry) (entry : Entry) (cost : ℕ) → Contains entries entry
    → least_cost entry ≡ Some cost → (least : ℕ) × (cheapest entries ≡ Some least) × (least ≤ cost)
cheapest_low [] entry cost there e = absurd (omega (arith, there.1))
cheapest_low (first ∷ entries) entry cost (zero, within, is) e =
    lesser_low_first (least_cost first) (cheapest entries) cost (ap least_cost is ∙ e)
cheapest_low (first ∷ entries) entry cost (suc k, within, is) e =
    let rest = cheapest_low entries entry cost (k, omega arith, is) e in
    let here = lesser_low_second (least_cost first) (cheapest entries) rest.0 rest.1 in
    (here.0, here.1, omega (arith, here.2, rest.2))

-- and is one of them
pub cheapest_reached : (entries : List Entry) (least : ℕ) → cheapest entries ≡ Some least
    → (entry : Entry) × Contains entries entry × (least_cost entry ≡ Some least)
cheapest_reached [] least e = absurd (none-some least e)
cheapest_reached (first ∷ entries) least e =
    elim (lesser_is (least_cost first) (cheapest entries) least e) [
      | inl here ↦ (first, (0, omega arith, refl), here)
      | inr later ↦
          let found = cheapest_reached entries least later in
          (found.0, (suc found.1.0, omega (arith, found.1.1), found.1.2), found.2)
    ]
