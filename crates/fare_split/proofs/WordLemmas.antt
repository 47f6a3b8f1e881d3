-- Each step keeps the rule of the word.
use Rattle.std.proofs.Common.{◌≡◌, ◌≢◌, ℕ, zero, suc, ◌≤◌, min, [], ◌∷◌, length, set, refl, sym, ◌∙◌, subst, ⊎_elim, arith, length-set, get_or-set_same}
use Rattle.std.specs.Prelude.{slice_index}
use mathlib.Core.Option.{none, some, some-injective, some-ne-none}
use lib.ListN.{get_elem?}
use Rattle.atomic_table.specs.Table.{State, step, keeps, stepped, opening, Allows, Splits}
use Rattle.atomic_table.proofs.Lists.{at_set, at_snoc, set_again}
use Rattle.fare_split.specs.declared.word.View.{View}
use Rattle.fare_split.specs.PriceWord.{view, first_view, Fits, IsPriceWord, Known, Looks, Tells}

-- the rule holds after a step that leaves a number in the word, no less than the floor and no more than before, and a
-- view that fits it
stepped_to : (floor : ℕ) (s : State (Unit {0}) View) (id n : ℕ) (me : Known) (w : View) → IsPriceWord floor s → floor ≤ n
    → n ≤ slice_index s.words 0 → Fits floor n w → IsPriceWord floor (stepped s 0 n id me.1 w keeps)
stepped_to floor s id n me w r low high fits =
    let wide : length s.words ≡ 1 = r.one in
    let here : slice_index (set s.words 0 n) 0 ≡ n = get_or-set_same s.words 0 n 0 (omega arith) in
    record {
      one = length-set s.words 0 n ∙ wide;
      low = subst (λ m. floor ≤ m) (sym here) low;
      views = λ seat u e. subst (λ m. Fits floor m u) (sym here) (⊎_elim
          (λ (x : (seat ≡ id) × (w ≡ u)). subst (Fits floor n) x.1 fits)
          (λ (x : (seat ≢ id) × (get_elem? s.views seat ≡ some u)).
          let was = r.views seat u x.1 in
          let up : slice_index s.words 0 ≤ u.least = was.0 in
          (omega arith, was.1))
          (at_set s.views id seat w u e));
    }

pub looks : (floor slots id : ℕ) (me : Known)
    → Allows (IsPriceWord floor) slots id me 0 (λ n. n) (Looks (step slots 0 0 0 none) me)
looks floor slots id me s r homes at small =
    let n : ℕ = slice_index s.words 0 in
    let mine = r.views id me.0 at in
    let w : View = view me.0.floor n in
    let low : floor ≤ n = r.low in
    let up : n ≤ me.0.least = mine.0 in
    let same : me.0.floor ≡ floor = mine.1 in (
      w,
      keeps,
      tt,
      stepped_to floor s id n me w r low (omega arith) (omega arith, same),
      (omega arith, up, refl),
    )

pub tells : (floor slots id price : ℕ) (me : Known) → me.0.floor ≤ price
    → Allows (IsPriceWord floor) slots id me 0 (λ n. min n price) (Tells (step slots 0 price 0 none) me)
tells floor slots id price me above s r homes at small =
    let n : ℕ = slice_index s.words 0 in
    let mine = r.views id me.0 at in
    let w : View = view me.0.floor (min me.0.least price) in
    let low : floor ≤ n = r.low in
    let up : n ≤ me.0.least = mine.0 in
    let same : me.0.floor ≡ floor = mine.1 in (
      w,
      keeps,
      tt,
      stepped_to floor s id (min n price) me w r (omega arith) (omega arith) (omega arith, same),
      refl,
    )

pub copies : (floor id : ℕ) (v : View) → Splits (IsPriceWord floor) id v v v
copies floor id v s r at =
    record {
      one = r.one;
      low = r.low;
      views = λ seat u e. ⊎_elim
          (λ was. r.views seat u (subst (λ l. get_elem? l seat ≡ some u) (set_again s.views id v at) was))
          (λ (same : v ≡ u). subst (Fits floor (slice_index s.words 0)) same (r.views id v at))
          (at_snoc (set s.views id v) v u seat e);
    }

pub opens : (floor : ℕ) → floor ≤ 18446744073709551615
    → IsPriceWord floor (opening (18446744073709551615 ∷ []) [] (first_view floor))
opens floor low = record { one = refl; low = low; views = only }
  where
    only : (seat : ℕ) (u : View) → get_elem? (first_view floor ∷ []) seat ≡ some u
        → Fits floor 18446744073709551615 u
    only zero u e = subst (Fits floor 18446744073709551615) (some-injective _ _ e) (omega arith, refl)
    only (suc seat) u e = absurd (some-ne-none u (sym e))
