-- At most one list is the first of some members in an order.
use Rattle.std.proofs.Common.{◌≡◌, ℕ, zero, suc, ◌≤◌, ◌⊎◌, Bool, true, false, List, [], ◌∷◌, length, refl, sym, subst, ◌∙◌, inl, inr, arith}
use Rattle.std.specs.Prelude.{All, Contains}
use Rattle.std.specs.List.{AllByRecursion}
use Rattle.std.proofs.lemmas.List.Elements.{recursion_from_All}
use Rattle.fare_trip.specs.Itinerary.{Itinerary}
use Rattle.fare_tariff.specs.Tariff.{Tariff}
use Rattle.fare_rules.specs.FirstK.{Priced, IsPriced, IsBefore, IsFirstK}
use Rattle.fare_rules.proofs.BestLemmas.{irreflexive}
use Rattle.fare_rules.proofs.MemberLemmas.{Member}
use Rattle.fare_ranking.specs.Ranking.{comes_before}
use Rattle.fare_ranking.proofs.RankingLemmas.{Rising, contained, rising}
use Rattle.fare_best.proofs.WalkedLemmas.{through}

true_false : true ≡ false → ⊥
true_false e = cc

module _ {A : Type 0} (before : A → A → Bool) (never : (x : A) → before x x ≡ false)
    (through_all : (x y z : A) → before x y ≡ true → before y z ≡ true → before x z ≡ true) where
  -- a member has its place among the first k
  abbrev HasPlace : ℕ → List A → A → Type 0
  HasPlace k xs z = Member z xs ⊎ ((length xs ≡ k) × AllByRecursion (λ x. before x z ≡ true) xs)

  -- a list is the first k of the members that meet something
  record IsFirst (P : A → Type 0) (k : ℕ) (xs : List A) : Type 0 where
    few : length xs ≤ k
    meets : AllByRecursion P xs
    rises : Rising before xs
    others : (z : A) → P z → HasPlace k xs z

  -- the first of two such lists is not behind that of the other
  first_not_behind : (k : ℕ) (y : A) (ys : List A) (x : A) → HasPlace k (y ∷ ys) x → Rising before (y ∷ ys) → (x ≡ y) ⊎ (before y x ≡ true)
  first_not_behind k y ys x (inl (inl e)) r = inl e
  first_not_behind k y ys x (inl (inr m)) r = inr (of_member ys r.0 m)
    where
      of_member : (zs : List A) → AllByRecursion (λ z. before y z ≡ true) zs → Member x zs → before y x ≡ true
      of_member [] a m = absurd m
      of_member (z ∷ zs) (p, a) (inl e) = subst (λ w. before y w ≡ true) (sym e) p
      of_member (z ∷ zs) (p, a) (inr m) = of_member zs a m
  first_not_behind k y ys x (inr full) r = inr full.1.0

  same_first : (k : ℕ) (x y : A) (xs ys : List A) → HasPlace k (y ∷ ys) x → HasPlace k (x ∷ xs) y → Rising before (x ∷ xs) → Rising before (y ∷ ys) → x ≡ y
  same_first k x y xs ys p q r s =
      elim (first_not_behind k y ys x p s) [
        | inl e ↦ e
        | inr above ↦ elim (first_not_behind k x xs y q r) [
          | inl e ↦ sym e
          | inr below ↦ absurd (true_false (sym (through_all x y x below above) ∙ never x))
        ]
      ]

  both_meet : (P Q : A → Type 0) (xs : List A) → AllByRecursion P xs → AllByRecursion Q xs → AllByRecursion (λ z. P z × Q z) xs
  both_meet P Q [] a b = tt
  both_meet P Q (x ∷ xs) (p, a) (q, b) = ((p, q), both_meet P Q xs a b)

  place_behind : (k : ℕ) (x : A) (xs : List A) (z : A) → before x z ≡ true → HasPlace (suc k) (x ∷ xs) z → HasPlace k xs z
  place_behind k x xs z h (inl (inl e)) = absurd (true_false (sym (subst (λ w. before x w ≡ true) e h) ∙ never x))
  place_behind k x xs z h (inl (inr m)) = inl m
  place_behind k x xs z h (inr full) = let n : suc (length xs) ≡ suc k = full.0 in inr (omega arith, full.1.1)

  behind : (P : A → Type 0) (k : ℕ) (x : A) (xs : List A) → IsFirst P (suc k) (x ∷ xs) → IsFirst (λ z. P z × (before x z ≡ true)) k xs
  behind P k x xs f =
      let few : suc (length xs) ≤ suc k = f.few in
      record {
        few = omega arith;
        meets = both_meet P (λ z. before x z ≡ true) xs f.meets.1 f.rises.0;
        rises = f.rises.1;
        others = λ z m. place_behind k x xs z m.1 (f.others z m.0);
      }

  first_is_same : (P : A → Type 0) (k : ℕ) (xs ys : List A) → IsFirst P k xs → IsFirst P k ys → xs ≡ ys
  first_is_same P k [] [] f g = refl
  first_is_same P k [] (y ∷ ys) f g =
      elim (f.others y g.meets.0) [
        | inl m ↦ absurd m
        | inr full ↦ let none : 0 ≡ k = full.0 in let few : suc (length ys) ≤ k = g.few in absurd (omega arith)
      ]
  first_is_same P k (x ∷ xs) [] f g =
      elim (g.others x f.meets.0) [
        | inl m ↦ absurd m
        | inr full ↦ let none : 0 ≡ k = full.0 in let few : suc (length xs) ≤ k = f.few in absurd (omega arith)
      ]
  first_is_same P zero (x ∷ xs) (y ∷ ys) f g = let few : suc (length xs) ≤ 0 = f.few in absurd (omega arith)
  first_is_same P (suc k) (x ∷ xs) (y ∷ ys) f g =
      let e : x ≡ y = same_first (suc k) x y xs ys (g.others x f.meets.0) (f.others y g.meets.0) f.rises g.rises in
      let Q : A → Type 0 = λ w. IsFirst (λ z. P z × (before w z ≡ true)) k ys in
      let rest : xs ≡ ys = first_is_same (λ z. P z × (before x z ≡ true)) k xs ys (behind P k x xs f) (subst Q (sym e) (behind P k y ys g)) in
      λ i. e i ∷ rest i

-- at most one list is First k
module _ (tariff : Tariff) (trip : Itinerary) (k : ℕ) where
  placed : (xs : List Priced) (z : Priced) → Contains xs z ⊎ ((length xs ≡ k) × All (λ x. IsBefore x z) xs) → HasPlace comes_before (λ x. irreflexive x.0 x.1) through k xs z
  placed xs z (inl c) = inl (contained z xs c)
  placed xs z (inr full) = inr (full.0, recursion_from_All (λ x. IsBefore x z) xs full.1)

  is_first : (xs : List Priced) → IsFirstK tariff trip k xs → IsFirst comes_before (λ x. irreflexive x.0 x.1) through (IsPriced tariff trip) k xs
  is_first xs f = record {
    few = f.at_most;
    meets = recursion_from_All (IsPriced tariff trip) xs f.lawful;
    rises = rising comes_before xs f.rising;
    others = λ z p. placed xs z (f.others z p);
  }

  pub first_is_one : (xs ys : List Priced) → IsFirstK tariff trip k xs → IsFirstK tariff trip k ys → xs ≡ ys
  first_is_one xs ys f g = first_is_same comes_before (λ x. irreflexive x.0 x.1) through (IsPriced tariff trip) k xs ys (is_first xs f) (is_first ys g)
