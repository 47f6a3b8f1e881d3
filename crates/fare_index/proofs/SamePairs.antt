-- Two unordered pairs of cities are the same exactly where their lesser and their greater cities are.
use Rattle.std.proofs.Common.{◌≡◌, ℕ, Bool, true, false, cond, ◌&&◌, ◌||◌, List, bytes_eq, refl, ap, sym, ◌∙◌}
use Rattle.std.specs.Ordering.{is_lt, is_eq, ordering_reverse}
use Rattle.std.specs.declared.cmp.Ordering.{Ordering}
use Rattle.std.specs.declared.cmp.Ordering.TheVariants.{Less, Equal, Greater}
use Rattle.std.proofs.lemmas.Cmp.{nat_list_cmp_total}
use Rattle.std.proofs.lemmas.Map.Text.{is_eq-slice_cmp}
use Rattle.std.proofs.lemmas.Slice.Eq.{bytes_eq-Decides}
use Rattle.fare_index.specs.Pairs.{is_less, lesser, greater}

-- of two orders that are each other's reverse, both can't be less; where neither is less both are equal
not_both_less : (p q : Ordering) → p ≡ ordering_reverse q → is_lt p ≡ true → is_lt q ≡ true → ⊥
not_both_less Less Less h a b = cc
not_both_less _ _ h a b = cc

neither_less : (p q : Ordering) → p ≡ ordering_reverse q → is_lt p ≡ false → is_lt q ≡ false → is_eq p ≡ true
neither_less Equal q h a b = refl
neither_less Less q h a b = cc
neither_less Greater Less h a b = cc
neither_less Greater Equal h a b = cc
neither_less Greater Greater h a b = cc

less_one_way : (a b : List ℕ) → is_less a b ≡ true → is_less b a ≡ true → ⊥
less_one_way a b h g = not_both_less _ _ (nat_list_cmp_total.antisymm a b) h g

less_some_way : (a b : List ℕ) → is_less a b ≡ false → is_less b a ≡ false → a ≡ b
less_some_way a b h g =
    (bytes_eq-Decides a b).0 (sym (is_eq-slice_cmp a b) ∙ neither_less _ _ (nat_list_cmp_total.antisymm a b) h g)

-- two tests of which each gives the other are equal
same_tests : (p q : Bool) → (p ≡ true → q ≡ true) → (q ≡ true → p ≡ true) → p ≡ q
same_tests true q to back = sym (to refl)
same_tests false true to back = back refl
same_tests false false to back = refl

-- both of two tests that are true together
and_true : (p q : Bool) → (p && q) ≡ true → (p ≡ true) × (q ≡ true)
and_true true q h = (refl, h)
and_true false q h = cc

-- two of four lists are equal, and the other two
both_equal : (a b c d : List ℕ) → (bytes_eq a c && bytes_eq b d) ≡ true → (a ≡ c) × (b ≡ d)
both_equal a b c d h =
    let p = and_true (bytes_eq a c) (bytes_eq b d) h in
    ((bytes_eq-Decides a c).0 p.0, (bytes_eq-Decides b d).0 p.1)

equal_both : (a b c d : List ℕ) → a ≡ c → b ≡ d → (bytes_eq a c && bytes_eq b d) ≡ true
equal_both a b c d p q = rw ((bytes_eq-Decides a c).1 p, (bytes_eq-Decides b d).1 q) refl

-- a test, where another that isn't it can't be true
or_left : (p q : Bool) → (q ≡ true → p ≡ true) → p ≡ (p || q)
or_left true q h = refl
or_left false true h = h refl
or_left false false h = refl

or_right : (p q : Bool) → (p ≡ true → q ≡ true) → q ≡ (p || q)
or_right true q h = h refl
or_right false q h = refl

-- both cities are in their order in both pairs, or in one of them, or in neither
pair_cases : (a b c d : List ℕ) (l m : Bool) → is_less a b ≡ l → is_less c d ≡ m → (bytes_eq (cond l a b) (cond m c d) && bytes_eq (cond l b a) (cond m d c)) ≡ ((bytes_eq a c && bytes_eq b d) || (bytes_eq a d && bytes_eq b c))
pair_cases a b c d true true h g = or_left _ _ (λ e.
    let p = both_equal a b d c e in
    absurd (less_one_way a b h (ap (λ x. is_less b x) p.0 ∙ ap (λ x. is_less x d) p.1 ∙ g)))
pair_cases a b c d true false h g = or_right _ _ (λ e.
    let p = both_equal a b c d e in
    let same : is_less a b ≡ is_less c d = ap (λ x. is_less x b) p.0 ∙ ap (λ x. is_less c x) p.1 in
    cc)
pair_cases a b c d false true h g =
    same_tests (bytes_eq b c && bytes_eq a d) (bytes_eq a d && bytes_eq b c) (swapped b a c d) (swapped a b d c) ∙ or_right _ _ (λ e.
    let p = both_equal a b c d e in
    let same : is_less a b ≡ is_less c d = ap (λ x. is_less x b) p.0 ∙ ap (λ x. is_less c x) p.1 in
    cc)
  where
    swapped : (a b c d : List ℕ) → (bytes_eq a c && bytes_eq b d) ≡ true → (bytes_eq b d && bytes_eq a c) ≡ true
    swapped a b c d e = let p = both_equal a b c d e in equal_both b a d c p.1 p.0
pair_cases a b c d false false h g =
    same_tests (bytes_eq b d && bytes_eq a c) (bytes_eq a c && bytes_eq b d) (swapped b a d c) (swapped a b c d) ∙ or_left _ _ (λ e.
    let p = both_equal a b d c e in
    let back : is_less b a ≡ false = ap (λ x. is_less x a) p.1 ∙ ap (λ x. is_less c x) p.0 ∙ g in
    let same : a ≡ b = less_some_way a b h back in
    equal_both a b c d (same ∙ p.1) (sym same ∙ p.0))
  where
    swapped : (a b c d : List ℕ) → (bytes_eq a c && bytes_eq b d) ≡ true → (bytes_eq b d && bytes_eq a c) ≡ true
    swapped a b c d e = let p = both_equal a b c d e in equal_both b a d c p.1 p.0

-- the lesser and the greater cities of two pairs are the same exactly where the pairs are
pub unordered : (a b c d : List ℕ) → (bytes_eq (lesser a b) (lesser c d) && bytes_eq (greater a b) (greater c d)) ≡ ((bytes_eq a c && bytes_eq b d) || (bytes_eq a d && bytes_eq b c))
unordered a b c d = pair_cases a b c d (is_less a b) (is_less c d) refl refl
