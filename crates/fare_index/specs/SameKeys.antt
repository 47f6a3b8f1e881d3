-- Two keys are the same by the test exactly where they are equal.
use Rattle.std.proofs.Common.{◌≡◌, ℕ, Bool, true, false, ◌&&◌, List, Option, Some, None, bytes_eq, refl, ap, sym, ◌∙◌}
use Rattle.std.specs.Cmp.{IsEquivalence, IsPartialEquivalence}
use Rattle.std.proofs.lemmas.Slice.Eq.{bytes_eq-Decides}
use Rattle.fare_codes.specs.declared.indicator.Indicator.{Indicator}
use Rattle.fare_codes.specs.declared.indicator.Indicator.TheVariants.{WH, EH, AT, PA, AP}
use Rattle.fare_codes.specs.Same.{same_indicator}
use Rattle.fare_index.specs.declared.key.Key.{Key}
use Rattle.fare_index.specs.declared.key.Key.TheVariants as kind
use Rattle.fare_index.specs.Key.{same_key, same_via}

-- both of two tests that are true together
and_true : (p q : Bool) → (p && q) ≡ true → (p ≡ true) × (q ≡ true)
and_true true q h = (refl, h)
and_true false q h = cc

-- equal by the test is equal
bytes_eq-true : (a b : List ℕ) → bytes_eq a b ≡ true → a ≡ b
bytes_eq-true a b h = (bytes_eq-Decides a b).0 h

bytes_eq-refl : (a : List ℕ) → bytes_eq a a ≡ true
bytes_eq-refl a = (bytes_eq-Decides a a).1 refl

same_indicator-true : (a b : Indicator) → same_indicator a b ≡ true → a ≡ b
same_indicator-true WH WH h = refl
same_indicator-true EH EH h = refl
same_indicator-true AT AT h = refl
same_indicator-true PA PA h = refl
same_indicator-true AP AP h = refl
same_indicator-true _ _ h = cc

same_indicator-refl : (a : Indicator) → same_indicator a a ≡ true
same_indicator-refl WH = refl
same_indicator-refl EH = refl
same_indicator-refl AT = refl
same_indicator-refl PA = refl
same_indicator-refl AP = refl

same_via-true : (a b : Option (List ℕ)) → same_via a b ≡ true → a ≡ b
same_via-true None None h = refl
same_via-true (Some a) (Some b) h = ap Some (bytes_eq-true a b h)
same_via-true _ _ h = cc

same_via-refl : (a : Option (List ℕ)) → same_via a a ≡ true
same_via-refl None = refl
same_via-refl (Some a) = bytes_eq-refl a

-- keys that are the same by the test are equal
pub same_key-true : (a b : Key) → same_key a b ≡ true → a ≡ b
same_key-true (kind.City a) (kind.City b) h = ap kind.City (bytes_eq-true a b h)
same_key-true (kind.Currency a) (kind.Currency b) h = ap kind.Currency (bytes_eq-true a b h)
same_key-true (kind.Rule a) (kind.Rule b) h = ap kind.Rule (bytes_eq-true a b h)
same_key-true (kind.Fares a b i) (kind.Fares c d j) h =
    let p = and_true (bytes_eq a c && bytes_eq b d) (same_indicator i j) h in
    let q = and_true (bytes_eq a c) (bytes_eq b d) p.0 in
    let from = bytes_eq-true a c q.0 in
    let to = bytes_eq-true b d q.1 in
    let ind = same_indicator-true i j p.1 in
    λ k. kind.Fares (from k) (to k) (ind k)
same_key-true (kind.Permitted a b i) (kind.Permitted c d j) h =
    let p = and_true (bytes_eq a c && bytes_eq b d) (same_indicator i j) h in
    let q = and_true (bytes_eq a c) (bytes_eq b d) p.0 in
    let from = bytes_eq-true a c q.0 in
    let to = bytes_eq-true b d q.1 in
    let ind = same_indicator-true i j p.1 in
    λ k. kind.Permitted (from k) (to k) (ind k)
same_key-true (kind.Ticketed a b) (kind.Ticketed c d) h =
    let q = and_true (bytes_eq a c) (bytes_eq b d) h in
    let from = bytes_eq-true a c q.0 in
    let to = bytes_eq-true b d q.1 in
    λ k. kind.Ticketed (from k) (to k)
same_key-true (kind.Extra a b i v) (kind.Extra c d j w) h =
    let o = and_true (bytes_eq a c && bytes_eq b d && same_indicator i j) (same_via v w) h in
    let p = and_true (bytes_eq a c && bytes_eq b d) (same_indicator i j) o.0 in
    let q = and_true (bytes_eq a c) (bytes_eq b d) p.0 in
    let from = bytes_eq-true a c q.0 in
    let to = bytes_eq-true b d q.1 in
    let ind = same_indicator-true i j p.1 in
    let via = same_via-true v w o.1 in
    λ k. kind.Extra (from k) (to k) (ind k) (via k)
same_key-true _ _ h = cc

-- each key is the same as itself
pub same_key-refl : (a : Key) → same_key a a ≡ true
same_key-refl (kind.City a) = bytes_eq-refl a
same_key-refl (kind.Currency a) = bytes_eq-refl a
same_key-refl (kind.Rule a) = bytes_eq-refl a
same_key-refl (kind.Fares a b i) = rw (bytes_eq-refl a, bytes_eq-refl b, same_indicator-refl i) refl
same_key-refl (kind.Permitted a b i) = rw (bytes_eq-refl a, bytes_eq-refl b, same_indicator-refl i) refl
same_key-refl (kind.Ticketed a b) = rw (bytes_eq-refl a, bytes_eq-refl b) refl
same_key-refl (kind.Extra a b i v) = rw (bytes_eq-refl a, bytes_eq-refl b, same_indicator-refl i, same_via-refl v) refl

-- two tests of which each gives the other are equal
same_tests : (p q : Bool) → (p ≡ true → q ≡ true) → (q ≡ true → p ≡ true) → p ≡ q
same_tests true q to back = sym (to refl)
same_tests false true to back = back refl
same_tests false false to back = refl

same_key-flipped : (a b : Key) → same_key a b ≡ true → same_key b a ≡ true
same_key-flipped a b h = ap (λ k. same_key k a) (sym (same_key-true a b h)) ∙ same_key-refl a

same_key-symm : (a b : Key) → same_key a b ≡ same_key b a
same_key-symm a b = same_tests (same_key a b) (same_key b a) (same_key-flipped a b) (same_key-flipped b a)

pub same_key-IsEquivalence : IsEquivalence same_key
same_key-IsEquivalence = record {
  refl = same_key-refl;
  symm = same_key-symm;
  congr = λ a b c h. ap (λ k. same_key k c) (same_key-true a b h);
}

pub same_key-IsPartialEquivalence : IsPartialEquivalence same_key
same_key-IsPartialEquivalence = record {
  symm = same_key-symm;
  trans = λ a b c h g. ap (λ k. same_key k c) (same_key-true a b h) ∙ g;
}
