-- What two lists have in common, where no record of either comes again in it: it is one list in some order.
use Rattle.std.proofs.Common.{◌≡◌, Bool, true, false, not, cond, ◌&&◌, ◌||◌, List, [], ◌∷◌, ◌++◌, filter, refl, ap, subst, sym, ◌∙◌}
use Rattle.std.specs.List.Sorted.{IsPermutation}
use Rattle.std.proofs.lemmas.List.Sorted.{IsPermutation-refl, IsPermutation-sym, IsPermutation-trans, IsPermutation-cons, IsPermutation-middle, IsPermutation-append_left, IsPermutation-filter_both}
use Rattle.fare_records.specs.declared.record.Record.{Record}
use Rattle.fare_changes.specs.SameRecord.{same_record}
use Rattle.fare_changes.specs.Diff.{is_in, is_missing, only_in, changed}
use Rattle.fare_changes.proofs.SameRecords.{record_true, record_refl, record_same}

-- no record of a list comes again in it
abbrev pub StandOnce : List Record → Type 0
StandOnce [] = Unit {0}
StandOnce (x ∷ xs) = (is_in xs x ≡ false) × StandOnce xs

-- a record alone, where a test is true
abbrev if_true : Bool → Record → List Record
if_true true x = x ∷ []
if_true false x = []

-- a test that can't be true is false
not_true : (t : Bool) → (t ≡ true → false ≡ true) → t ≡ false
not_true true h = sym (h refl)
not_true false h = refl

-- two records that aren't the same aren't so the other way either
flipped : (a b : Record) → same_record a b ≡ false → same_record b a ≡ false
flipped a b h = not_true (same_record b a) (λ t. sym h ∙ record_same a b (sym (record_true b a t)))

-- a record that passes one of two tests is the only one to pass the first, which asks for it, or passes the second
with_one : (x : Record) (q : Record → Bool) (ms : List Record) → q x ≡ false → StandOnce ms → IsPermutation (filter (λ m. same_record m x || q m) ms) (if_true (is_in ms x) x ++ filter q ms)
with_one x q [] none once = IsPermutation-refl []
with_one x q (m ∷ ms) none once = go (same_record m x) refl (q m) refl (with_one x q ms none once.1)
  where
    go : (t : Bool) → same_record m x ≡ t → (u : Bool) → q m ≡ u → IsPermutation (filter (λ r. same_record r x || q r) ms) (if_true (is_in ms x) x ++ filter q ms) → IsPermutation (cond (t || u) (m ∷ filter (λ r. same_record r x || q r) ms) (filter (λ r. same_record r x || q r) ms)) (if_true (same_record x m || is_in ms x) x ++ cond u (m ∷ filter q ms) (filter q ms))
    go true here true passes rest =
        let e : m ≡ x = record_true m x here in
        let wrong : true ≡ false = sym passes ∙ ap q e ∙ none in
        cc
    go true here false fails rest =
        let e : m ≡ x = record_true m x here in
        let back : same_record x m ≡ true = record_same x m (sym e) in
        let apart : is_in ms x ≡ false = ap (is_in ms) (sym e) ∙ once.0 in
        let others : IsPermutation (filter (λ r. same_record r x || q r) ms) (filter q ms) =
        subst (λ (t : Bool). IsPermutation (filter (λ r. same_record r x || q r) ms) (if_true t x ++ filter q ms)) apart rest in
        let first : IsPermutation (m ∷ filter (λ r. same_record r x || q r) ms) (x ∷ filter q ms) =
        subst (λ (r : Record). IsPermutation (m ∷ filter (λ s. same_record s x || q s) ms) (r ∷ filter q ms)) e (IsPermutation-cons m _ _ others) in
        subst (λ (t : Bool). IsPermutation (m ∷ filter (λ r. same_record r x || q r) ms) (if_true (t || is_in ms x) x ++ filter q ms)) (sym back) first
    go false other true passes rest =
        let back : same_record x m ≡ false = flipped m x other in
        let c : List Record = if_true (is_in ms x) x in
        let more : IsPermutation (m ∷ filter (λ r. same_record r x || q r) ms) (m ∷ (c ++ filter q ms)) = IsPermutation-cons m _ _ rest in
        let moved : IsPermutation (m ∷ (c ++ filter q ms)) (c ++ m ∷ filter q ms) =
        IsPermutation-sym (c ++ m ∷ filter q ms) (m ∷ (c ++ filter q ms)) (IsPermutation-middle c m (filter q ms)) in
        subst (λ (t : Bool). IsPermutation (m ∷ filter (λ r. same_record r x || q r) ms) (if_true (t || is_in ms x) x ++ (m ∷ filter q ms))) (sym back) (IsPermutation-trans _ _ _ more moved)
    go false other false fails rest =
        let back : same_record x m ≡ false = flipped m x other in
        subst (λ (t : Bool). IsPermutation (filter (λ r. same_record r x || q r) ms) (if_true (t || is_in ms x) x ++ filter q ms)) (sym back) rest

-- nothing is in the empty list
none_in : (ms : List Record) → filter (is_in []) ms ≡ []
none_in [] = refl
none_in (m ∷ ms) = none_in ms

-- what one list has in common with another is what the other has with it, in some order
pub in_common : (ns ms : List Record) → StandOnce ns → StandOnce ms → IsPermutation (filter (is_in ms) ns) (filter (is_in ns) ms)
in_common [] ms once others = subst (λ (l : List Record). IsPermutation [] l) (sym (none_in ms)) (IsPermutation-refl [])
in_common (x ∷ ns) ms once others = go (is_in ms x) refl (in_common ns ms once.1 others) (with_one x (is_in ns) ms once.0 others)
  where
    go : (t : Bool) → is_in ms x ≡ t → IsPermutation (filter (is_in ms) ns) (filter (is_in ns) ms) → IsPermutation (filter (λ m. same_record m x || is_in ns m) ms) (if_true (is_in ms x) x ++ filter (is_in ns) ms) → IsPermutation (cond t (x ∷ filter (is_in ms) ns) (filter (is_in ms) ns)) (filter (λ m. same_record m x || is_in ns m) ms)
    go true there rest split =
        let parts : IsPermutation (filter (λ m. same_record m x || is_in ns m) ms) (x ∷ filter (is_in ns) ms) =
        subst (λ (t : Bool). IsPermutation (filter (λ m. same_record m x || is_in ns m) ms) (if_true t x ++ filter (is_in ns) ms)) there split in
        IsPermutation-trans _ _ _ (IsPermutation-cons x _ _ rest) (IsPermutation-sym _ _ parts)
    go false missing rest split =
        let parts : IsPermutation (filter (λ m. same_record m x || is_in ns m) ms) (filter (is_in ns) ms) =
        subst (λ (t : Bool). IsPermutation (filter (λ m. same_record m x || is_in ns m) ms) (if_true t x ++ filter (is_in ns) ms)) missing split in
        IsPermutation-trans _ _ _ rest (IsPermutation-sym _ _ parts)

and_false : (t : Bool) → (t && false) ≡ false
and_false true = refl
and_false false = refl

or_true : (t : Bool) → (t || true) ≡ true
or_true true = refl
or_true false = refl

-- a record is among those of a list that pass a test where it is in the list and passes it
in_filter : (p : Record → Bool) (xs : List Record) (x : Record) → is_in (filter p xs) x ≡ (is_in xs x && p x)
in_filter p [] x = refl
in_filter p (y ∷ ys) x = go (p y) refl (same_record x y) refl (in_filter p ys x)
  where
    go : (u : Bool) → p y ≡ u → (t : Bool) → same_record x y ≡ t → is_in (filter p ys) x ≡ (is_in ys x && p x) → is_in (cond u (y ∷ filter p ys) (filter p ys)) x ≡ ((t || is_in ys x) && p x)
    go true passes true here rest =
        let e : x ≡ y = record_true x y here in
        let px : p x ≡ true = ap p e ∙ passes in
        ap (λ t. t || is_in (filter p ys) x) here ∙ sym px
    go true passes false other rest = ap (λ t. t || is_in (filter p ys) x) other ∙ rest
    go false fails true here rest =
        let e : x ≡ y = record_true x y here in
        let px : p x ≡ false = ap p e ∙ fails in
        let no : (is_in ys x && p x) ≡ false = ap (λ t. is_in ys x && t) px ∙ and_false (is_in ys x) in
        rest ∙ no ∙ sym px
    go false fails false other rest = rest

-- tests that are the same of the records of a list keep the same of it
alike : (p q : Record → Bool) (xs : List Record) → ((x : Record) → is_in xs x ≡ true → p x ≡ q x) → filter p xs ≡ filter q xs
alike p q [] same = refl
alike p q (y ∷ ys) same =
    let here : p y ≡ q y = same y (ap (λ t. t || is_in ys y) (record_refl y)) in
    let rest : filter p ys ≡ filter q ys = alike p q ys (λ x h. same x (ap (λ t. same_record x y || t) h ∙ or_true (same_record x y))) in
    λ k. cond (here k) (y ∷ rest k) (rest k)

twice : (t : Bool) → not (not t) ≡ t
twice true = refl
twice false = refl

-- what is left of a list without those that another doesn't have are those that it has
kept : (ns ms : List Record) → only_in ns (only_in ns ms) ≡ filter (is_in ms) ns
kept ns ms =
    alike (is_missing (only_in ns ms)) (is_in ms) ns
    (λ x h. ap not (in_filter (is_missing ms) ns x ∙ ap (λ t. t && is_missing ms x) h) ∙ twice (is_in ms x))

-- a list without those that another doesn't have, and those that the other alone has, are the other in some order
pub changes_give : (ns ms : List Record) → StandOnce ns → StandOnce ms → IsPermutation (changed ns (only_in ns ms) (only_in ms ns)) ms
changes_give ns ms once others =
    let left : IsPermutation (only_in ns (only_in ns ms)) (filter (is_in ns) ms) =
    subst (λ (l : List Record). IsPermutation l (filter (is_in ns) ms)) (sym (kept ns ms)) (in_common ns ms once others) in
    let whole : IsPermutation ms (filter (is_in ns) ms ++ only_in ms ns) = IsPermutation-filter_both (is_in ns) (is_missing ns) (λ x. refl) ms in
    IsPermutation-trans _ _ _ (IsPermutation-append_left (only_in ms ns) _ _ left) (IsPermutation-sym _ _ whole)
