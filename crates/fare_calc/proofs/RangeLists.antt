-- Lists of what the numbers of a range give, gathered one after the other.
use Rattle.std.proofs.Common.{◌≡◌, ℕ, zero, suc, ◌+◌, ◌-◌, ◌<◌, ◌≤◌, Bool, true, false, ◌&&◌, ◌||◌, List, [], ◌∷◌, ◌++◌, length, take, get_or, ◌∙◌, refl, ap, sym, subst, append_assoc, append-nil, length-append, inl, inr, arith}
use Rattle.std.specs.Prelude.{Option, Some, None, IfSome, All, map, filter_map, option_map}
use Rattle.std.specs.List.{cons_option, list_all, list_any, range_with_len}
use Rattle.std.specs.Option.{option_to_list}
use Rattle.std.proofs.lemmas.Bool.{cases_eq}
use Rattle.std.proofs.lemmas.List.{take_more}
use Rattle.std.proofs.lemmas.List.Elements.{All-append, All-cons, All-nil, filter_map-append}
use Rattle.std.proofs.lemmas.List.Folds.{list_all-append}
use Rattle.fare_rules.specs.Numbers.{numbers}
use Rattle.fare_rules.proofs.NumberLemmas.{numbers_next, numbers_none}

in_front : {A : Type 0} (found : Option A) (rest : List A) → cons_option found rest ≡ option_to_list found ++ rest
in_front None rest = refl
in_front (Some one) rest = refl

-- the first number of a range and the rest
pub gather_next : {A : Type 0} (f : ℕ → Option A) (first past : ℕ) → first < past → filter_map f (numbers first past) ≡ cons_option (f first) (filter_map f (numbers (first + 1) past))
gather_next f first past h = ap (filter_map f) (numbers_next first past h)

pub gather_none : {A : Type 0} (f : ℕ → Option A) (first past : ℕ) → past ≤ first → filter_map f (numbers first past) ≡ []
gather_none f first past h = ap (filter_map f) (numbers_none first past h)

-- one more is kept
pub gather_more : {A : Type 0} (f : ℕ → Option A) (first past : ℕ) (now new whole : List A) → first < past → new ≡ now ++ option_to_list (f first) → now ++ filter_map f (numbers first past) ≡ whole → new ++ filter_map f (numbers (first + 1) past) ≡ whole
gather_more {A} f first past now new whole h e w =
    let rest : List A = filter_map f (numbers (first + 1) past) in
    let split : now ++ filter_map f (numbers first past) ≡ now ++ (option_to_list (f first) ++ rest) = ap (λ (xs : List A). now ++ xs) (gather_next f first past h ∙ in_front (f first) rest) in
    ap (λ (xs : List A). xs ++ rest) e ∙ append_assoc now (option_to_list (f first)) rest ∙ sym split ∙ w

-- all are kept
pub gather_all : {A : Type 0} (f : ℕ → Option A) (first past : ℕ) (now whole : List A) → past ≤ first → now ++ filter_map f (numbers first past) ≡ whole → now ≡ whole
gather_all {A} f first past now whole h w =
    let none : now ++ filter_map f (numbers first past) ≡ now ++ [] = ap (λ (xs : List A). now ++ xs) (gather_none f first past h) in
    sym (append-nil now) ∙ sym none ∙ w

-- what a function makes of what was found is found by both in one
pub map_found : {A B C : Type 0} (f : B → C) (find : A → Option B) (xs : List A) → map f (filter_map find xs) ≡ filter_map (λ x. option_map f (find x)) xs
map_found f find [] = refl
map_found {A} {B} {C} f find (x ∷ xs) =
    let rest : map f (filter_map find xs) ≡ filter_map (λ x. option_map f (find x)) xs = map_found f find xs in
    elim (find x) as (λ found. map f (cons_option found (filter_map find xs)) ≡ cons_option (option_map f found) (filter_map (λ x. option_map f (find x)) xs)) [
      | None ↦ rest
      | Some one ↦ ap (λ (ys : List C). f one ∷ ys) rest
    ]

-- what is found of one more of a list is kept
pub found_more : {A B : Type 0} (find : A → Option B) (xs : List A) (i : ℕ) (d : A) (now new : List B) → i < length xs → new ≡ now ++ option_to_list (find (get_or xs i d)) → now ≡ filter_map find (take i xs) → new ≡ filter_map find (take (i + 1) xs)
found_more {A} {B} find xs i d now new h e w =
    let one : filter_map find (get_or xs i d ∷ []) ≡ option_to_list (find (get_or xs i d)) = in_front (find (get_or xs i d)) [] ∙ append-nil (option_to_list (find (get_or xs i d))) in
    let whole : filter_map find (take (i + 1) xs) ≡ filter_map find (take i xs) ++ option_to_list (find (get_or xs i d)) =
    ap (filter_map find) (take_more xs i d h) ∙ filter_map-append find (take i xs) (get_or xs i d ∷ []) ∙ ap (λ (ys : List B). filter_map find (take i xs) ++ ys) one in
    e ∙ ap (λ (ys : List B). ys ++ option_to_list (find (get_or xs i d))) w ∙ sym whole

-- one more number of a range is mapped
pub map_more : {A : Type 0} (f : ℕ → A) (first past : ℕ) (now new whole : List A) → first < past → new ≡ now ++ f first ∷ [] → now ++ map f (numbers first past) ≡ whole → new ++ map f (numbers (first + 1) past) ≡ whole
map_more {A} f first past now new whole h e w =
    let rest : List A = map f (numbers (first + 1) past) in
    ap (λ (xs : List A). xs ++ rest) e ∙ append_assoc now (f first ∷ []) rest ∙ ap (λ (xs : List ℕ). now ++ map f xs) (sym (numbers_next first past h)) ∙ w

-- all are mapped
pub map_all : {A : Type 0} (f : ℕ → A) (first past : ℕ) (now whole : List A) → past ≤ first → now ++ map f (numbers first past) ≡ whole → now ≡ whole
map_all {A} f first past now whole h w =
    let none : now ++ map f (numbers first past) ≡ now ++ [] = ap (λ (xs : List ℕ). now ++ map f xs) (numbers_none first past h) in
    sym (append-nil now) ∙ sym none ∙ w

holds_alone : {A : Type 0} (P : A → Type 0) (found : Option A) → IfSome found P → All P (option_to_list found)
holds_alone P None h = All-nil P
holds_alone P (Some one) h = All-cons P one [] h (All-nil P)

-- a fact holds of all where it holds of one more
pub all_hold : {A : Type 0} (P : A → Type 0) (now new : List A) (found : Option A) → new ≡ now ++ option_to_list found → All P now → IfSome found P → All P new
all_hold P now new found e h g = subst (All P) (sym e) (All-append P now (option_to_list found) h (holds_alone P found g))

passes_alone : {A : Type 0} (p : A → Bool) (found : Option A) → IfSome found (λ (x : A). p x ≡ true) → list_all p (option_to_list found) ≡ true
passes_alone p None h = refl
passes_alone p (Some one) h = rw h

pub both_hold : (a b : Bool) → a ≡ true → b ≡ true → (a && b) ≡ true
both_hold a b e f = rw (e, f)

-- all pass a test where one more passes it
pub all_more : {A : Type 0} (p : A → Bool) (now new : List A) (found : Option A) → new ≡ now ++ option_to_list found → list_all p now ≡ true → IfSome found (λ (x : A). p x ≡ true) → list_all p new ≡ true
all_more p now new found e h g =
    ap (list_all p) e ∙ list_all-append p now (option_to_list found) ∙ both_hold (list_all p now) (list_all p (option_to_list found)) h (passes_alone p found g)

at_most_one : {A : Type 0} (found : Option A) → length (option_to_list found) ≤ 1
at_most_one None = omega arith
at_most_one (Some one) = omega arith

-- and the list is at most one longer
pub length_more : {A : Type 0} (now new : List A) (found : Option A) → new ≡ now ++ option_to_list found → length new ≤ length now + 1
length_more now new found e =
    let whole : length new ≡ length now + length (option_to_list found) = ap length e ∙ length-append now (option_to_list found) in
    let one : length (option_to_list found) ≤ 1 = at_most_one found in
    omega arith

true_false : true ≡ false → ⊥
true_false e = cc

neither_true : (a b : Bool) → (a || b) ≡ false → (a ≡ false) × (b ≡ false)
neither_true false b e = (refl, e)
neither_true true b e = absurd (true_false e)

none_of : (test : ℕ → Bool) (first n : ℕ) → list_any test (range_with_len first n) ≡ false → (k : ℕ) → first ≤ k → k < first + n → test k ≡ false
none_of test first zero e k low high = absurd (omega arith)
none_of test first (suc n) e k low high =
    let parts = neither_true (test first) (list_any test (range_with_len (first + 1) n)) e in
    elim (cases_eq k first) [
      | inl same ↦ subst (λ i. test i ≡ false) (sym same) parts.0
      | inr other ↦ none_of test (first + 1) n parts.1 k (omega arith) (omega arith)
    ]

-- where no number of a range passes a test, each fails it
pub any_none : (test : ℕ → Bool) (first past : ℕ) → list_any test (numbers first past) ≡ false → (k : ℕ) → first ≤ k → k < past → test k ≡ false
any_none test first past e k low high = none_of test first (past - first) e k low (omega arith)
