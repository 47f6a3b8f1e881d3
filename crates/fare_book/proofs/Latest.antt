-- The edition that a day selects is the latest of those that are effective by then.
use Rattle.std.proofs.Common.{◌≡◌, ◌⊎◌, ◌==◌, ◌&&◌, ◌||◌, ℕ, inl, inr, List, [], ◌∷◌, Some, None, true, false, Bool, cond, nat_lt, arith, refl, subst}
use Rattle.std.specs.List.{All, Contains, filter}
use Rattle.std.proofs.lemmas.Bool.Decides.{nat_tests}
use Rattle.std.proofs.lemmas.List.Elements.{All-cons, All-contains, All-contains_itself, All-filter, All-head, All-nil, All-tail, Contains-append_left, Contains-append_right, Contains-push, filter_passes}
use Rattle.fare_codes.specs.declared.day.Day.{Day}
use Rattle.fare_codes.specs.Day.{day_number}
use Rattle.fare_tariff.specs.Tariff.{Tariff}
use Rattle.fare_book.specs.Selected.{is_effective_by, is_later, latest, selected}

-- pairs of numbers in their order
abbrev is_after : ℕ → ℕ → ℕ → ℕ → Bool
is_after d n e m = nat_lt e d || ((d == e) && nat_lt m n)

after-trans : (a b c d e f : ℕ) → is_after a b c d ≡ false → is_after c d e f ≡ false → is_after a b e f ≡ false
after-trans a b c d e f one two = grind (arith, nat_tests)

after-asym : (a b c d : ℕ) → is_after a b c d ≡ true → is_after c d a b ≡ false
after-asym a b c d one = grind (arith, nat_tests)

after-irrefl : (a b : ℕ) → is_after a b a b ≡ false
after-irrefl a b = grind (arith, nat_tests)

later-trans : (one other third : Tariff) → is_later one other ≡ false → is_later other third ≡ false → is_later one third ≡ false
later-trans one other third first second =
    after-trans (day_number one.effective) one.number (day_number other.effective) other.number (day_number third.effective) third.number first second

later-asym : (one other : Tariff) → is_later one other ≡ true → is_later other one ≡ false
later-asym one other later =
    after-asym (day_number one.effective) one.number (day_number other.effective) other.number later

later-irrefl : (one : Tariff) → is_later one one ≡ false
later-irrefl one = after-irrefl (day_number one.effective) one.number

-- no edition of a list is later than this one
abbrev AreNotLater : Tariff → List Tariff → Type 0
AreNotLater found editions = All (λ one. is_later one found ≡ false) editions

-- the latest of an edition and some more is one of these, and none is later
record IsLatest (best : Tariff) (editions : List Tariff) (found : Tariff) : Type 0 where
  from : (best ≡ found) ⊎ Contains editions found
  first : is_later best found ≡ false
  others : AreNotLater found editions

head_of : (one : Tariff) (editions : List Tariff) → Contains (one ∷ editions) one
head_of one editions = Contains-append_left (one ∷ []) editions one (Contains-push [] one)

tail_of : (one found : Tariff) (editions : List Tariff) → Contains editions found → Contains (one ∷ editions) found
tail_of one found editions there = Contains-append_right (one ∷ []) editions found there

front_of : (one found : Tariff) (editions : List Tariff) → (one ≡ found) ⊎ Contains editions found → Contains (one ∷ editions) found
front_of one found editions (inl same) =
    let IsThere : Tariff → Type 0 = λ other. Contains (one ∷ editions) other in subst IsThere same (head_of one editions)
front_of one found editions (inr there) = tail_of one found editions there

after_best : (best one found : Tariff) (editions : List Tariff) → (best ≡ found) ⊎ Contains editions found → (best ≡ found) ⊎ Contains (one ∷ editions) found
after_best best one found editions (inl same) = inl same
after_best best one found editions (inr there) = inr (tail_of one found editions there)

latest_step : (best one : Tariff) (editions : List Tariff) (found : Tariff) (test : Bool) → is_later one best ≡ test → IsLatest (cond test one best) editions found → IsLatest best (one ∷ editions) found
latest_step best one editions found true later is = record {
  from = inr (front_of one found editions is.from);
  first = later-trans best one found (later-asym one best later) is.first;
  others = All-cons (λ other. is_later other found ≡ false) one editions is.first is.others;
}
latest_step best one editions found false later is = record {
  from = after_best best one found editions is.from;
  first = is.first;
  others = All-cons (λ other. is_later other found ≡ false) one editions (later-trans one best found later is.first) is.others;
}

latest_is : (best : Tariff) (editions : List Tariff) (found : Tariff) → latest (Some best) editions ≡ Some found → IsLatest best editions found
latest_is best [] found e =
    let same : best ≡ found = cc in
    let IsBehind : Tariff → Type 0 = λ other. is_later best other ≡ false in
    record {
      from = inl same;
      first = subst IsBehind same (later-irrefl best);
      others = All-nil (λ other. is_later other found ≡ false);
    }
latest_is best (one ∷ editions) found e =
    latest_step best one editions found (is_later one best) refl (latest_is (cond (is_later one best) one best) editions found e)

latest_of : (editions : List Tariff) (found : Tariff) → latest None editions ≡ Some found → Contains editions found × AreNotLater found editions
latest_of [] found e = absurd cc
latest_of (one ∷ editions) found e =
    let is = latest_is one editions found e in
    (front_of one found editions is.from, All-cons (λ other. is_later other found ≡ false) one editions is.first is.others)

some_latest : (best : Tariff) (editions : List Tariff) → latest (Some best) editions ≡ None → ⊥
some_latest best [] e = cc
some_latest best (one ∷ editions) e = some_latest (cond (is_later one best) one best) editions e

none_latest : (editions : List Tariff) → latest None editions ≡ None → editions ≡ []
none_latest [] e = refl
none_latest (one ∷ editions) e = absurd (some_latest one editions e)

-- what holds of those that pass a test
kept_step : (test : Tariff → Bool) (P : Tariff → Type 0) (one : Tariff) (editions : List Tariff) (passes : Bool) → test one ≡ passes → All P (cond passes (one ∷ filter test editions) (filter test editions)) → (All P (filter test editions) → All (λ other. test other ≡ true → P other) editions) → All (λ other. test other ≡ true → P other) (one ∷ editions)
kept_step test P one editions true e all rest =
    All-cons (λ other. test other ≡ true → P other) one editions (λ _. All-head P one (filter test editions) all) (rest (All-tail P one (filter test editions) all))
kept_step test P one editions false e all rest =
    All-cons (λ other. test other ≡ true → P other) one editions (λ passes. absurd cc) (rest all)

kept : (test : Tariff → Bool) (P : Tariff → Type 0) (editions : List Tariff) → All P (filter test editions) → All (λ other. test other ≡ true → P other) editions
kept test P [] all = All-nil (λ other. test other ≡ true → P other)
kept test P (one ∷ editions) all = kept_step test P one editions (test one) refl all (kept test P editions)

none_step : (test : Tariff → Bool) (one : Tariff) (editions : List Tariff) (passes : Bool) → test one ≡ passes → cond passes (one ∷ filter test editions) (filter test editions) ≡ [] → (filter test editions ≡ [] → All (λ other. test other ≡ false) editions) → All (λ other. test other ≡ false) (one ∷ editions)
none_step test one editions true e nil rest = absurd cc
none_step test one editions false e nil rest = All-cons (λ other. test other ≡ false) one editions e (rest nil)

none_passes : (test : Tariff → Bool) (editions : List Tariff) → filter test editions ≡ [] → All (λ other. test other ≡ false) editions
none_passes test [] nil = All-nil (λ other. test other ≡ false)
none_passes test (one ∷ editions) nil = none_step test one editions (test one) refl nil (none_passes test editions)

-- the edition that is selected
pub selected_some : (editions : List Tariff) (day : Day) (found : Tariff) → selected editions day ≡ Some found → Contains editions found × (is_effective_by day found ≡ true) × All (λ other. is_effective_by day other ≡ true → is_later other found ≡ false) editions
unfolding selected
selected_some editions day found e =
    let left = filter (is_effective_by day) editions in
    let is = latest_of left found e in
    let mine = All-contains (Contains editions) left found (All-filter (is_effective_by day) (Contains editions) editions (All-contains_itself editions)) is.0 in
    let passes = All-contains (λ other. is_effective_by day other ≡ true) left found (filter_passes (is_effective_by day) editions) is.0 in
    (mine, passes, kept (is_effective_by day) (λ other. is_later other found ≡ false) editions is.1)

-- no edition is selected
pub selected_none : (editions : List Tariff) (day : Day) → selected editions day ≡ None → All (λ other. is_effective_by day other ≡ false) editions
unfolding selected
selected_none editions day e =
    none_passes (is_effective_by day) editions (none_latest (filter (is_effective_by day) editions) e)
