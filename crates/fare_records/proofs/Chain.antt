-- Records found by the places of their keys: from a place with a key to the next.
use Rattle.std.proofs.Common.{◌≡◌, ℕ, ◌+◌, ◌-◌, ◌<◌, ◌≤◌, Bool, true, false, cond, List, [], ◌∷◌, length, get_or, drop, Option, Some, None, IfSome, find, refl, ap, subst, sym, ◌∙◌, arith, zero, suc}
use Rattle.std.specs.List.{position_from}
use Rattle.std.proofs.lemmas.List.{at_drop_more, get_or-drop, length-drop}
use Rattle.fare_index.specs.declared.key.Key.{Key}
use Rattle.fare_index.specs.Key.{same_key}
use Rattle.fare_index.specs.SameKeys.{same_key-true}
use Rattle.fare_records.specs.declared.record.Record.{Record}
use Rattle.fare_records.specs.Keyed.{own_key, has_own_key, HasKeyAt}

-- what is known of a place at which a test is first passed, from a place on
pub record IsFoundFrom (test : Record → Bool) (from : ℕ) (xs : List Record) (place : ℕ) : Type 0 where
  pub behind : from ≤ place
  pub within : place < from + length xs
  pub passes : (d : Record) → test (get_or xs (place - from) d) ≡ true

pub found_from : (test : Record → Bool) (from : ℕ) (xs : List Record) (place : ℕ) → position_from test from xs ≡ Some place → IsFoundFrom test from xs place
found_from test from [] place h = cc
found_from test from (x ∷ xs) place h = go (test x) refl h (found_from test (from + 1) xs place)
  where
    go : (t : Bool) → test x ≡ t → cond t (Some from) (position_from test (from + 1) xs) ≡ Some place → (position_from test (from + 1) xs ≡ Some place → IsFoundFrom test (from + 1) xs place) → IsFoundFrom test from (x ∷ xs) place
    go true passes here further =
        let same : from ≡ place = cc in
        let none : place - from ≡ 0 = omega (arith, same) in
        record { behind = omega (arith, same); within = omega (arith, same); passes = λ d. ap (λ i. test (get_or (x ∷ xs) i d)) none ∙ passes }
    go false fails later further =
        let rest = further later in
        let one_less : place - from ≡ suc (place - (from + 1)) = omega (arith, rest.behind) in
        record {
          behind = omega (arith, rest.behind);
          within = omega (arith, rest.within);
          passes = λ d. ap (λ i. test (get_or (x ∷ xs) i d)) one_less ∙ rest.passes d;
        }

-- a place of a list at which a record has a key
pub record IsKeyed (key : Key) (all : List Record) (place : ℕ) : Type 0 where
  pub within : place < length all
  pub keyed : (d : Record) → has_own_key key (get_or all place d) ≡ true

-- a place that is found from a place on
pub keyed_from : (key : Key) (all : List Record) (from place : ℕ) → from ≤ length all → position_from (has_own_key key) from (drop from all) ≡ Some place → IsKeyed key all place × (from ≤ place)
keyed_from key all from place start h =
    let found = found_from (has_own_key key) from (drop from all) place h in
    let there : from + (place - from) ≡ place = omega (arith, found.behind) in (
      record {
        within = omega (arith, found.within, length-drop from all);
        keyed = λ d. ap (has_own_key key) (sym (get_or-drop from all (place - from) d ∙ ap (λ i. get_or all i d) there)) ∙ found.passes d;
      },
      found.behind,
    )

pub keyed_first : (key : Key) (all : List Record) (o : Option ℕ) → o ≡ position_from (has_own_key key) 0 all → IfSome o (IsKeyed key all)
keyed_first key all None h = tt
keyed_first key all (Some place) h = (keyed_from key all 0 place (omega arith) (sym h)).0

-- what is left after the first of a list, which is what is left from a place on
pub tail_left : (all : List Record) (k : ℕ) (x : Record) (xs : List Record) → x ∷ xs ≡ drop k all → xs ≡ drop (k + 1) all
tail_left [] zero x xs h = cc
tail_left [] (suc k) x xs h = cc
tail_left (y ∷ ys) zero x xs h = cc
tail_left (y ∷ ys) (suc k) x xs h =
    let further : suc k + 1 ≡ suc (k + 1) = omega arith in
    rw further (tail_left ys k x xs h)

module _ {B : Type 0} (F : ℕ → List Record → B) (e : B) (key : Key) where
  -- what F gives of the list from a place on, and e where there is none
  abbrev pub from_place : List Record → Option ℕ → B
  from_place all None = e
  from_place all (Some place) = F place (drop place all)

  -- F looks only at records with the key, and gives e of no record
  pub record LooksAt : Type 0 where
    pub at_end : (k : ℕ) → F k [] ≡ e
    pub passes_by : (k : ℕ) (x : Record) (xs : List Record) → has_own_key key x ≡ false → F k (x ∷ xs) ≡ F (k + 1) xs

  skip_left : LooksAt → (all : List Record) (k : ℕ) (xs : List Record) → xs ≡ drop k all → F k xs ≡ from_place all (position_from (has_own_key key) k xs)
  skip_left looks all k [] left = looks.at_end k
  skip_left looks all k (x ∷ xs) left = go (has_own_key key x) refl (skip_left looks all (k + 1) xs (tail_left all k x xs left))
    where
      go : (t : Bool) → has_own_key key x ≡ t → F (k + 1) xs ≡ from_place all (position_from (has_own_key key) (k + 1) xs) → F k (x ∷ xs) ≡ from_place all (cond t (Some k) (position_from (has_own_key key) (k + 1) xs))
      go true has further = ap (F k) left
      go false hasnt further = looks.passes_by k x xs hasnt ∙ further

  -- what F gives of a list is what it gives from the first place of the key on
  pub from_first : LooksAt → (all : List Record) (o : Option ℕ) → o ≡ position_from (has_own_key key) 0 all → from_place all o ≡ F 0 all
  from_first looks all o first = ap (from_place all) first ∙ sym (skip_left looks all 0 all refl)

  -- and after a record with the key it is what F gives from the next place on
  pub from_next : LooksAt → (all : List Record) (place : ℕ) (one : Record) (next : Option ℕ) → IsKeyed key all place → one ≡ get_or all place one → next ≡ position_from (has_own_key (own_key (get_or all place one))) (place + 1) (drop (place + 1) all) → (from_place all (Some place) ≡ F place (one ∷ drop (place + 1) all)) × (from_place all next ≡ F (place + 1) (drop (place + 1) all))
  from_next looks all place one next keyed at found =
      let own : key ≡ own_key (get_or all place one) = same_key-true key (own_key (get_or all place one)) (keyed.keyed one) in
      let same : next ≡ position_from (has_own_key key) (place + 1) (drop (place + 1) all) = found ∙ ap (λ k. position_from (has_own_key k) (place + 1) (drop (place + 1) all)) (sym own) in (
        at_drop_more (F place) all place one keyed.within ∙ ap (λ r. F place (r ∷ drop (place + 1) all)) (sym at),
        ap (from_place all) same ∙ sym (skip_left looks all (place + 1) (drop (place + 1) all) refl),
      )

-- how far it is from a place to the end of a list
abbrev pub rest_from : List Record → Option ℕ → ℕ
rest_from all None = 0
rest_from all (Some place) = length all - place

-- the next place after a record with a key has a record with the key, and is nearer to the end
pub keyed_next : (key : Key) (all : List Record) (place : ℕ) (one : Record) (next : Option ℕ) → IsKeyed key all place → next ≡ position_from (has_own_key (own_key (get_or all place one))) (place + 1) (drop (place + 1) all) → IfSome next (IsKeyed key all) × (rest_from all next < length all - place)
keyed_next key all place one next keyed found =
    let own : key ≡ own_key (get_or all place one) = same_key-true key (own_key (get_or all place one)) (keyed.keyed one) in
    let same : next ≡ position_from (has_own_key key) (place + 1) (drop (place + 1) all) = found ∙ ap (λ k. position_from (has_own_key k) (place + 1) (drop (place + 1) all)) (sym own) in
    go next same
  where
    go : (next : Option ℕ) → next ≡ position_from (has_own_key key) (place + 1) (drop (place + 1) all) → IfSome next (IsKeyed key all) × (rest_from all next < length all - place)
    go None h = (tt, omega (arith, keyed.within))
    go (Some later) h =
        let there = keyed_from key all (place + 1) later (omega (arith, keyed.within)) (sym h) in
        (there.0, omega (arith, there.0.within, there.1))

-- the first record that passes a test is that at the first place
pub find_first : (test : Record → Bool) (xs : List Record) (from : ℕ) (place : ℕ) (d : Record) → position_from test from xs ≡ Some place → find test xs ≡ Some (get_or xs (place - from) d)
find_first test [] from place d h = cc
find_first test (x ∷ xs) from place d h = go (test x) refl h (find_first test xs (from + 1) place d)
  where
    go : (t : Bool) → test x ≡ t → cond t (Some from) (position_from test (from + 1) xs) ≡ Some place → (position_from test (from + 1) xs ≡ Some place → find test xs ≡ Some (get_or xs (place - (from + 1)) d)) → cond t (Some x) (find test xs) ≡ Some (get_or (x ∷ xs) (place - from) d)
    go true passes here further =
        let same : from ≡ place = cc in
        let none : place - from ≡ 0 = omega (arith, same) in
        ap (λ i. Some (get_or (x ∷ xs) i d)) (sym none)
    go false fails later further =
        let rest = found_from test (from + 1) xs place later in
        let one_less : place - from ≡ suc (place - (from + 1)) = omega (arith, rest.behind) in
        further later ∙ ap (λ i. Some (get_or (x ∷ xs) i d)) (sym one_less)

-- where no place is found no record is
pub find_none : (test : Record → Bool) (xs : List Record) (from : ℕ) → position_from test from xs ≡ None → find test xs ≡ None
find_none test [] from h = refl
find_none test (x ∷ xs) from h = go (test x) h (find_none test xs (from + 1))
  where
    go : (t : Bool) → cond t (Some from) (position_from test (from + 1) xs) ≡ None → (position_from test (from + 1) xs ≡ None → find test xs ≡ None) → cond t (Some x) (find test xs) ≡ None
    go true h further = cc
    go false h further = further h

-- a list with a place has a record there
pub some_there : (all : List Record) (place : ℕ) → place < length all → (one : Record) × (one ≡ get_or all place one)
some_there [] place h = absurd (omega arith)
some_there (x ∷ xs) zero h = (x, refl)
some_there (x ∷ xs) (suc place) h = some_there xs place (omega arith)

module _ {B : Type 0} (F : ℕ → List Record → B) (e : B) (key : Key) where
  -- one step of a walk from a place with a key to the next
  pub record IsStep (all : List Record) (at next : Option ℕ) (place : ℕ) (one : Record) : Type 0 where
    pub has_key : has_own_key key one ≡ true
    pub keyed : IfSome next (IsKeyed key all)
    pub shorter : rest_from all next < rest_from all at
    pub here : from_place F e key all at ≡ F place (one ∷ drop (place + 1) all)
    pub there : from_place F e key all next ≡ F (place + 1) (drop (place + 1) all)

  pub walk_step : LooksAt F e key → (all : List Record) (at next : Option ℕ) (place : ℕ) (one : Record) → at ≡ Some place → IfSome at (IsKeyed key all) → one ≡ get_or all place one → next ≡ position_from (has_own_key (own_key (get_or all place one))) (place + 1) (drop (place + 1) all) → IsStep all at next place one
  walk_step looks all at next place one is at_keyed read found =
      let keyed : IsKeyed key all place = subst (λ o. IfSome o (IsKeyed key all)) is at_keyed in
      let on = from_next F e key looks all place one next keyed read found in
      let nearer = keyed_next key all place one next keyed found in
      record {
        has_key = ap (has_own_key key) read ∙ keyed.keyed one;
        keyed = nearer.0;
        shorter = subst (λ o. rest_from all next < rest_from all o) (sym is) nearer.1;
        here = ap (from_place F e key all) is ∙ on.0;
        there = on.1;
      }

  -- the same where the record was not read
  pub walk_on : LooksAt F e key → (all : List Record) (at next : Option ℕ) (place : ℕ) → at ≡ Some place → IfSome at (IsKeyed key all) → ((d : Record) → next ≡ position_from (has_own_key (own_key (get_or all place d))) (place + 1) (drop (place + 1) all)) → (one : Record) × IsStep all at next place one
  walk_on looks all at next place is at_keyed found =
      let keyed : IsKeyed key all place = subst (λ o. IfSome o (IsKeyed key all)) is at_keyed in
      let some = some_there all place keyed.within in
      (some.0, walk_step looks all at next place some.0 is at_keyed some.1 (found some.0))

  -- what F gives from a place is what it gives of the record there and those after it
  pub walk_here : (all : List Record) (at : Option ℕ) (place : ℕ) (one : Record) → at ≡ Some place → IfSome at (IsKeyed key all) → one ≡ get_or all place one → from_place F e key all at ≡ F place (one ∷ drop (place + 1) all)
  walk_here all at place one is at_keyed read =
      let keyed : IsKeyed key all place = subst (λ o. IfSome o (IsKeyed key all)) is at_keyed in
      ap (from_place F e key all) is ∙ at_drop_more (F place) all place one keyed.within ∙ ap (λ r. F place (r ∷ drop (place + 1) all)) (sym read)

  -- the same of a record that has the key, where it was not read
  pub walk_some : (all : List Record) (at : Option ℕ) (place : ℕ) → at ≡ Some place → IfSome at (IsKeyed key all) → (one : Record) × (has_own_key key one ≡ true) × (from_place F e key all at ≡ F place (one ∷ drop (place + 1) all))
  walk_some all at place is at_keyed =
      let keyed : IsKeyed key all place = subst (λ o. IfSome o (IsKeyed key all)) is at_keyed in
      let some = some_there all place keyed.within in
      (some.0, ap (has_own_key key) some.1 ∙ keyed.keyed some.0, walk_here all at place some.0 is at_keyed some.1)

-- a record that is at a place and has a key, in a list that is seen as another
pub has_key_at : (records now : List Record) (place : ℕ) (one : Record) (key : Key) → records ≡ now → place < length records → ((d : Record) → one ≡ get_or records place d) → same_key key (own_key one) ≡ true → HasKeyAt now place key
has_key_at records now place one key seen within at same = record {
  within = omega (arith, within, ap length seen);
  own = λ d. ap own_key (sym (at d ∙ ap (λ l. get_or l place d) seen)) ∙ sym (same_key-true key (own_key one) same);
}

-- the first place of the key of such a place is that of the key
pub first_of_guess : (now : List Record) (place : ℕ) (key : Key) (found : Option ℕ) → HasKeyAt now place key → ((d : Record) → found ≡ position_from (has_own_key (own_key (get_or now place d))) 0 now) → found ≡ position_from (has_own_key key) 0 now
first_of_guess [] place key found at h = absurd (omega (arith, at.within))
first_of_guess (x ∷ xs) place key found at h = h x ∙ ap (λ k. position_from (has_own_key k) 0 (x ∷ xs)) (at.own x)
