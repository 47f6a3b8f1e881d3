-- A walk over the places of a slot, in which a key is sought.
use Rattle.std.proofs.Common.{◌≡◌, ℕ, ◌+◌, ◌-◌, ◌<◌, ◌≤◌, Bool, true, false, cond, List, [], ◌∷◌, length, get_or, drop, Option, Some, None, refl, ap, subst, sym, ◌∙◌, arith, zero, suc}
use Rattle.std.specs.List.{position_from}
use Rattle.std.proofs.lemmas.List.{at_drop_more, get_or-drop, length-drop}
use Rattle.fare_index.specs.declared.key.Key.{Key}
use Rattle.fare_index.specs.Key.{same_key}
use Rattle.fare_index.specs.SameKeys.{same_key-refl}
use Rattle.fare_index.specs.declared.slots.Slots.{Slots}
use Rattle.fare_index.specs.Slots.{share_slot}
use Rattle.fare_index.proofs.SharedSlots.{same_shares, share_alike}

module _ (test wide : Key → Bool) (weaker : (x : Key) → test x ≡ true → wide x ≡ true) where
  -- what fails a weaker test fails
  fails : (x : Key) → wide x ≡ false → test x ≡ false
  fails x h = go (test x) refl
    where
      go : (t : Bool) → test x ≡ t → t ≡ false
      go true passes = cc (weaker x passes)
      go false fail = refl

  -- where no key passes a weaker test none passes
  pub none_passes : (k : ℕ) (xs : List Key) → position_from wide k xs ≡ None → position_from test k xs ≡ None
  none_passes k [] h = refl
  none_passes k (x ∷ xs) h = go (wide x) refl h (none_passes (k + 1) xs)
    where
      go : (t : Bool) → wide x ≡ t → cond t (Some k) (position_from wide (k + 1) xs) ≡ None → (position_from wide (k + 1) xs ≡ None → position_from test (k + 1) xs ≡ None) → position_from test k (x ∷ xs) ≡ None
      go true w here further = cc
      go false w later further = ap (λ t. cond t (Some k) (position_from test (k + 1) xs)) (fails x w) ∙ further later

  -- what is known of the first place that passes a weaker test, from a place on
  pub record IsReached (k : ℕ) (xs : List Key) (place : ℕ) : Type 0 where
    pub behind : k ≤ place
    pub within : place < k + length xs
    pub passes : (d : Key) → wide (get_or xs (place - k) d) ≡ true
    pub rest : position_from test k xs ≡ position_from test place (drop (place - k) xs)

  pub reached : (k : ℕ) (xs : List Key) (place : ℕ) → position_from wide k xs ≡ Some place → IsReached k xs place
  reached k [] place h = cc
  reached k (x ∷ xs) place h = go (wide x) refl h (reached (k + 1) xs place)
    where
      go : (t : Bool) → wide x ≡ t → cond t (Some k) (position_from wide (k + 1) xs) ≡ Some place → (position_from wide (k + 1) xs ≡ Some place → IsReached (k + 1) xs place) → IsReached k (x ∷ xs) place
      go true w here further =
          let same : k ≡ place = cc in
          let none : place - k ≡ 0 = omega (arith, same) in
          record {
            behind = omega (arith, same);
            within = omega (arith, same);
            passes = λ d. ap (λ i. wide (get_or (x ∷ xs) i d)) none ∙ w;
            rest = (λ i. position_from test (same i) (x ∷ xs)) ∙ ap (λ n. position_from test place (drop n (x ∷ xs))) (sym none);
          }
      go false w later further =
          let there = further later in
          let one_less : place - k ≡ suc (place - (k + 1)) = omega (arith, there.behind) in
          record {
            behind = omega (arith, there.behind);
            within = omega (arith, there.within);
            passes = λ d. ap (λ i. wide (get_or (x ∷ xs) i d)) one_less ∙ there.passes d;
            rest = ap (λ t. cond t (Some k) (position_from test (k + 1) xs)) (fails x w)
                ∙ there.rest
                ∙ ap (λ n. position_from test place (drop n (x ∷ xs))) (sym one_less);
          }

-- what is left of what is left
drop_nil : (n : ℕ) → drop {A = Key} n [] ≡ []
drop_nil zero = refl
drop_nil (suc n) = refl

drop_twice : (k n : ℕ) (xs : List Key) → drop n (drop k xs) ≡ drop (k + n) xs
drop_twice zero n xs =
    let none : n ≡ 0 + n = omega arith in
    ap (λ m. drop m xs) none
drop_twice (suc k) n [] = drop_nil n ∙ sym (drop_nil (suc k + n))
drop_twice (suc k) n (x ∷ xs) =
    let one : suc (k + n) ≡ suc k + n = omega arith in
    drop_twice k n xs ∙ ap (λ m. drop m (x ∷ xs)) one

-- the walk at a place of the list: the key isn't before it, from where the walk began on
pub record IsWalked (slots : Slots) (keys : List Key) (key : Key) (from : ℕ) (at : Option ℕ) : Type 0 where
  pub start : ℕ
  pub start_within : start ≤ length keys
  pub first : at ≡ position_from (share_slot slots key) start (drop start keys)
  pub rest : position_from (same_key key) from (drop from keys) ≡ position_from (same_key key) start (drop start keys)

pub walk_begins : (slots : Slots) (keys : List Key) (key : Key) (from : ℕ) (at : Option ℕ) → from ≤ length keys → at ≡ position_from (share_slot slots key) from (drop from keys) → IsWalked slots keys key from at
walk_begins slots keys key from at within is = record { start = from; start_within = within; first = is; rest = refl }

-- the walk is over
pub walk_ends : (slots : Slots) (keys : List Key) (key : Key) (from : ℕ) (at : Option ℕ) → at ≡ None → IsWalked slots keys key from at → None ≡ position_from (same_key key) from (drop from keys)
walk_ends slots keys key from at over walked =
    sym (walked.rest ∙ none_passes (same_key key) (share_slot slots key) (same_shares slots key) walked.start (drop walked.start keys) (sym walked.first ∙ over))

-- how far it is from a place to the end of a list
abbrev pub left_from : List Key → Option ℕ → ℕ
left_from keys None = 0
left_from keys (Some place) = length keys - place

-- what is known at a place of the slot
pub record IsAt (slots : Slots) (keys : List Key) (key : Key) (from place : ℕ) : Type 0 where
  pub within : place < length keys
  pub shares : (d : Key) → share_slot slots key (get_or keys place d) ≡ true
  pub rest : position_from (same_key key) from (drop from keys) ≡ position_from (same_key key) place (drop place keys)

pub walk_at : (slots : Slots) (keys : List Key) (key : Key) (from : ℕ) (at : Option ℕ) (place : ℕ) → at ≡ Some place → IsWalked slots keys key from at → IsAt slots keys key from place
walk_at slots keys key from at place is walked =
    let k = walked.start in
    let there = reached (same_key key) (share_slot slots key) (same_shares slots key) walked.start (drop walked.start keys) place (sym walked.first ∙ is) in
    let whole : walked.start + (place - walked.start) ≡ place = omega (arith, there.behind) in
    record {
      within = omega (arith, there.within, length-drop walked.start keys, walked.start_within);
      shares = λ d. ap (share_slot slots key) (sym (get_or-drop walked.start keys (place - walked.start) d ∙ ap (λ i. get_or keys i d) whole)) ∙ there.passes d;
      rest = walked.rest ∙ there.rest ∙ ap (position_from (same_key key) place) (drop_twice walked.start (place - walked.start) keys ∙ ap (λ n. drop n keys) whole);
    }

-- what is left from a place on begins with what stands there
left_at : (slots : Slots) (keys : List Key) (key : Key) (from place : ℕ) (one : Key) → one ≡ get_or keys place one → IsAt slots keys key from place → position_from (same_key key) from (drop from keys) ≡ cond (same_key key one) (Some place) (position_from (same_key key) (place + 1) (drop (place + 1) keys))
left_at slots keys key from place one read here =
    here.rest ∙ ap (position_from (same_key key) place) (at_drop_more (λ l. l) keys place one here.within ∙ ap (λ o. o ∷ drop (place + 1) keys) (sym read))

-- the key stands there
pub walk_found : (slots : Slots) (keys : List Key) (key : Key) (from : ℕ) (at : Option ℕ) (place : ℕ) (one : Key) → at ≡ Some place → one ≡ get_or keys place one → true ≡ same_key key one → IsWalked slots keys key from at → Some place ≡ position_from (same_key key) from (drop from keys)
walk_found slots keys key from at place one is read same walked =
    sym (left_at slots keys key from place one read (walk_at slots keys key from at place is walked)
    ∙ ap (λ t. cond t (Some place) (position_from (same_key key) (place + 1) (drop (place + 1) keys))) (sym same))

-- another key of the slot stands there
pub walk_on : (slots : Slots) (keys : List Key) (key : Key) (from : ℕ) (at next : Option ℕ) (place : ℕ) (one : Key) → at ≡ Some place → one ≡ get_or keys place one → false ≡ same_key key one → next ≡ position_from (share_slot slots (get_or keys place one)) (place + 1) (drop (place + 1) keys) → IsWalked slots keys key from at → IsWalked slots keys key from next × (left_from keys next < left_from keys at)
walk_on slots keys key from at next place one is read differs found walked =
    let here = walk_at slots keys key from at place is walked in
    let on : next ≡ position_from (share_slot slots key) (place + 1) (drop (place + 1) keys) =
    found ∙ ap (λ test. position_from test (place + 1) (drop (place + 1) keys)) (share_alike slots key (get_or keys place one) (here.shares one)) in
    let walked_on : IsWalked slots keys key from next = record {
      start = place + 1;
      start_within = omega (arith, here.within);
      first = on;
      rest = left_at slots keys key from place one read here
          ∙ ap (λ t. cond t (Some place) (position_from (same_key key) (place + 1) (drop (place + 1) keys))) (sym differs);
    } in
    (walked_on, subst (λ o. left_from keys next < left_from keys o) (sym is) (nearer next on))
  where
    nearer : (next : Option ℕ) → next ≡ position_from (share_slot slots key) (place + 1) (drop (place + 1) keys) → left_from keys next < length keys - place
    nearer None h = omega (arith, (walk_at slots keys key from at place is walked).within)
    nearer (Some later) h =
        let there = reached (same_key key) (share_slot slots key) (same_shares slots key) (place + 1) (drop (place + 1) keys) later (sym h) in
        omega (arith, there.behind, there.within, length-drop (place + 1) keys, (walk_at slots keys key from at place is walked).within)

-- a place that is the first of its slot is the first of its key
pub leads_key : (slots : Slots) (keys : List Key) (place : ℕ) (d : Key) → place < length keys → position_from (share_slot slots (get_or keys place d)) 0 keys ≡ Some place → Some place ≡ position_from (same_key (get_or keys place d)) 0 keys
leads_key slots keys place d within first =
    walk_found slots keys (get_or keys place d) 0 (Some place) place (get_or keys place d) refl (at_own keys place d d within) (sym (same_key-refl (get_or keys place d)))
    (walk_begins slots keys (get_or keys place d) 0 (Some place) (omega arith) (sym first))
  where
    at_own : (xs : List Key) (i : ℕ) (e f : Key) → i < length xs → get_or xs i e ≡ get_or xs i (get_or xs i f)
    at_own [] i e f h = absurd (omega arith)
    at_own (x ∷ xs) zero e f h = refl
    at_own (x ∷ xs) (suc i) e f h = at_own xs i e f (omega arith)
