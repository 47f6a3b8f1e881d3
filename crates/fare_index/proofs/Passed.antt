-- A list of keys passed from the back: what is known of the part that has been passed.
use Rattle.std.proofs.Common.{◌≡◌, ◌⊎◌, ℕ, ◌+◌, ◌-◌, ◌<◌, ◌≤◌, Bool, true, false, cond, List, [], ◌∷◌, length, get_or, set, drop, replicate, Option, Some, None, inl, inr, refl, ap, subst, sym, ◌∙◌, arith, zero, suc, ⊎_elim, get_or-set_other, get_or-set_same}
use Rattle.std.specs.List.{position_from}
use Rattle.std.proofs.lemmas.Bool.{cases_eq, cases_lt, eqb-true, eq-eqb, false≢true}
use Rattle.std.proofs.lemmas.List.{at_drop_more, at_drop_all, drop-set, length-set, get_or_default, get_or-drop}
use Rattle.fare_index.specs.declared.key.Key.{Key}
use Rattle.fare_index.specs.declared.places.Places.{Places}
use Rattle.fare_index.specs.declared.slots.Slots.{Slots}
use Rattle.fare_index.specs.Slots.{slot_count, slot_of, has_slot, share_slot}
use Rattle.fare_index.specs.Places.{AreHeads, ArePlaces, IsFirst, LeadsOn, next_places}
use Rattle.fare_index.proofs.SharedSlots.{shares_own, share_alike}
use Rattle.fare_index.proofs.Walked.{reached}

-- the first places of the slots, the next places of the keys from a place on, and those that are the first of theirs
pub record IsPassed (slots : Slots) (keys : List Key) (place : ℕ) (heads links : List (Option ℕ)) (leads : List Bool) : Type 0 where
  pub many_heads : length heads ≡ slot_count slots
  pub are_heads : AreHeads slots place (drop place keys) heads
  pub many_links : length links ≡ length keys
  pub are_links : drop place links ≡ next_places slots place (drop place keys)
  pub many_leads : length leads ≡ length keys + 1
  pub lead : (q : ℕ) (d : Key) → place ≤ q → q < length keys → get_or leads (q + 1) false ≡ true → IsFirst slots keys place q d
  pub first : (q : ℕ) (d : Key) → place ≤ q → q < length keys → IsFirst slots keys place q d → get_or leads (q + 1) false ≡ true
  pub fresh : (q : ℕ) → q < place → get_or leads (q + 1) false ≡ true

-- a place from another on is that one or one behind it
here_or_further : (place q : ℕ) → place ≤ q → (q ≡ place) ⊎ (place + 1 ≤ q)
here_or_further place q low = ⊎_elim (λ lt. inl (omega (arith, lt, low))) (λ ge. inr ge) (cases_lt q (place + 1))

-- the first of its slot after a key, where it isn't the later one of that key's slot, is its first with it too
leads_on : (slots : Slots) (place q : ℕ) (key other : Key) (rest : List Key) (later : Option ℕ) → later ≡ position_from (share_slot slots key) (place + 1) rest → (later ≡ Some q → ⊥) → position_from (share_slot slots other) (place + 1) rest ≡ Some q → position_from (share_slot slots other) place (key ∷ rest) ≡ Some q
leads_on slots place q key other rest later is another first = go (share_slot slots other key) refl
  where
    go : (t : Bool) → share_slot slots other key ≡ t → cond t (Some place) (position_from (share_slot slots other) (place + 1) rest) ≡ Some q
    go true same =
        absurd (another (is ∙ ap (λ test. position_from test (place + 1) rest) (share_alike slots other key same) ∙ first))
    go false differs = first

-- the first of its slot from a key on stands behind it and isn't the later one of that key's slot
leads_behind : (slots : Slots) (place q : ℕ) (key other : Key) (rest : List Key) → place + 1 ≤ q → position_from (share_slot slots other) place (key ∷ rest) ≡ Some q → (position_from (share_slot slots other) (place + 1) rest ≡ Some q) × (share_slot slots other key ≡ false)
leads_behind slots place q key other rest low first = go (share_slot slots other key) refl first
  where
    go : (t : Bool) → share_slot slots other key ≡ t → cond t (Some place) (position_from (share_slot slots other) (place + 1) rest) ≡ Some q → (position_from (share_slot slots other) (place + 1) rest ≡ Some q) × (share_slot slots other key ≡ false)
    go true same here =
        let at : place ≡ q = cc in
        absurd (omega (arith, at, low))
    go false differs behind = (behind, differs)

-- the later one of a slot stands behind the place
not_later : (test : Key → Bool) (place q : ℕ) (rest : List Key) (later : Option ℕ) → later ≡ position_from test (place + 1) rest → q ≤ place → later ≡ Some q → ⊥
not_later test place q rest later is low other =
    let there = reached test test (λ x h. h) (place + 1) rest q (sym is ∙ other) in
    omega (arith, there.behind, low)

-- the later one of a key's slot shares it
later_shares : (slots : Slots) (keys : List Key) (place q : ℕ) (key d : Key) (later : Option ℕ) → later ≡ position_from (share_slot slots key) (place + 1) (drop (place + 1) keys) → place + 1 ≤ q → later ≡ Some q → share_slot slots (get_or keys q d) key ≡ true
later_shares slots keys place q key d later is low other =
    let there = reached (share_slot slots key) (share_slot slots key) (λ x h. h) (place + 1) (drop (place + 1) keys) q (sym is ∙ other) in
    let whole : (place + 1) + (q - (place + 1)) ≡ q = omega (arith, low) in
    let shares : share_slot slots key (get_or keys q d) ≡ true =
    ap (share_slot slots key) (sym (get_or-drop (place + 1) keys (q - (place + 1)) d ∙ ap (λ i. get_or keys i d) whole)) ∙ there.passes d in
    ap (λ test. test key) (share_alike slots key (get_or keys q d) shares) ∙ shares_own slots key

-- nothing is at a slot of none
none_at : (n slot : ℕ) (o : Option ℕ) → get_or (replicate n o) slot o ≡ o
none_at zero slot o = refl
none_at (suc n) zero o = refl
none_at (suc n) (suc slot) o = none_at n slot o

-- each of a list of one value is that value
all_at : (n i : ℕ) (x d : Bool) → i < n → get_or (replicate n x) i d ≡ x
all_at zero i x d low = absurd (omega (arith, low))
all_at (suc n) zero x d low = refl
all_at (suc n) (suc i) x d low = all_at n i x d (omega (arith, low))

-- a test that isn't true
not_true : (t : Bool) → (t ≡ true → ⊥) → t ≡ false
not_true true never = absurd (never refl)
not_true false never = refl

-- before the pass
pub passed_none : (slots : Slots) (keys : List Key) (heads links : List (Option ℕ)) (leads : List Bool) → heads ≡ replicate (slot_count slots) None → length heads ≡ slot_count slots → length links ≡ length keys → length leads ≡ length keys + 1 → leads ≡ replicate (length keys + 1) true → IsPassed slots keys (length keys) heads links leads
passed_none slots keys heads links leads empty many_heads many_links many_leads all = record {
  many_heads = many_heads;
  are_heads = λ slot h. ap (λ l. get_or l slot None) empty ∙ none_at (slot_count slots) slot None ∙ sym (at_drop_all (position_from (has_slot slots slot) (length keys)) keys (length keys) (omega arith));
  many_links = many_links;
  are_links = at_drop_all (λ l. l) links (length keys) (omega (arith, many_links)) ∙ sym (at_drop_all (next_places slots (length keys)) keys (length keys) (omega arith));
  many_leads = many_leads;
  lead = λ q d low high led. absurd (omega (arith, low, high));
  first = λ q d low high is_first. absurd (omega (arith, low, high));
  fresh = λ q low. ap (λ l. get_or l (q + 1) false) all ∙ all_at (length keys + 1) (q + 1) true false (omega (arith, low));
}

-- one key more, before those that have been passed
pub passed_more : (slots : Slots) (keys : List Key) (till place slot : ℕ) (key : Key) (heads links : List (Option ℕ)) (leads still : List Bool) (head later : Option ℕ) → till ≡ place + 1 → place < length keys → key ≡ get_or keys place key → slot ≡ slot_of slots key → slot < slot_count slots → head ≡ Some place → later ≡ get_or heads slot later → length still ≡ length leads → ((q : ℕ) → get_or still (q + 1) false ≡ true → LeadsOn leads later q) → ((q : ℕ) → (later ≡ Some q → ⊥) → get_or still (q + 1) false ≡ get_or leads (q + 1) false) → IsPassed slots keys till heads links leads → IsPassed slots keys place (set heads slot head) (set links place later) still
passed_more slots keys till place slot key heads links leads still head later one within at slot_is slot_within head_is was as_many leading others till_there =
    let passed = subst (λ n. IsPassed slots keys n heads links leads) one till_there in
    let rest = drop (place + 1) keys in
    let split : drop place keys ≡ key ∷ drop (place + 1) keys = at_drop_more (λ l. l) keys place key within ∙ ap (λ k. k ∷ drop (place + 1) keys) (sym at) in
    let in_heads : slot < length heads = omega (arith, slot_within, passed.many_heads) in
    let in_links : place < length links = omega (arith, within, passed.many_links) in
    let later_is : later ≡ position_from (share_slot slots key) (place + 1) (drop (place + 1) keys) =
    was ∙ get_or_default heads slot later None in_heads ∙ passed.are_heads slot slot_within ∙ ap (λ s. position_from (has_slot slots s) (place + 1) (drop (place + 1) keys)) slot_is in
    subst (λ h. IsPassed slots keys place (set heads slot h) (set links place later) still) (sym head_is) (record {
      many_heads = length-set heads slot (Some place) ∙ passed.many_heads;
      are_heads = λ s h. more_heads s h (passed.are_heads s h) slot_is in_heads ∙ ap (position_from (has_slot slots s) place) (sym split);
      many_links = length-set links place later ∙ passed.many_links;
      are_links = drop-set links place later in_links
          ∙ ap (λ l. later ∷ l) passed.are_links
          ∙ ap (λ o. o ∷ next_places slots (place + 1) (drop (place + 1) keys)) later_is
          ∙ ap (next_places slots place) (sym split);
      many_leads = as_many ∙ passed.many_leads;
      lead = λ q d low high led.
          ap (position_from (share_slot slots (get_or keys q d)) place) split
          ∙ ⊎_elim
          (λ (here : q ≡ place).
          let own : get_or keys q d ≡ key = ap (λ i. get_or keys i d) here ∙ get_or_default keys place d key within ∙ sym at in
          ap (λ k. cond (share_slot slots k key) (Some place) (position_from (share_slot slots k) (place + 1) (drop (place + 1) keys))) own
          ∙ ap (λ t. cond t (Some place) (position_from (share_slot slots key) (place + 1) (drop (place + 1) keys))) (shares_own slots key)
          ∙ ap Some (sym here))
          (λ (further : place + 1 ≤ q).
          let on = leading q led in
          leads_on slots place q key (get_or keys q d) (drop (place + 1) keys) later later_is on.is_another (passed.lead q d further high on.led))
          (here_or_further place q low);
      first = λ q d low high is_first.
          let from_key = ap (position_from (share_slot slots (get_or keys q d)) place) (sym split) ∙ is_first in
          ⊎_elim
          (λ (here : q ≡ place).
          others q (not_later (share_slot slots key) place q rest later later_is (omega (arith, here))) ∙ passed.fresh q (omega (arith, here)))
          (λ (further : place + 1 ≤ q).
          let behind = leads_behind slots place q key (get_or keys q d) rest further from_key in
          others q (λ other. false≢true (sym behind.1 ∙ later_shares slots keys place q key d later later_is further other)) ∙ passed.first q d further high behind.0)
          (here_or_further place q low);
      fresh = λ q low.
          others q (not_later (share_slot slots key) place q rest later later_is (omega (arith, low))) ∙ passed.fresh q (omega (arith, low));
    })
  where
    more_heads : (s : ℕ) → s < slot_count slots → get_or heads s None ≡ position_from (has_slot slots s) (place + 1) (drop (place + 1) keys) → slot ≡ slot_of slots key → slot < length heads → get_or (set heads slot (Some place)) s None ≡ position_from (has_slot slots s) place (key ∷ drop (place + 1) keys)
    more_heads s h there own in_heads = ⊎_elim
        (λ (same : s ≡ slot).
        ap (λ i. get_or (set heads slot (Some place)) i None) same
        ∙ get_or-set_same heads slot (Some place) None in_heads
        ∙ ap (λ t. cond t (Some place) (position_from (has_slot slots s) (place + 1) (drop (place + 1) keys))) (sym (eq-eqb (slot_of slots key) s (sym own ∙ sym same))))
        (λ (differs : s ≡ slot → ⊥).
        get_or-set_other heads slot s (Some place) None differs
        ∙ there
        ∙ ap (λ t. cond t (Some place) (position_from (has_slot slots s) (place + 1) (drop (place + 1) keys))) (sym (not_true (has_slot slots s key) (λ e. differs (sym (eqb-true (slot_of slots key) s e) ∙ sym own)))))
        (cases_eq s slot)

-- after the pass
pub passed_all : (keys : List Key) (place : ℕ) (places : Places) → place ≤ 0 → 0 < slot_count places.slots → IsPassed places.slots keys place places.heads.items places.links.items places.leads.items → ArePlaces keys places
passed_all keys place places none some till_there =
    let start : place ≡ 0 = omega arith in
    let passed = subst (λ n. IsPassed places.slots keys n places.heads.items places.links.items places.leads.items) start till_there in
    record {
      some_slot = some;
      many_heads = passed.many_heads;
      heads = passed.are_heads;
      many_links = passed.many_links;
      links = passed.are_links;
      many_leads = passed.many_leads;
      lead = λ q d high. (λ led. passed.lead q d (omega arith) high led, λ first. passed.first q d (omega arith) high first);
    }

-- the next place of the slot of the key at a place is sought from the place after it
next_at : (slots : Slots) (keys : List Key) (from place : ℕ) (d : Key) (o : Option ℕ) → place < length keys → get_or (next_places slots from keys) place o ≡ position_from (share_slot slots (get_or keys place d)) (from + (place + 1)) (drop (place + 1) keys)
next_at slots [] from place d o h = absurd (omega arith)
next_at slots (x ∷ xs) from zero d o h = refl
next_at slots (x ∷ xs) from (suc k) d o h =
    let shifted : (from + 1) + (k + 1) ≡ from + (suc k + 1) = omega arith in
    let further : suc k + 1 ≡ suc (k + 1) = omega arith in
    next_at slots xs (from + 1) k d o (omega arith)
    ∙ ap (λ n. position_from (share_slot slots (get_or xs k d)) n (drop (k + 1) xs)) shifted
    ∙ ap (λ n. position_from (share_slot slots (get_or xs k d)) (from + (suc k + 1)) (drop n (x ∷ xs))) (sym further)

pub linked_at : (slots : Slots) (keys : List Key) (links : List (Option ℕ)) (place : ℕ) (d : Key) (o : Option ℕ) → links ≡ next_places slots 0 keys → place < length keys → get_or links place o ≡ position_from (share_slot slots (get_or keys place d)) (place + 1) (drop (place + 1) keys)
linked_at slots keys links place d o are within =
    let start : 0 + (place + 1) ≡ place + 1 = omega arith in
    ap (λ l. get_or l place o) are
    ∙ next_at slots keys 0 place d o within
    ∙ ap (λ n. position_from (share_slot slots (get_or keys place d)) n (drop (place + 1) keys)) start
