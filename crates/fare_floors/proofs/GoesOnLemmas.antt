-- Which units of a lawful construction go on behind a part, and how they lie in each other.
use Rattle.std.proofs.Common.{◌≡◌, ℕ, zero, suc, ◌+◌, ◌-◌, ◌<◌, ◌≤◌, ◌⊎◌, Bool, true, false, leb, ltb, List, [], ◌∷◌, length, refl, ap, sym, subst, ◌∙◌, inl, inr, arith}
use Rattle.std.specs.Prelude.{filter}
use Rattle.std.specs.List.{range_with_len}
use Rattle.std.proofs.lemmas.Bool.{cases_Bool, cases_lt, cases_eq, and_parts, and_from, leb-true, ltb-true, le-leb, lt-ltb}
use Rattle.fare_trip.specs.Itinerary.{Itinerary}
use Rattle.fare_tariff.specs.Tariff.{Tariff}
use Rattle.fare_rules.specs.declared.part.Part.{Part}
use Rattle.fare_rules.specs.Construction.{own, is_own, unit_of, first_of, last_of}
use Rattle.fare_rules.specs.Best.{IsLawful}
use Rattle.fare_rules.proofs.LawfulLemmas.{kept}
use Rattle.fare_rules.proofs.MemberLemmas.{Member}
use Rattle.fare_floors.proofs.CostLemmas.{member_place}
use Rattle.fare_floors.proofs.CrossingLemmas.{not_crossed, began_before}
use Rattle.fare_floors.proofs.UnitLemmas.{all, own_has}
use Rattle.fare_floors.proofs.OnwardLemmas.{ends_rise}
use Rattle.fare_floors.specs.Stack.{goes_on}
use Rattle.fare_floors.proofs.StackLemmas.{home_at}
use Rattle.fare_floors.proofs.SumLemmas.{kept_member}

true_false : true ≡ false → ⊥
true_false e = cc

pub not_so : (b : Bool) → (b ≡ true → ⊥) → b ≡ false
not_so true h = absurd (h refl)
not_so false h = refl

pub last_in : (k : ℕ) (more : List ℕ) → Member (last_of (k ∷ more)) (k ∷ more)
last_in k [] = inl refl
last_in k (y ∷ ys) = inr (last_in y ys)

-- what ends with a number above another has members, its first and its last one among them
some_of : (xs : List ℕ) (k : ℕ) → k < last_of xs → 1 ≤ length xs
some_of [] k h = absurd (omega arith)
some_of (x ∷ xs) k h = omega arith

some_member : (xs : List ℕ) (k : ℕ) → Member k xs → 1 ≤ length xs
some_member [] k m = absurd m
some_member (x ∷ xs) k m = omega arith

pub first_member : (xs : List ℕ) → 1 ≤ length xs → Member (first_of xs) xs
first_member [] h = absurd (omega arith)
first_member (x ∷ xs) h = inl refl

pub last_member : (xs : List ℕ) → 1 ≤ length xs → Member (last_of xs) xs
last_member [] h = absurd (omega arith)
last_member (x ∷ xs) h = last_in x xs

-- of two numbers each is the first or the last
pub two_ends : (xs : List ℕ) (k : ℕ) → Member k xs → length xs ≤ 2 → (k ≡ first_of xs) ⊎ (k ≡ last_of xs)
two_ends [] k m h = absurd m
two_ends (x ∷ xs) k (inl e) h = inl e
two_ends (x ∷ []) k (inr m) h = absurd m
two_ends (x ∷ y ∷ []) k (inr (inl e)) h = inr e
two_ends (x ∷ y ∷ []) k (inr (inr m)) h = absurd m
two_ends (x ∷ y ∷ z ∷ zs) k (inr m) h = absurd (omega arith)

rise_last : (x : ℕ) (xs : List ℕ) (k : ℕ) → ((j : ℕ) → Member j xs → x < j) → ((j : ℕ) → Member j xs → j ≤ last_of xs) → Member k (x ∷ xs) → k ≤ last_of (x ∷ xs)
rise_last x [] k above most (inl e) = omega arith
rise_last x [] k above most (inr m) = absurd m
rise_last x (y ∷ ys) k above most (inl e) = let h : x < last_of (y ∷ ys) = above (last_of (y ∷ ys)) (last_in y ys) in omega arith
rise_last x (y ∷ ys) k above most (inr m) = most k m

rise_two : (x : ℕ) (xs : List ℕ) → ((j : ℕ) → Member j xs → x < j) → 2 ≤ length (x ∷ xs) → x < last_of (x ∷ xs)
rise_two x [] above h = absurd (omega arith)
rise_two x (y ∷ ys) above h = above (last_of (y ∷ ys)) (last_in y ys)

module _ (p : ℕ → Bool) where
  kept_above : (first n j : ℕ) → Member j (filter p (range_with_len (first + 1) n)) → first < j
  kept_above first n j m = let low : first + 1 ≤ j = (kept_member p (first + 1) n j m).0 in omega arith

  -- what is kept of a range lies between its first and its last number
  kept_first : (first n k : ℕ) → Member k (filter p (range_with_len first n)) → first_of (filter p (range_with_len first n)) ≤ k
  kept_first first zero k m = absurd m
  kept_first first (suc n) k m =
      elim (cases_Bool (p first)) [
        | inl t ↦ let low : first ≤ k = (kept_member p first (suc n) k m).0 in rw t low
        | inr f ↦ rw f (kept_first (first + 1) n k (rw f at m))
      ]

  kept_last : (first n k : ℕ) → Member k (filter p (range_with_len first n)) → k ≤ last_of (filter p (range_with_len first n))
  kept_last first zero k m = absurd m
  kept_last first (suc n) k m =
      elim (cases_Bool (p first)) [
        | inl t ↦ rw t (rise_last first (filter p (range_with_len (first + 1) n)) k (kept_above first n) (λ j h. kept_last (first + 1) n j h) (rw t at m))
        | inr f ↦ rw f (kept_last (first + 1) n k (rw f at m))
      ]

  -- and of two or more numbers the last is above the first
  kept_two : (first n : ℕ) → 2 ≤ length (filter p (range_with_len first n)) → first_of (filter p (range_with_len first n)) < last_of (filter p (range_with_len first n))
  kept_two first zero h = absurd (omega arith)
  kept_two first (suc n) h =
      elim (cases_Bool (p first)) [
        | inl t ↦ rw t (rise_two first (filter p (range_with_len (first + 1) n)) (kept_above first n) (rw t at h))
        | inr f ↦ rw f (kept_two (first + 1) n (rw f at h))
      ]

module _ (parts : List Part) where
  pub own_first : (unit k : ℕ) → Member k (own parts unit) → first_of (own parts unit) ≤ k
  unfolding own
  own_first unit k m = kept_first (is_own parts unit) 1 (length parts + 1 - 1) k m

  pub own_last : (unit k : ℕ) → Member k (own parts unit) → k ≤ last_of (own parts unit)
  unfolding own
  own_last unit k m = kept_last (is_own parts unit) 1 (length parts + 1 - 1) k m

  pub own_two : (unit : ℕ) → 2 ≤ length (own parts unit) → first_of (own parts unit) < last_of (own parts unit)
  unfolding own
  own_two unit h = kept_two (is_own parts unit) 1 (length parts + 1 - 1) h

  pub goes_on_from : (k unit : ℕ) → first_of (own parts unit) ≤ k → k < last_of (own parts unit) → goes_on parts k unit ≡ true
  goes_on_from k unit low high =
      and_from (leb (first_of (own parts unit)) k) (ltb k (last_of (own parts unit))) (le-leb (first_of (own parts unit)) k low) (lt-ltb k (last_of (own parts unit)) high)

  pub goes_on_is : (k unit : ℕ) → goes_on parts k unit ≡ true → (first_of (own parts unit) ≤ k) × (k < last_of (own parts unit))
  goes_on_is k unit t =
      let both = and_parts (leb (first_of (own parts unit)) k) (ltb k (last_of (own parts unit))) t in
      (leb-true (first_of (own parts unit)) k both.0, ltb-true k (last_of (own parts unit)) both.1)

  pub goes_not : (k unit : ℕ) → ((first_of (own parts unit) ≤ k) → (k < last_of (own parts unit)) → ⊥) → goes_on parts k unit ≡ false
  goes_not k unit h = not_so (goes_on parts k unit) (λ t. let g = goes_on_is k unit t in h g.0 g.1)

module _ (tariff : Tariff) (trip : Itinerary) (parts : List Part) (price : ℕ) (lawful : IsLawful tariff trip parts price) where
  -- a unit that goes on behind a place: where its first and its last part stand
  pub record GoesOn (k unit : ℕ) : Type 0 where
    pub from_one : 1 ≤ first_of (own parts unit)
    pub begun : first_of (own parts unit) ≤ k
    pub behind : k < last_of (own parts unit)
    pub within : last_of (own parts unit) ≤ length parts
    pub first_own : unit_of parts (first_of (own parts unit)) ≡ unit
    pub last_own : unit_of parts (last_of (own parts unit)) ≡ unit

  pub going_on : (k unit : ℕ) → goes_on parts k unit ≡ true → GoesOn k unit
  going_on k unit t =
      let g = goes_on_is parts k unit t in
      let some = some_of (own parts unit) k g.1 in
      let first = member_place tariff trip parts price lawful unit (first_of (own parts unit)) (first_member (own parts unit) some) in
      let last = member_place tariff trip parts price lawful unit (last_of (own parts unit)) (last_member (own parts unit) some) in
      record { from_one = first.0; begun = g.0; behind = g.1; within = last.1; first_own = first.2; last_own = last.2 }

  own_of : (k unit : ℕ) → 1 ≤ k → k ≤ length parts → unit_of parts k ≡ unit → Member k (own parts unit)
  own_of k unit low high e =
      let P : ℕ → Type 0 = λ u. Member k (own parts u) in
      subst P e (own_has tariff trip parts price lawful k low high)

  -- a unit to which the next part does not belong goes on behind that where it does before it
  on_next : (k unit : ℕ) → (unit_of parts (k + 1) ≡ unit → ⊥) → goes_on parts k unit ≡ true → goes_on parts (k + 1) unit ≡ true
  on_next k unit other t =
      let g = going_on k unit t in
      let begun : first_of (own parts unit) ≤ k = g.begun in
      let behind : k < last_of (own parts unit) = g.behind in
      elim (cases_eq (last_of (own parts unit)) (k + 1)) [
        | inl same ↦ absurd (other (ap (unit_of parts) (sym same) ∙ g.last_own))
        | inr differs ↦ goes_on_from parts (k + 1) unit (omega arith) (omega arith)
      ]

  on_before : (k unit : ℕ) → (unit_of parts (k + 1) ≡ unit → ⊥) → goes_on parts (k + 1) unit ≡ true → goes_on parts k unit ≡ true
  on_before k unit other t =
      let g = going_on (k + 1) unit t in
      let begun : first_of (own parts unit) ≤ k + 1 = g.begun in
      let behind : k + 1 < last_of (own parts unit) = g.behind in
      elim (cases_eq (first_of (own parts unit)) (k + 1)) [
        | inl same ↦ absurd (other (ap (unit_of parts) (sym same) ∙ g.first_own))
        | inr differs ↦ goes_on_from parts k unit (omega arith) (omega arith)
      ]

  pub on_same : (k unit : ℕ) → (unit_of parts (k + 1) ≡ unit → ⊥) → goes_on parts (k + 1) unit ≡ goes_on parts k unit
  on_same k unit other =
      elim (cases_Bool (goes_on parts (k + 1) unit)) [
        | inl t ↦ t ∙ sym (on_before k unit other t)
        | inr f ↦ f ∙ sym (not_so (goes_on parts k unit) (λ t. true_false (sym (on_next k unit other t) ∙ f)))
      ]

  -- of two units the one with the lesser number begins first
  pub begins_first : (k unit other : ℕ) → 1 ≤ unit → unit < other → GoesOn k other → first_of (own parts unit) < first_of (own parts other)
  begins_first k unit other low less g =
      let begun : first_of (own parts other) ≤ k = g.begun in
      let behind : k < last_of (own parts other) = g.behind in
      let within : last_of (own parts other) ≤ length parts = g.within in
      let mine : unit_of parts (first_of (own parts other)) ≡ other = g.first_own in
      let found = began_before parts (kept tariff trip parts price lawful).numbering (first_of (own parts other)) unit g.from_one (omega arith) low (omega arith) in
      let before : found.0 < first_of (own parts other) = found.2 in
      let first : first_of (own parts unit) ≤ found.0 = own_first parts unit found.0 (own_of found.0 unit found.1 (omega arith) found.3) in
      omega arith

  -- no unit with a greater number than a part's goes on where the part comes: it would cross the part's unit
  pub none_above : (k unit : ℕ) → k + 1 ≤ length parts → 1 ≤ unit_of parts (k + 1) → unit_of parts (k + 1) < unit → goes_on parts k unit ≡ false
  none_above k unit high low less =
      not_so (goes_on parts k unit) (λ t.
      let g = going_on k unit t in
      let begun : first_of (own parts unit) ≤ k = g.begun in
      let behind : k < last_of (own parts unit) = g.behind in
      let mine : unit_of parts (last_of (own parts unit)) ≡ unit = g.last_own in
      let here = own_has tariff trip parts price lawful (k + 1) (omega arith) high in
      let before : first_of (own parts (unit_of parts (k + 1))) < first_of (own parts unit) = begins_first k (unit_of parts (k + 1)) unit low less g in
      let some = first_place (unit_of parts (k + 1)) (k + 1) here in
      elim (cases_eq (last_of (own parts unit)) (k + 1)) [
        | inl same ↦ let e : unit_of parts (k + 1) ≡ unit = ap (unit_of parts) (sym same) ∙ mine in absurd (omega arith)
        | inr differs ↦
            let crossing : unit_of parts (k + 1) ≡ unit_of parts (first_of (own parts unit)) =
            not_crossed parts (kept tariff trip parts price lawful).crossing (first_of (own parts (unit_of parts (k + 1)))) (first_of (own parts unit)) (k + 1) (last_of (own parts unit)) some.0 before (omega arith) (omega arith) g.within (sym some.1) (mine ∙ sym g.first_own) in
            let e : unit_of parts (k + 1) ≡ unit = crossing ∙ g.first_own in
            absurd (omega arith)
      ])
    where
      first_place : (u j : ℕ) → Member j (own parts u) → (1 ≤ first_of (own parts u)) × (unit_of parts (first_of (own parts u)) ≡ u)
      first_place u j m =
          let place = member_place tariff trip parts price lawful u (first_of (own parts u)) (first_member (own parts u) (some_member (own parts u) j m)) in
          (place.0, place.2)

  -- a unit that goes on over the first part of another comes home behind it
  pub home_behind : (k unit : ℕ) → 1 ≤ unit → k + 1 ≤ length parts → unit < unit_of parts (k + 1) → first_of (own parts (unit_of parts (k + 1))) ≡ k + 1 → k + 1 < last_of (own parts (unit_of parts (k + 1)))
      → goes_on parts (k + 1) unit ≡ true → home_at parts (unit_of parts (k + 1)) < home_at parts unit
  home_behind k unit low high less first last t =
      let g = going_on (k + 1) unit t in
      let begun : first_of (own parts unit) ≤ k + 1 = g.begun in
      let behind : k + 1 < last_of (own parts unit) = g.behind in
      let mine : unit_of parts (last_of (own parts unit)) ≡ unit = g.last_own in
      let first_mine : unit_of parts (first_of (own parts unit)) ≡ unit = g.first_own in
      let whole : goes_on parts (k + 1) (unit_of parts (k + 1)) ≡ true = goes_on_from parts (k + 1) (unit_of parts (k + 1)) (omega arith) last in
      let h = going_on (k + 1) (unit_of parts (k + 1)) whole in
      let his : unit_of parts (last_of (own parts (unit_of parts (k + 1)))) ≡ unit_of parts (k + 1) = h.last_own in
      let earlier : first_of (own parts unit) ≡ k + 1 → ⊥ = λ e. let same : unit_of parts (first_of (own parts unit)) ≡ unit_of parts (k + 1) = ap (unit_of parts) e in omega arith in
      elim (cases_lt (last_of (own parts (unit_of parts (k + 1)))) (last_of (own parts unit))) [
        | inl before ↦ ends_rise trip parts (all tariff trip parts price lawful) (last_of (own parts (unit_of parts (k + 1)))) (last_of (own parts unit)) (omega arith) before g.within
        | inr past ↦ elim (cases_eq (last_of (own parts unit)) (last_of (own parts (unit_of parts (k + 1))))) [
          | inl same ↦ let e : unit_of parts (last_of (own parts unit)) ≡ unit_of parts (last_of (own parts (unit_of parts (k + 1)))) = ap (unit_of parts) same in absurd (omega arith)
          | inr other ↦
              let crossing : unit_of parts (last_of (own parts unit)) ≡ unit_of parts (k + 1) =
              not_crossed parts (kept tariff trip parts price lawful).crossing (first_of (own parts unit)) (k + 1) (last_of (own parts unit)) (last_of (own parts (unit_of parts (k + 1)))) g.from_one (omega arith) behind (omega arith) h.within (mine ∙ sym first_mine) his in
              absurd (omega arith)
        ]
      ]
