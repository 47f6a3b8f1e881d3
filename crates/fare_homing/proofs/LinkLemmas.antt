-- Numbers by what is barred as they are made: those that all lead to the first place, and one that leads elsewhere.
use Rattle.std.proofs.Common.{◌≡◌, ℕ, zero, suc, ◌<◌, true, false, List, [], ◌∷◌, replicate, set, refl, sym, subst, ◌∙◌, ap, inl, inr, arith}
use Rattle.std.specs.Prelude.{◌⊎◌, Option, Some, None, position, slice_index_or}
use Rattle.std.proofs.lemmas.List.Quantifiers.{position-Some}
use Rattle.fare_codes.specs.declared.rule_id.RuleId.{RuleId}
use Rattle.fare_trip.specs.Itinerary.{Itinerary}
use Rattle.fare_tariff.specs.Record.{FareRecord}
use Rattle.fare_tariff.specs.Tariff.{Tariff}
use Rattle.fare_tariff.specs.Lookup.{fare_at}
use Rattle.fare_bounds.specs.Covers.{rest_at}
use Rattle.fare_homing.specs.declared.onward.Onward.{Onward}
use Rattle.fare_homing.specs.declared.onward.Onwards.{Onwards}
use Rattle.fare_legs.specs.Barred.{IsStep, has_this_rule, is_among, is_of_rule}
use Rattle.fare_homing.specs.Barring.{AreUnlinked}
use Rattle.fare_homing.specs.HomingRows.{AreRests}
use Rattle.fare_homing.specs.Onward.{AreOnwards, HasRests, next_at, next_by, no_onward, onward_at}
use Rattle.fare_legs.proofs.RuleLemmas.{same_rule_is}
use Rattle.fare_homing.proofs.OnwardLemmas.{weaker}

false_true : false ≡ true → ⊥
false_true e = cc

module _ {A : Type 0} where
  -- what is read behind a write was written, or stood there
  read_set : (xs : List A) (i : ℕ) (y : A) (k : ℕ) (d : A) → ((slice_index_or (set xs i y) k d ≡ y) × (k ≡ i) × ((e : A) → slice_index_or xs i e ≡ slice_index_or xs i d)) ⊎ (slice_index_or (set xs i y) k d ≡ slice_index_or xs k d)
  read_set [] i y k d = inr refl
  read_set (x ∷ xs) zero y zero d = inl (refl, refl, λ e. refl)
  read_set (x ∷ xs) zero y (suc k) d = inr refl
  read_set (x ∷ xs) (suc i) y zero d = inr refl
  read_set (x ∷ xs) (suc i) y (suc k) d = elim (read_set xs i y k d) [
    | inl here ↦ inl (here.0, ap suc here.1, here.2)
    | inr other ↦ inr other
  ]

  all_same : (n : ℕ) (x : A) (k : ℕ) (d : A) → k < n → slice_index_or (replicate n x) k d ≡ x
  all_same zero x k d less = absurd (omega arith)
  all_same (suc n) x zero d less = refl
  all_same (suc n) x (suc k) d less = all_same n x k d (omega arith)

  same_or_none : (n : ℕ) (x : A) (k : ℕ) (d : A) → (slice_index_or (replicate n x) k d ≡ x) ⊎ (slice_index_or (replicate n x) k d ≡ d)
  same_or_none zero x k d = inr refl
  same_or_none (suc n) x zero d = inl refl
  same_or_none (suc n) x (suc k) d = same_or_none n x k d

-- no rule is that of no fare
none_barred : (tariff : Tariff) (barred : List ℕ) → barred ≡ replicate 16 0 → (rule : Option RuleId) → is_among tariff barred rule ≡ true → ⊥
none_barred tariff barred free rule has =
    let P : List ℕ → Type 0 = λ fares. is_among tariff fares rule ≡ true in
    let none : is_among tariff (replicate 16 0) rule ≡ false = refl in
    false_true (sym none ∙ subst P free has)

module _ (tariff : Tariff) (trip : Itinerary) (begun jaw : ℕ → ℕ → ℕ → Option ℕ) where
  -- at first nothing is barred in any place
  pub none_unlinked : (whole : ℕ → ℕ → Option ℕ) (rest : List (Option ℕ)) → AreRests tariff trip [] begun jaw whole (rest_at rest)
      → AreUnlinked tariff trip begun jaw (replicate 64 (record { barred = replicate 16 0; rest = rest; next = replicate 16 0 }))
  none_unlinked whole rest are =
      let all : Onward = record { barred = replicate 16 0; rest = rest; next = replicate 16 0 } in
      let H : Onward → Type 0 = λ o. HasRests tariff trip begun jaw o in
      let N : Onward → Type 0 = λ o. o.next ≡ replicate 16 0 in
      record {
        rests = λ k less. subst H (sym (all_same 64 all k no_onward less)) (whole, weaker tariff trip (replicate 16 0) begun jaw whole (rest_at rest) are);
        first = refl;
        next = λ k less. subst N (sym (all_same 64 all k no_onward less)) refl;
      }

  -- another behind the first place
  pub put_unlinked : (onwards : List Onward) (place : ℕ) (new : Onward) → 0 < place → HasRests tariff trip begun jaw new → new.next ≡ replicate 16 0 → AreUnlinked tariff trip begun jaw onwards → AreUnlinked tariff trip begun jaw (set onwards place new)
  put_unlinked onwards place new past rests next are =
      let H : Onward → Type 0 = λ o. HasRests tariff trip begun jaw o in
      let N : Onward → Type 0 = λ o. o.next ≡ replicate 16 0 in
      let F : Onward → Type 0 = λ o. o.barred ≡ replicate 16 0 in
      record {
        rests = λ k less. elim (read_set onwards place new k no_onward) [
          | inl here ↦ subst H (sym here.0) rests
          | inr other ↦ subst H (sym other) (are.rests k less)
        ];
        first = elim (read_set onwards place new 0 no_onward) [
          | inl here ↦ absurd (omega (arith, here.1))
          | inr other ↦ subst F (sym other) are.first
        ];
        next = λ k less. elim (read_set onwards place new k no_onward) [
          | inl here ↦ subst N (sym here.0) next
          | inr other ↦ subst N (sym other) (are.next k less)
        ];
      }

  -- one place may lead to another behind a part of a rule
  abbrev Leads : Onwards → ℕ → Option RuleId → ℕ → Type 0
  Leads onwards k rule n = (n < 64) × IsStep tariff (onward_at onwards k).barred rule (onward_at onwards n).barred

  -- numbers that all lead to the first place are what is behind each point
  module _ (onwards : Onwards) (are : AreUnlinked tariff trip begun jaw onwards.sets) where
    nothing : (rule : Option RuleId) → is_among tariff (onward_at onwards 0).barred rule ≡ true → ⊥
    nothing rule has = none_barred tariff (onward_at onwards 0).barred are.first rule has

    leads_found : (k : ℕ) (rule : Option RuleId) → k < 64 → (found : Option ℕ) → Leads onwards k rule (next_at (onward_at onwards k) k found)
    leads_found k rule less None = (less, λ other has. inl has)
    leads_found k rule less (Some place) =
        let L : ℕ → Type 0 = λ n. Leads onwards k rule n in
        let N : List ℕ → Type 0 = λ next. L (slice_index_or next place k) in
        subst N (sym (are.next k less)) (elim (same_or_none 16 0 place k) [
          | inl first ↦ subst L (sym first) (omega arith, λ other has. absurd (nothing other has))
          | inr same ↦ subst L (sym same) (less, λ other has. inl has)
        ])

    pub unlinked_onwards : AreOnwards tariff trip begun jaw onwards
    unlinked_onwards = record {
      rests = are.rests;
      first = nothing;
      within = λ k rule less. (leads_found k rule less (position (is_of_rule tariff rule) onwards.rules)).0;
      steps = λ k rule less. (leads_found k rule less (position (is_of_rule tariff rule) onwards.rules)).1;
    }

  -- numbers of which one place leads to another behind a part of the rule of a place
  module _ (old : Onwards) (here place behind d : ℕ) (e : Onward) (fare : FareRecord) (inside : behind < 64) (filed : fare_at tariff (slice_index_or old.rules place d) ≡ Some fare)
      (step : IsStep tariff (onward_at old here).barred fare.rule (onward_at old behind).barred) (are : AreOnwards tariff trip begun jaw old) where
    abbrev was : Onward
    was = slice_index_or old.sets here e

    abbrev linked : Onward
    linked = record { barred = was.barred; rest = was.rest; next = set was.next place behind }

    abbrev new : Onwards
    new = record { rules = old.rules; sets = set old.sets here linked }

    abbrev read : (k : ℕ) → ((onward_at new k ≡ linked) × (k ≡ here) × ((d : Onward) → slice_index_or old.sets here d ≡ onward_at old here)) ⊎ (onward_at new k ≡ onward_at old k)
    read k = read_set old.sets here linked k no_onward

    same_barred : (k : ℕ) → (onward_at new k).barred ≡ (onward_at old k).barred
    same_barred k = elim (read k) [
      | inl this ↦ ap (λ (o : Onward). o.barred) this.0 ∙ ap (λ (o : Onward). o.barred) (this.2 e) ∙ ap (λ n. (onward_at old n).barred) (sym this.1)
      | inr other ↦ ap (λ (o : Onward). o.barred) other
    ]

    same_rest : (k : ℕ) → (onward_at new k).rest ≡ (onward_at old k).rest
    same_rest k = elim (read k) [
      | inl this ↦ ap (λ (o : Onward). o.rest) this.0 ∙ ap (λ (o : Onward). o.rest) (this.2 e) ∙ ap (λ n. (onward_at old n).rest) (sym this.1)
      | inr other ↦ ap (λ (o : Onward). o.rest) other
    ]

    -- behind a part of a rule that is found there
    leads_here : (other : Option RuleId) → was ≡ onward_at old here → here < 64 → (found : Option ℕ) → position (is_of_rule tariff other) old.rules ≡ found
        → Leads old here other (next_at (onward_at old here) here found) → Leads old here other (next_at linked here found)
    leads_here other is less None found known = known
    leads_here other is less (Some at) found known =
        let L : ℕ → Type 0 = λ n. Leads old here other n in
        elim (read_set was.next place behind at here) [
          | inl this ↦
              let has : is_of_rule tariff other (slice_index_or old.rules at d) ≡ true = (position-Some (is_of_rule tariff other) old.rules at d found).1 in
              let R : Option FareRecord → Type 0 = λ found. has_this_rule other found ≡ true in
              let told : has_this_rule other (Some fare) ≡ true = subst R filed (subst (λ k. is_of_rule tariff other (slice_index_or old.rules k d) ≡ true) this.1 has) in
              let same : fare.rule ≡ other = same_rule_is fare.rule other told in
              subst L (sym this.0) (inside, subst (λ r. IsStep tariff (onward_at old here).barred r (onward_at old behind).barred) same step)
          | inr stays ↦
              let kept : slice_index_or (onward_at old here).next at here ≡ slice_index_or was.next at here = ap (λ (o : Onward). slice_index_or o.next at here) (sym is) in
              subst L (kept ∙ sym stays) known
        ]

    leads_all : (k : ℕ) (other : Option RuleId) → k < 64 → Leads old k other (next_by tariff new k other)
    leads_all k other less =
        let found = position (is_of_rule tariff other) old.rules in
        let known : Leads old k other (next_at (onward_at old k) k found) = (are.within k other less, are.steps k other less) in
        let N : Onward → Type 0 = λ o. Leads old k other (next_at o k found) in
        elim (read k) [
          | inl this ↦
              let K : ℕ → Type 0 = λ n. Leads old n other (next_at (onward_at old n) n found) in
              let M : ℕ → Type 0 = λ n. Leads old n other (next_at linked n found) in
              subst N (sym this.0) (subst M (sym this.1) (leads_here other (this.2 e) (subst (λ n. n < 64) this.1 less) found refl (subst K this.1 known)))
          | inr same ↦ subst N (sym same) known
        ]

    pub linked_onwards : AreOnwards tariff trip begun jaw new
    linked_onwards = record {
      rests = λ k less.
          let known = are.rests k less in
          (known.0, subst (λ fares. AreRests tariff trip fares begun jaw known.0 (rest_at (onward_at new k).rest)) (sym (same_barred k)) (subst (λ rest. AreRests tariff trip (onward_at old k).barred begun jaw known.0 (rest_at rest)) (sym (same_rest k)) known.1));
      first = λ other has. are.first other (subst (λ fares. is_among tariff fares other ≡ true) (same_barred 0) has);
      within = λ k other less. (leads_all k other less).0;
      steps = λ k other less.
          let n = next_by tariff new k other in
          subst (λ fares. IsStep tariff fares other (onward_at new n).barred) (sym (same_barred k)) (subst (λ fares. IsStep tariff (onward_at old k).barred other fares) (sym (same_barred n)) (leads_all k other less).1);
    }
