-- The numbers of a trip from one point on.
use Rattle.std.proofs.Common.{◌≡◌, ℕ, ◌+◌, ◌<◌, ◌≤◌, List, [], length, set, refl, ap, sym, subst, ◌∙◌, inl, inr, arith}
use Rattle.std.specs.Prelude.{Option, Some, None, slice_index_or}
use Rattle.std.proofs.lemmas.Bool.{cases_eq}
use Rattle.std.proofs.lemmas.List.{get_or-set_same, get_or-set_other}
use Rattle.fare_trip.specs.Itinerary.{Itinerary, count}
use Rattle.fare_tariff.specs.Tariff.{Tariff}
use Rattle.fare_bounds.specs.Covers.{rest_at}
use Rattle.fare_homing.specs.declared.homing.Homing.{Homing}
use Rattle.fare_homing.specs.declared.homing.Standing.{Standing}
use Rattle.fare_legs.specs.Costs.{IsUpTo}
use Rattle.fare_homing.specs.HomingRows.{AreClosings, AreHomings, AreJaws, AreWholes, IsLast, IsOnward, IsSecond}
use Rattle.fare_homing.specs.Rows.{begun_from, cell, closing_from, jaw_from, no_standing}
use Rattle.fare_homing.proofs.HomingRowLemmas.{closings_same, jaws_same, wholes_same}

-- the numbers of a trip are known from a point on
pub record AreHomingsFrom (tariff : Tariff) (trip : Itinerary) (p : ℕ) (homing : Homing) : Type 0 where
  pub wholes : (i : ℕ) → p ≤ i → i < count trip → AreWholes tariff trip [] (begun_from homing) (jaw_from homing) i (cell homing.whole i)
  pub begins : (c i : ℕ) → p ≤ c → c ≤ i → i < count trip → AreClosings tariff trip homing.unit_ceiling (IsSecond tariff trip c i) (λ b. closing_from homing b b) (cell homing.whole i) (begun_from homing c) c i (begun_from homing c i)
  pub closes : (c i : ℕ) → p ≤ c → c ≤ i → i < count trip → AreClosings tariff trip homing.unit_ceiling (IsLast tariff trip c i) (λ b. closing_from homing b b) (cell homing.whole i) (closing_from homing c) c i (closing_from homing c i)
  pub ends : (c i : ℕ) → p ≤ c → c ≤ i → i < count trip → AreJaws tariff trip (cell homing.whole i) (jaw_from homing c) c i (jaw_from homing c i)
  pub onward : (i : ℕ) → p ≤ i → i < count trip → IsOnward trip (cell homing.whole i) (rest_at homing.rest) i (rest_at homing.rest i)
  pub nothing : rest_at homing.rest (count trip) ≡ Some 0

pub all_homings : (tariff : Tariff) (trip : Itinerary) (homing : Homing) → AreHomingsFrom tariff trip 0 homing → AreHomings tariff trip homing.unit_ceiling (begun_from homing) (closing_from homing) (jaw_from homing) (cell homing.whole) (rest_at homing.rest)
all_homings tariff trip homing known = record {
  wholes = λ i high. known.wholes i (omega arith) high;
  begins = λ c i low high. known.begins c i (omega arith) low high;
  closes = λ c i low high. known.closes c i (omega arith) low high;
  ends = λ c i low high. known.ends c i (omega arith) low high;
  onward = λ i high. known.onward i (omega arith) high;
  nothing = known.nothing;
}

pub no_homings : (tariff : Tariff) (trip : Itinerary) (homing : Homing) → rest_at homing.rest (count trip) ≡ Some 0 → AreHomingsFrom tariff trip (count trip) homing
no_homings tariff trip homing end = record {
  wholes = λ i low high. absurd (omega arith);
  begins = λ c i low mid high. absurd (omega arith);
  closes = λ c i low mid high. absurd (omega arith);
  ends = λ c i low mid high. absurd (omega arith);
  onward = λ i low high. absurd (omega arith);
  nothing = end;
}

-- where the numbers of one point are put, those of the points behind it stay
pub closing_put : (standings : List Standing) (p : ℕ) (new : Standing) (b i j : ℕ) → p < b
    → cell (slice_index_or (set standings p new) b no_standing).closing i j ≡ cell (slice_index_or standings b no_standing).closing i j
closing_put standings p new b i j past = ap (λ (s : Standing). cell s.closing i j) (get_or-set_other standings p b new no_standing (λ e. omega arith))

-- one point more
module _ (tariff : Tariff) (trip : Itinerary) (homing : Homing) (p : ℕ) (before : p < count trip) (row : List (Option ℕ)) (number : Option ℕ) (new : Standing)
    (long_standing : p < length homing.standing) (long_whole : p < length homing.whole) (long_rest : p < length homing.rest) (known : AreHomingsFrom tariff trip (p + 1) homing)
    (wholes_here : AreWholes tariff trip [] (begun_from homing) (jaw_from homing) p (rest_at row)) (onward_here : IsOnward trip (rest_at row) (rest_at homing.rest) p number) where
  -- the whole units and the rest of the point are put
  abbrev pub half : Homing
  half = record { standing = homing.standing; whole = set homing.whole p row; rest = set homing.rest p number; countries = homing.countries; lonely = homing.lonely; of_two = homing.of_two; ceiling = homing.ceiling; bar = homing.bar; unit_ceiling = homing.unit_ceiling; onwards = homing.onwards }

  -- and what is behind each point for a unit that stands there
  abbrev pub all : Homing
  all = record { standing = set homing.standing p new; whole = set homing.whole p row; rest = set homing.rest p number; countries = homing.countries; lonely = homing.lonely; of_two = homing.of_two; ceiling = homing.ceiling; bar = homing.bar; unit_ceiling = homing.unit_ceiling; onwards = homing.onwards }

  this_whole : (j : ℕ) → cell (set homing.whole p row) p j ≡ rest_at row j
  this_whole j = ap (λ (xs : List (Option ℕ)). slice_index_or xs j None) (get_or-set_same homing.whole p row [] long_whole)

  other_whole : (i j : ℕ) → (i ≡ p → ⊥) → cell (set homing.whole p row) i j ≡ cell homing.whole i j
  other_whole i j other = ap (λ (xs : List (Option ℕ)). slice_index_or xs j None) (get_or-set_other homing.whole p i row [] other)

  other_rest : (i : ℕ) → (i ≡ p → ⊥) → rest_at (set homing.rest p number) i ≡ rest_at homing.rest i
  other_rest i other = get_or-set_other homing.rest p i number None other

  other_begun : (c i j : ℕ) → (c ≡ p → ⊥) → begun_from all c i j ≡ begun_from homing c i j
  other_begun c i j other = ap (λ (s : Standing). cell s.begun i j) (get_or-set_other homing.standing p c new no_standing other)

  other_closing : (c i j : ℕ) → (c ≡ p → ⊥) → closing_from all c i j ≡ closing_from homing c i j
  other_closing c i j other = ap (λ (s : Standing). cell s.closing i j) (get_or-set_other homing.standing p c new no_standing other)

  other_jaw : (c i j : ℕ) → (c ≡ p → ⊥) → jaw_from all c i j ≡ jaw_from homing c i j
  other_jaw c i j other = ap (λ (s : Standing). cell s.jaw i j) (get_or-set_other homing.standing p c new no_standing other)

  this_begun : (i j : ℕ) → begun_from all p i j ≡ cell new.begun i j
  this_begun i j = ap (λ (s : Standing). cell s.begun i j) (get_or-set_same homing.standing p new no_standing long_standing)

  this_closing : (i j : ℕ) → closing_from all p i j ≡ cell new.closing i j
  this_closing i j = ap (λ (s : Standing). cell s.closing i j) (get_or-set_same homing.standing p new no_standing long_standing)

  this_jaw : (i j : ℕ) → jaw_from all p i j ≡ cell new.jaw i j
  this_jaw i j = ap (λ (s : Standing). cell s.jaw i j) (get_or-set_same homing.standing p new no_standing long_standing)

  module _ (begins_here : (i : ℕ) → p ≤ i → i < count trip → AreClosings tariff trip homing.unit_ceiling (IsSecond tariff trip p i) (λ b. closing_from half b b) (cell half.whole i) (cell new.begun) p i (cell new.begun i))
      (closes_here : (i : ℕ) → p ≤ i → i < count trip → AreClosings tariff trip homing.unit_ceiling (IsLast tariff trip p i) (λ b. closing_from half b b) (cell half.whole i) (cell new.closing) p i (cell new.closing i))
      (ends_here : (i : ℕ) → p ≤ i → i < count trip → AreJaws tariff trip (cell half.whole i) (cell new.jaw) p i (cell new.jaw i)) where
    pub put_homings : AreHomingsFrom tariff trip p all
    put_homings = record {
      wholes = λ i low high. elim (cases_eq i p) [
        | inl same ↦
            let P : ℕ → Type 0 = λ k. AreWholes tariff trip [] (begun_from all) (jaw_from all) k (cell all.whole k) in
            subst P (sym same) (wholes_same tariff trip [] (begun_from homing) (jaw_from homing) (begun_from all) (jaw_from all) p (rest_at row) (cell all.whole p)
            (λ b j past. other_begun b b j (λ e. omega arith)) (λ b j past. other_jaw b b j (λ e. omega arith)) this_whole wholes_here)
        | inr other ↦ wholes_same tariff trip [] (begun_from homing) (jaw_from homing) (begun_from all) (jaw_from all) i (cell homing.whole i) (cell all.whole i)
            (λ b j past. other_begun b b j (λ e. omega arith)) (λ b j past. other_jaw b b j (λ e. omega arith)) (λ j. other_whole i j other) (known.wholes i (omega arith) high)
      ];
      begins = λ c i low mid high. elim (cases_eq c p) [
        | inl same ↦
            let P : ℕ → Type 0 = λ k. AreClosings tariff trip homing.unit_ceiling (IsSecond tariff trip k i) (λ b. closing_from all b b) (cell all.whole i) (begun_from all k) k i (begun_from all k i) in
            subst P (sym same) (closings_same tariff trip homing.unit_ceiling (IsSecond tariff trip p i) (λ b. closing_from half b b) (λ b. closing_from all b b) (cell half.whole i) (cell all.whole i) (cell new.begun) (begun_from all p) p i (cell new.begun i) (begun_from all p i)
            (λ b j past. other_closing b b j (λ e. omega arith)) (λ j. refl) (λ b j past. this_begun b j) (λ j. this_begun i j) (begins_here i (omega arith) high))
        | inr other ↦ closings_same tariff trip homing.unit_ceiling (IsSecond tariff trip c i) (λ b. closing_from homing b b) (λ b. closing_from all b b) (cell homing.whole i) (cell all.whole i) (begun_from homing c) (begun_from all c) c i (begun_from homing c i) (begun_from all c i)
            (λ b j past. other_closing b b j (λ e. omega arith)) (λ j. other_whole i j (λ e. omega arith)) (λ b j past. other_begun c b j other) (λ j. other_begun c i j other) (known.begins c i (omega arith) mid high)
      ];
      closes = λ c i low mid high. elim (cases_eq c p) [
        | inl same ↦
            let P : ℕ → Type 0 = λ k. AreClosings tariff trip homing.unit_ceiling (IsLast tariff trip k i) (λ b. closing_from all b b) (cell all.whole i) (closing_from all k) k i (closing_from all k i) in
            subst P (sym same) (closings_same tariff trip homing.unit_ceiling (IsLast tariff trip p i) (λ b. closing_from half b b) (λ b. closing_from all b b) (cell half.whole i) (cell all.whole i) (cell new.closing) (closing_from all p) p i (cell new.closing i) (closing_from all p i)
            (λ b j past. other_closing b b j (λ e. omega arith)) (λ j. refl) (λ b j past. this_closing b j) (λ j. this_closing i j) (closes_here i (omega arith) high))
        | inr other ↦ closings_same tariff trip homing.unit_ceiling (IsLast tariff trip c i) (λ b. closing_from homing b b) (λ b. closing_from all b b) (cell homing.whole i) (cell all.whole i) (closing_from homing c) (closing_from all c) c i (closing_from homing c i) (closing_from all c i)
            (λ b j past. other_closing b b j (λ e. omega arith)) (λ j. other_whole i j (λ e. omega arith)) (λ b j past. other_closing c b j other) (λ j. other_closing c i j other) (known.closes c i (omega arith) mid high)
      ];
      ends = λ c i low mid high. elim (cases_eq c p) [
        | inl same ↦
            let P : ℕ → Type 0 = λ k. AreJaws tariff trip (cell all.whole i) (jaw_from all k) k i (jaw_from all k i) in
            subst P (sym same) (jaws_same tariff trip (cell half.whole i) (cell all.whole i) (cell new.jaw) (jaw_from all p) p i (cell new.jaw i) (jaw_from all p i) (λ j. refl) (λ b j past. this_jaw b j) (λ j. this_jaw i j) (ends_here i (omega arith) high))
        | inr other ↦ jaws_same tariff trip (cell homing.whole i) (cell all.whole i) (jaw_from homing c) (jaw_from all c) c i (jaw_from homing c i) (jaw_from all c i)
            (λ j. other_whole i j (λ e. omega arith)) (λ b j past. other_jaw c b j other) (λ j. other_jaw c i j other) (known.ends c i (omega arith) mid high)
      ];
      onward = λ i low high. elim (cases_eq i p) [
        | inl same ↦
            let P : ℕ → Type 0 = λ k. IsOnward trip (cell all.whole k) (rest_at all.rest) k (rest_at all.rest k) in
            subst P (sym same) (λ b x y past within up more.
            subst (IsUpTo (x + y)) (sym (get_or-set_same homing.rest p number None long_rest)) (onward_here b x y past within (subst (IsUpTo x) (this_whole b) up) (subst (IsUpTo y) (other_rest b (λ e. omega arith)) more)))
        | inr other ↦ λ b x y past within up more.
            subst (IsUpTo (x + y)) (sym (other_rest i other)) (known.onward i (omega arith) high b x y past within (subst (IsUpTo x) (other_whole i b other) up) (subst (IsUpTo y) (other_rest b (λ e. omega arith)) more))
      ];
      nothing = other_rest (count trip) (λ e. omega arith) ∙ known.nothing;
    }
