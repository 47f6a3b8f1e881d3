-- The numbers of homing from a trip's end back, one point on.
use Rattle.std.proofs.Common.{◌≡◌, ℕ, ◌+◌, ◌<◌, ◌≤◌, Bool, true, false, List, [], length, set, sym, subst, inl, inr, arith}
use Rattle.std.specs.Prelude.{Option, None, if◌then◌else◌, slice_index_or}
use Rattle.std.proofs.lemmas.Bool.{cases_Bool, cases_eq}
use Rattle.std.proofs.lemmas.List.{get_or-set_same, get_or-set_other}
use Rattle.fare_trip.specs.Itinerary.{Itinerary, count}
use Rattle.fare_tariff.specs.Tariff.{Tariff}
use Rattle.fare_codes.specs.declared.country.Country.{Country}
use Rattle.fare_rules.specs.Construction.{begin_after}
use Rattle.fare_rules.proofs.CoverLemmas.{begins_later}
use Rattle.fare_bounds.specs.Covers.{rest_at}
use Rattle.fare_component.specs.declared.table.entry.Entry.{Entry}
use Rattle.fare_component.specs.Table.{entries_of}
use Rattle.fare_component.proofs.LawLemmas.{entry_is_of_fare}
use Rattle.fare_legs.specs.declared.ceiling.Ceiling.{Ceiling}
use Rattle.fare_legs.specs.Barred.{unless_barred}
use Rattle.fare_legs.specs.Ceiling.{below_ceiling}
use Rattle.fare_legs.specs.Costs.{IsUpTo, back_cost, between_cost, first_cost, heads_to, is_same_city}
use Rattle.fare_homing.specs.Homing.{homing_at}
use Rattle.fare_homing.specs.HomingRows.{AreBetweens, AreClosings, AreJaws, AreNext, AreWholes, IsBetween, IsPart, IsUnderBoth}
use Rattle.fare_homing.specs.Rows.{cell}
use Rattle.fare_legs.specs.Least.{IsUnderEach}
use Rattle.fare_legs.specs.Countries.{heads_in, AreCountries}
use Rattle.fare_legs.proofs.CountryLemmas.{heads_same}

true_false : true ≡ false → ⊥
true_false e = cc

module _ (tariff : Tariff) (trip : Itinerary) where
  -- a part behind a point ends behind it, and within the trip
  pub part_after : (cost_of : Entry → Option ℕ) (i b cost : ℕ) → IsPart tariff trip cost_of (begin_after trip i) b cost → (i < b) × (b ≤ count trip)
  part_after cost_of i b cost part =
      let is = entry_is_of_fare tariff trip (begin_after trip i) b part.entry part.there in
      let low : i ≤ begin_after trip i = begins_later trip i in
      (omega (arith, is.rises), is.within)

  -- a part between heads home where the countries of the trip's points say so
  pub between_same : (countries : List (Option Country)) (ceiling : Option Ceiling) (a b home x : ℕ) → AreCountries tariff trip countries → a ≤ count trip → b ≤ count trip → home ≤ count trip → IsBetween tariff trip ceiling a home b x
      → IsPart tariff trip (below_ceiling tariff trip ceiling a home b (between_cost (heads_in countries a b home))) a b x
  between_same countries ceiling a b home x are low mid high part =
      let P : Bool → Type 0 = λ heads. IsPart tariff trip (below_ceiling tariff trip ceiling a home b (between_cost heads)) a b x in
      subst P (heads_same tariff trip countries a b home are low mid high) part.part

  -- without a ceiling it costs no less than the least of the parts of its way
  pub step_up : (countries : List (Option Country)) (a b home x : ℕ) (first last : Option ℕ) → AreCountries tariff trip countries → a ≤ count trip → b ≤ count trip → home ≤ count trip
      → IsUnderEach first_cost (entries_of tariff trip a b) first → IsUnderEach back_cost (entries_of tariff trip a b) last → IsBetween tariff trip None a home b x
      → IsUpTo x (if heads_in countries a b home then last else first)
  step_up countries a b home x first last are low mid high outs backs part =
      let here : IsPart tariff trip (between_cost (heads_in countries a b home)) a b x = between_same countries None a b home x are low mid high part in
      by_way (heads_in countries a b home) here
    where
      by_way : (way : Bool) → IsPart tariff trip (between_cost way) a b x → IsUpTo x (if way then last else first)
      by_way true p = backs x p
      by_way false p = outs x p

-- numbers are under the same by rows that are the same behind a point
pub wholes_same : (tariff : Tariff) (trip : Itinerary) (barred : List ℕ) (begun jaw new_begun new_jaw : ℕ → ℕ → ℕ → Option ℕ) (i : ℕ) (whole new : ℕ → Option ℕ) → ((b j : ℕ) → i < b → new_begun b b j ≡ begun b b j)
    → ((b j : ℕ) → i < b → new_jaw b b j ≡ jaw b b j) → ((j : ℕ) → new j ≡ whole j) → AreWholes tariff trip barred begun jaw i whole → AreWholes tariff trip barred new_begun new_jaw i new
wholes_same tariff trip barred begun jaw new_begun new_jaw i whole new closes ends same are = record {
  alone = λ j cost part. subst (IsUpTo cost) (sym (same j)) (are.alone j cost part);
  first = λ b j x y cost may part less up sum pair.
      let after = part_after tariff trip (unless_barred tariff barred first_cost) i b x part in
      subst (IsUpTo cost) (sym (same j)) (are.first b j x y cost may part less (until b j y (begin_after trip i) after.0 up) sum pair);
}
  where
    until : (b j y start : ℕ) → i < b → IsUpTo y (homing_at trip (new_begun b) (new_jaw b) start b j) → IsUpTo y (homing_at trip (begun b) (jaw b) start b j)
    until b j y start low up = elim (cases_Bool (is_same_city trip start j)) [
      | inl t ↦ let here : IsUpTo y (new_begun b b j) = rw t at up in rw t (subst (IsUpTo y) (closes b j low) here)
      | inr f ↦ let here : IsUpTo y (new_jaw b b j) = rw f at up in rw f (subst (IsUpTo y) (ends b j low) here)
    ]

under_same : (whole new_whole : ℕ → Option ℕ) (stays new_stays : ℕ → ℕ → Option ℕ) (i : ℕ) (row new : ℕ → Option ℕ) → ((j : ℕ) → new_whole j ≡ whole j) → ((b j : ℕ) → i < b → new_stays b j ≡ stays b j) → ((j : ℕ) → new j ≡ row j)
    → IsUnderBoth whole stays i row → IsUnderBoth new_whole new_stays i new
under_same whole new_whole stays new_stays i row new wholes same here are b j x y low less up more =
    subst (IsUpTo (x + y)) (sym (here j)) (are b j x y low less (subst (IsUpTo x) (wholes b) up) (subst (IsUpTo y) (same b j low) more))

pub closings_same : (tariff : Tariff) (trip : Itinerary) (ceiling : Option Ceiling) (worth : ℕ → ℕ → Type 0) (after new_after : ℕ → ℕ → Option ℕ) (whole new_whole : ℕ → Option ℕ) (stays new_stays : ℕ → ℕ → Option ℕ) (stand i : ℕ) (row new : ℕ → Option ℕ)
    → ((b j : ℕ) → i < b → new_after b j ≡ after b j) → ((j : ℕ) → new_whole j ≡ whole j) → ((b j : ℕ) → i < b → new_stays b j ≡ stays b j) → ((j : ℕ) → new j ≡ row j)
    → AreClosings tariff trip ceiling worth after whole stays stand i row → AreClosings tariff trip ceiling worth new_after new_whole new_stays stand i new
closings_same tariff trip ceiling worth after new_after whole new_whole stays new_stays stand i row new afters wholes same here are = record {
  last = λ j x is. subst (IsUpTo x) (sym (here j)) (are.last j x is);
  between = λ b j x y city part less apart within up.
      let rises = part_after tariff trip (below_ceiling tariff trip ceiling (begin_after trip i) j b (between_cost (heads_to tariff trip (begin_after trip i) b j))) i b x part.part in
      subst (IsUpTo (x + y)) (sym (here j)) (are.between b j x y city part less apart within (subst (IsUpTo y) (afters b j rises.0) up));
  nested = under_same whole new_whole stays new_stays i row new wholes same here are.nested;
}

-- numbers of parts between are under the same by rows that are the same behind their point
pub betweens_same : (tariff : Tariff) (trip : Itinerary) (ceiling : Option Ceiling) (after new_after : ℕ → ℕ → Option ℕ) (i : ℕ) (row : ℕ → Option ℕ) → ((b j : ℕ) → i < b → new_after b j ≡ after b j)
    → AreBetweens tariff trip ceiling after i row → AreBetweens tariff trip ceiling new_after i row
betweens_same tariff trip ceiling after new_after i row afters are b j x y part less apart within up =
    let rises = part_after tariff trip (below_ceiling tariff trip ceiling (begin_after trip i) j b (between_cost (heads_to tariff trip (begin_after trip i) b j))) i b x part.part in
    are b j x y part less apart within (subst (IsUpTo y) (afters b j rises.0) up)

-- the numbers of one point more are put
pub put_betweens : (tariff : Tariff) (trip : Itinerary) (ceiling : Option Ceiling) (after : ℕ → ℕ → Option ℕ) (rows : List (List (Option ℕ))) (p : ℕ) (row : List (Option ℕ)) → p < length rows
    → AreBetweens tariff trip ceiling after p (rest_at row) → ((i : ℕ) → p + 1 ≤ i → i < count trip → AreBetweens tariff trip ceiling after i (cell rows i)) → (i : ℕ) → p ≤ i → i < count trip → AreBetweens tariff trip ceiling after i (cell (set rows p row) i)
put_betweens tariff trip ceiling after rows p row long here known i low high =
    let Row : ℕ → List (Option ℕ) → Type 0 = λ k line. AreBetweens tariff trip ceiling after k (rest_at line) in
    elim (cases_eq i p) [
      | inl same ↦
          let P : ℕ → Type 0 = λ k. Row k (slice_index_or (set rows p row) k []) in
          subst P (sym same) (subst (Row p) (sym (get_or-set_same rows p row [] long)) here)
      | inr other ↦ subst (Row i) (sym (get_or-set_other rows p i row [] other)) (known i (omega arith) high)
    ]

-- what comes next with what is nested before it is behind the point
pub closings_of : (tariff : Tariff) (trip : Itinerary) (ceiling : Option Ceiling) (next worth : ℕ → ℕ → Type 0) (after : ℕ → ℕ → Option ℕ) (whole : ℕ → Option ℕ) (stays : ℕ → ℕ → Option ℕ) (stand i : ℕ) (near row : ℕ → Option ℕ)
    → ((j x : ℕ) → worth j x → next j x) → AreNext tariff trip ceiling next after stand i near → ((j most : ℕ) → IsUpTo most (near j) → IsUpTo most (row j)) → IsUnderBoth whole stays i row → AreClosings tariff trip ceiling worth after whole stays stand i row
closings_of tariff trip ceiling next worth after whole stays stand i near row by are kept under = record {
  last = λ j x is. kept j x (are.last j x (by j x is));
  between = λ b j x y city part less apart within up. kept j (x + y) (are.between b j x y city part less apart within up);
  nested = under;
}

pub jaws_same : (tariff : Tariff) (trip : Itinerary) (whole new_whole : ℕ → Option ℕ) (stays new_stays : ℕ → ℕ → Option ℕ) (stand i : ℕ) (row new : ℕ → Option ℕ)
    → ((j : ℕ) → new_whole j ≡ whole j) → ((b j : ℕ) → i < b → new_stays b j ≡ stays b j) → ((j : ℕ) → new j ≡ row j)
    → AreJaws tariff trip whole stays stand i row → AreJaws tariff trip new_whole new_stays stand i new
jaws_same tariff trip whole new_whole stays new_stays stand i row new wholes same here are = record {
  last = λ j x city part. subst (IsUpTo x) (sym (here j)) (are.last j x city part);
  nested = under_same whole new_whole stays new_stays i row new wholes same here are.nested;
}
