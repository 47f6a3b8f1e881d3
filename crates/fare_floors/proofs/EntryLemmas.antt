-- What an entry of a span says of its fare, and what no entry says.
use Rattle.std.proofs.Common.{◌≡◌, ℕ, zero, suc, ◌+◌, ◌<◌, ◌≤◌, Bool, true, false, List, [], ◌∷◌, ◌++◌, length, map, take, get_or, refl, ap, sym, subst, ◌∙◌, inl, inr, arith}
use Rattle.std.specs.Prelude.{Option, Some, None, is_some, option_and_then, Contains}
use Rattle.std.proofs.lemmas.Bool.{cases_Bool}
use Rattle.std.proofs.lemmas.List.{take_more, map-append}
use Rattle.fare_trip.specs.Itinerary.{Itinerary, count}
use Rattle.fare_tariff.specs.Record.{FareRecord}
use Rattle.fare_tariff.specs.Tariff.{Tariff}
use Rattle.fare_tariff.specs.Lookup.{fare_at}
use Rattle.fare_rules.specs.ComponentAmount.{component_amount, is_half_round_trip}
use Rattle.fare_rules.specs.UnitPrice.{one_way_price}
use Rattle.fare_rules.proofs.CoverLemmas.{both_false}
use Rattle.fare_rules.proofs.MemberLemmas.{Member}
use Rattle.fare_component.specs.declared.table.entry.Entry.{Entry}
use Rattle.fare_component.specs.Table.{IsEntry, entries_of, entry_of, has_amount, single_price, single_of}
use Rattle.fare_component.proofs.LawLemmas.{amount_is_entry, entry_is_of_fare}
use Rattle.fare_bounds.specs.Covers.{least_cost}
use Rattle.fare_floors.specs.Costs.{fare_least, fare_of_entry}
use Rattle.fare_floors.specs.Ending.{is_priced}
use Rattle.fare_floors.proofs.FollowLemmas.{member_snoc}

true_false : true ≡ false → ⊥
true_false e = cc

not_there : {A : Type 0} (o : Option A) → is_some o ≡ false → o ≡ None
not_there None e = refl
not_there (Some x) e = absurd (true_false e)

single_none : (hr : Bool) (found : Option FareRecord) (f : FareRecord → Option ℕ) → ((fare : FareRecord) → f fare ≡ None) → option_and_then f found ≡ None
single_none hr None f h = refl
single_none hr (Some fare) f h = h fare

member_of_place : (entries : List Entry) (k : ℕ) (d : Entry) → k < length entries → Member (get_or entries k d).fare (map fare_of_entry entries)
member_of_place [] k d h = absurd (omega arith)
member_of_place (x ∷ xs) zero d h = inl refl
member_of_place (x ∷ xs) (suc k) d h = inr (member_of_place xs k d (omega arith))

pub fare_not_so_far : (entries : List Entry) (i : ℕ) (one : Entry) (fare : ℕ) → i < length entries → one ≡ get_or entries i one → (one.fare ≡ fare → ⊥) → (Member fare (map fare_of_entry (take i entries)) → ⊥) → Member fare (map fare_of_entry (take (i + 1) entries)) → ⊥
fare_not_so_far entries i one fare h same other none m =
    let split : map fare_of_entry (take (i + 1) entries) ≡ map fare_of_entry (take i entries) ++ (get_or entries i one).fare ∷ [] =
    ap (map fare_of_entry) (take_more entries i one h) ∙ map-append fare_of_entry (take i entries) (get_or entries i one ∷ []) in
    elim (member_snoc (map fare_of_entry (take i entries)) (get_or entries i one).fare fare (subst (Member fare) split m)) [
      | inl k ↦ none k
      | inr e ↦ other (ap (λ (x : Entry). x.fare) same ∙ sym e)
    ]

module _ (tariff : Tariff) (trip : Itinerary) (a b : ℕ) where
  pub least_of_entry : (entries : List Entry) (i : ℕ) (one : Entry) (fare : ℕ) → entries ≡ entries_of tariff trip a b → i < length entries → one ≡ get_or entries i one → one.fare ≡ fare → least_cost one ≡ fare_least tariff trip a b fare
  least_of_entry entries i one fare all h same e =
      let there : Contains entries one = (i, h, sym same) in
      let P : List Entry → Type 0 = λ es. Contains es one in
      let is : IsEntry tariff trip a b one = entry_is_of_fare tariff trip a b one (subst P all there) in
      ap least_cost is.whole ∙ ap (fare_least tariff trip a b) e

  no_single : (number : ℕ) → component_amount tariff trip a b number false ≡ None → (fare : FareRecord) → single_of tariff trip a b number fare ≡ None
  unfolding one_way_price
  no_single number none fare =
      elim (cases_Bool (is_half_round_trip fare)) [ inl t ↦ rw t refl | inr f ↦ rw (f, none) refl ]

  least_of_nothing : (number : ℕ) → component_amount tariff trip a b number false ≡ None → component_amount tariff trip a b number true ≡ None → fare_least tariff trip a b number ≡ None
  least_of_nothing number out back =
      let single : single_price tariff trip a b number ≡ None = single_none true (fare_at tariff number) (single_of tariff trip a b number) (no_single number out) in
      rw (single, out, back) refl

  -- a fare that no entry has has no amount
  no_amounts : (entries : List Entry) (fare : ℕ) → a < b → b ≤ count trip → entries ≡ entries_of tariff trip a b → (Member fare (map fare_of_entry entries) → ⊥)
      → (is_some (component_amount tariff trip a b fare false) ≡ false) × (is_some (component_amount tariff trip a b fare true) ≡ false)
  no_amounts entries fare rises within all none =
      elim (cases_Bool (has_amount (entry_of tariff trip a b fare))) [
        | inl t ↦
            let there = amount_is_entry tariff trip a b fare rises within t in
            let P : List Entry → Type 0 = λ es. Contains es (entry_of tariff trip a b fare) in
            let c : Contains entries (entry_of tariff trip a b fare) = subst P (sym all) there in
            let Q : ℕ → Type 0 = λ n. Member n (map fare_of_entry entries) in
            absurd (none (subst Q (ap (λ (x : Entry). x.fare) c.2) (member_of_place entries c.0 (entry_of tariff trip a b fare) c.1)))
        | inr f ↦ both_false _ _ f
      ]

  pub least_of_none : (entries : List Entry) (fare : ℕ) → a < b → b ≤ count trip → entries ≡ entries_of tariff trip a b → (Member fare (map fare_of_entry entries) → ⊥) → fare_least tariff trip a b fare ≡ None
  least_of_none entries fare rises within all none =
      let both = no_amounts entries fare rises within all none in
      least_of_nothing fare (not_there (component_amount tariff trip a b fare false) both.0) (not_there (component_amount tariff trip a b fare true) both.1)

  -- an entry has the amounts of its fare
  priced_by : (number : ℕ) (back : Bool) → is_priced (entry_of tariff trip a b number) back ≡ is_some (component_amount tariff trip a b number back)
  priced_by number true = refl
  priced_by number false = refl

  pub priced_entry : (entries : List Entry) (i : ℕ) (one : Entry) (fare : ℕ) (back : Bool) → entries ≡ entries_of tariff trip a b → i < length entries → one ≡ get_or entries i one → one.fare ≡ fare → is_priced one back ≡ is_some (component_amount tariff trip a b fare back)
  priced_entry entries i one fare back all h same e =
      let there : Contains entries one = (i, h, sym same) in
      let P : List Entry → Type 0 = λ es. Contains es one in
      let is : IsEntry tariff trip a b one = entry_is_of_fare tariff trip a b one (subst P all there) in
      ap (λ (x : Entry). is_priced x back) is.whole ∙ priced_by one.fare back ∙ ap (λ n. is_some (component_amount tariff trip a b n back)) e

  pub priced_none : (entries : List Entry) (fare : ℕ) (back : Bool) → a < b → b ≤ count trip → entries ≡ entries_of tariff trip a b → (Member fare (map fare_of_entry entries) → ⊥) → is_some (component_amount tariff trip a b fare back) ≡ false
  priced_none entries fare true rises within all none = (no_amounts entries fare rises within all none).1
  priced_none entries fare false rises within all none = (no_amounts entries fare rises within all none).0
