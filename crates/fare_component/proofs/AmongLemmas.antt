-- What a fare costs by the entries of a span.
use Rattle.std.proofs.Common.{◌≡◌, refl, ℕ, ◌+◌, ◌<◌, ◌≤◌, Bool, true, false, List, length, get_or, ap, sym, subst, ◌∙◌, arith, inl, inr}
use Rattle.std.specs.Prelude.{Option, Some, None, Contains, is_some, option_and_then}
use Rattle.std.proofs.lemmas.Bool.{cases_Bool, cases_eq, false≢true}
use Rattle.std.proofs.lemmas.List.{get_or_default}
use Rattle.std.proofs.lemmas.Option.{cond_some}
use Rattle.fare_trip.specs.Itinerary.{Itinerary, count}
use Rattle.fare_records.specs.Record.{FareRecord}
use Rattle.fare_tariff.specs.Tariff.{Tariff}
use Rattle.fare_tariff.specs.Lookup.{fare_at}
use Rattle.fare_rules.specs.ComponentAmount.{component_amount, is_half_round_trip}
use Rattle.fare_rules.specs.UnitPrice.{one_way_price}
use Rattle.fare_rules.proofs.CoverLemmas.{both_false}
use Rattle.fare_component.specs.declared.table.entry.Entry.{Entry}
use Rattle.fare_component.specs.Table.{IsEntry, amount_of, entries_of, entry_at, entry_of, has_amount, single_of, single_price}
use Rattle.fare_component.proofs.LawLemmas.{amount_is_entry, entry_is_of_fare}

-- what is tested not to be there is nothing
not_there : {A : Type 0} (o : Option A) → is_some o ≡ false → o ≡ None
not_there None e = refl
not_there (Some x) e = absurd (false≢true (sym e))

-- nothing is had of a fare that always gives nothing
none_then : (found : Option FareRecord) (f : FareRecord → Option ℕ) → ((fare : FareRecord) → f fare ≡ None)
    → option_and_then f found ≡ None
none_then None f h = refl
none_then (Some fare) f h = h fare

-- none of the first entries has a fare
abbrev pub NoneBefore : List Entry → ℕ → ℕ → Type 0
NoneBefore entries number past = (k : ℕ) (d : Entry) → k < past → (get_or entries k d).fare ≡ number → ⊥

-- and one more that has another fare
pub none_more : (entries : List Entry) (number i : ℕ) (one : Entry) → i < length entries → one ≡ get_or entries i one
    → (one.fare ≡ number → ⊥) → NoneBefore entries number i → NoneBefore entries number (i + 1)
none_more entries number i one within here other none =
    λ k d low same. elim (cases_eq k i) [
      | inl at ↦
          let there : get_or entries k d ≡ one = ap (λ n. get_or entries n d) at ∙ get_or_default entries i d one within ∙ sym here in
          other (sym (ap (λ (x : Entry). x.fare) there) ∙ same)
      | inr apart ↦ none k d (omega arith) same
    ]

-- an entry of a span is that of its fare
pub entry_found : (tariff : Tariff) (trip : Itinerary) (a b number i : ℕ) (entries : List Entry) (one : Entry)
    → entries ≡ entries_of tariff trip a b → i < length entries → one ≡ get_or entries i one → one.fare ≡ number
    → Some one ≡ entry_at tariff trip a b number
unfolding entry_at
entry_found tariff trip a b number i entries one all within here same =
    let there : Contains entries one = (i, within, sym here) in
    let P : List Entry → Type 0 = λ es. Contains es one in
    let is : IsEntry tariff trip a b one = entry_is_of_fare tariff trip a b one (subst P all there) in
    let whole : one ≡ entry_of tariff trip a b number = is.whole ∙ ap (entry_of tariff trip a b) same in
    let has : has_amount (entry_of tariff trip a b number) ≡ true = sym (ap has_amount whole) ∙ is.amount in
    rw has (ap Some whole)

-- a fare that no entry of a span has has none
pub entry_missing : (tariff : Tariff) (trip : Itinerary) (a b number : ℕ) (entries : List Entry)
    → a < b → b ≤ count trip → entries ≡ entries_of tariff trip a b → NoneBefore entries number (length entries)
    → None ≡ entry_at tariff trip a b number
unfolding entry_at
entry_missing tariff trip a b number entries rises within all none =
    elim (cases_Bool (has_amount (entry_of tariff trip a b number))) [
      | inl has ↦
          let P : List Entry → Type 0 = λ es. Contains es (entry_of tariff trip a b number) in
          let c : Contains entries (entry_of tariff trip a b number) = subst P (sym all) (amount_is_entry tariff trip a b number rises within has) in
          absurd (none c.0 (entry_of tariff trip a b number) c.1 (ap (λ (x : Entry). x.fare) c.2))
      | inr lacks ↦ rw lacks refl
    ]

module _ (tariff : Tariff) (trip : Itinerary) (a b number : ℕ) where
  -- the entry of a fare is made of its number
  is_made : (entry : Entry) → Some entry ≡ entry_at tariff trip a b number → entry ≡ entry_of tariff trip a b number
  unfolding entry_at
  is_made entry e =
      let parts = cond_some (has_amount (entry_of tariff trip a b number)) (entry_of tariff trip a b number) entry (sym e) in
      sym parts.1

  made_amount : (back : Bool) → amount_of (entry_of tariff trip a b number) back ≡ component_amount tariff trip a b number back
  made_amount true = refl
  made_amount false = refl

  -- it has the amounts of the fare
  pub its_amount : (entry : Entry) (back : Bool) → Some entry ≡ entry_at tariff trip a b number
      → amount_of entry back ≡ component_amount tariff trip a b number back
  its_amount entry back e = ap (λ (x : Entry). amount_of x back) (is_made entry e) ∙ made_amount back

  -- and its price as a unit of its own
  pub its_single : (entry : Entry) → Some entry ≡ entry_at tariff trip a b number
      → entry.single ≡ single_price tariff trip a b number
  its_single entry e = ap (λ (x : Entry). x.single) (is_made entry e)

  some_none : (entry : Entry) → None ≡ Some entry → ⊥
  some_none entry e = cc

  lacks_amount : None ≡ entry_at tariff trip a b number → has_amount (entry_of tariff trip a b number) ≡ false
  unfolding entry_at
  lacks_amount e =
      elim (cases_Bool (has_amount (entry_of tariff trip a b number))) [
        | inl has ↦ absurd (some_none (entry_of tariff trip a b number) (rw has at e))
        | inr lacks ↦ lacks
      ]

  -- a fare with no entry has no amount
  pub no_amount : (back : Bool) → None ≡ entry_at tariff trip a b number
      → None ≡ component_amount tariff trip a b number back
  no_amount true e =
      let both = both_false _ _ (lacks_amount e) in
      sym (not_there (component_amount tariff trip a b number true) both.1)
  no_amount false e =
      let both = both_false _ _ (lacks_amount e) in
      sym (not_there (component_amount tariff trip a b number false) both.0)

  not_alone : component_amount tariff trip a b number false ≡ None → (fare : FareRecord)
      → single_of tariff trip a b number fare ≡ None
  unfolding one_way_price
  not_alone none fare =
      elim (cases_Bool (is_half_round_trip fare)) [ inl t ↦ rw t refl | inr f ↦ rw (f, none) refl ]

  -- and no price as a unit of its own
  pub no_single : None ≡ entry_at tariff trip a b number → None ≡ single_price tariff trip a b number
  no_single e = sym (none_then (fare_at tariff number) (single_of tariff trip a b number) (not_alone (sym (no_amount false e))))
