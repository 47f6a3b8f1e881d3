-- The amount of a fare that is for a span is the reference of its form there, since a fare is the only one of its key on a
-- day.
use Rattle.std.proofs.Common.{◌≡◌, refl, ℕ, ◌<◌, Bool, true, false, List, ap, sym, subst, ◌∙◌}
use Rattle.std.specs.Prelude.{◌↔◌, Option, Some, None, IsSomeAnd, bytes_eq, option_and_then, option_map}
use Rattle.std.specs.Option.{option_or}
use Rattle.std.proofs.lemmas.Bool.{and_parts}
use Rattle.std.proofs.lemmas.Slice.Eq.{bytes_eq-Decides}
use Rattle.fare_codes.specs.declared.cabin.Cabin.{Cabin}
use Rattle.fare_codes.specs.declared.cabin.Cabin.TheVariants.{F, C, Y}
use Rattle.fare_codes.specs.declared.city.City.{City}
use Rattle.fare_codes.specs.declared.day.Day.{Day}
use Rattle.fare_codes.specs.declared.indicator.Indicator.{Indicator}
use Rattle.fare_codes.specs.declared.kind.Kind.{Kind}
use Rattle.fare_codes.specs.declared.kind.Kind.TheVariants.{OW, HR}
use Rattle.fare_codes.specs.declared.month_day.MonthDay.{MonthDay}
use Rattle.fare_codes.specs.declared.nuc.TheConstants.{FARE_LIMIT}
use Rattle.fare_codes.specs.declared.rule_id.RuleId.{RuleId}
use Rattle.fare_codes.specs.Day.{month_day_of}
use Rattle.fare_codes.specs.Same.{same_cabin, same_indicator, same_kind}
use Rattle.fare_codes.specs.Season.{season_holds}
use Rattle.fare_trip.specs.Itinerary.{Itinerary, point}
use Rattle.fare_records.specs.declared.fare_key.FareKey.{FareKey}
use Rattle.fare_tariff.specs.Filed.{FilesFareOn, IsFareOn}
use Rattle.fare_tariff.specs.Lookup.{fare_at, fare_number, has_key}
use Rattle.fare_records.specs.Fields.{same_rule}
use Rattle.fare_records.specs.Record.{FareRecord}
use Rattle.fare_tariff.specs.Tariff.{Tariff}
use Rattle.fare_rules.specs.Base.{reference_between}
use Rattle.fare_rules.specs.ComponentAmount.{has_indicator, in_season, is_filed_between, runs_between}
use Rattle.fare_rules.specs.Indicator.{indicator}
use Rattle.fare_rules.specs.Reference.{amount_on, every_carrier, key_by, reference}
use Rattle.fare_rules.specs.Span.{first_day}
use Rattle.fare_component.specs.declared.table.references.Form.{Form}
use Rattle.fare_component.specs.References.{IsOfForm, IsReference}
use Rattle.fare_conditions.specs.Usable.{is_for_span}
use Rattle.fare_component.proofs.ReferenceLemmas.{is_moulded, moulded}

same_bytes : (a : List ℕ) → bytes_eq a a ≡ true
same_bytes a = (bytes_eq-Decides a a).1 refl

same_class : (class : Cabin) → same_cabin class class ≡ true
same_class F = refl
same_class C = refl
same_class Y = refl

same_way : (kind : Kind) → same_kind kind kind ≡ true
same_way OW = refl
same_way HR = refl

same_name : (rule : Option RuleId) → same_rule rule rule ≡ true
same_name None = refl
same_name (Some id) = same_bytes id

-- a fare has the key of its own cities, indicator and carrier
own_key : (from to : City) (ind : Indicator) (fare : FareRecord) → is_filed_between fare from to ≡ true
    → same_indicator fare.ind ind ≡ true → has_key (key_by from to ind fare fare.carrier) fare ≡ true
own_key from to ind fare between of_ind =
    let cities = and_parts (bytes_eq fare.from from) (bytes_eq fare.to to) between in
    rw (cities.0, cities.1, of_ind, same_bytes fare.carrier, same_class fare.class, same_way fare.kind) (same_name fare.rule)

-- the number of the one fare of a key on a day is that of each such fare
abbrev pub IsOne : Tariff → Type 0
IsOne tariff = (key : FareKey) (on : MonthDay) (n : ℕ)
    → (fare_number tariff key on ≡ Some n) ↔ FilesFareOn tariff key on n

module _ (tariff : Tariff) (number : ℕ) (fare : FareRecord) (one : IsOne tariff) (filed : fare_at tariff number ≡ Some fare) where
  own_amount : (key : FareKey) (on : Day) → has_key key fare ≡ true
      → season_holds fare.season (month_day_of on) ≡ true → amount_on tariff key on ≡ Some fare.amount
  own_amount key on of_key season =
      let files : FilesFareOn tariff key (month_day_of on) number =
      subst (λ (o : Option FareRecord). IsSomeAnd o (IsFareOn key (month_day_of on))) (sym filed) (record { of_key = of_key; in_season = season }) in
      let found : fare_number tariff key (month_day_of on) ≡ Some number = (one key (month_day_of on) number).1 files in
      ap (λ (o : Option ℕ). option_map (λ (r : FareRecord). r.amount) (option_and_then (fare_at tariff) o)) found
      ∙ ap (option_map (λ (r : FareRecord). r.amount)) filed

  own_reference : (from to : City) (ind : Indicator) (on : Day) → is_filed_between fare from to ≡ true
      → same_indicator fare.ind ind ≡ true → season_holds fare.season (month_day_of on) ≡ true
      → reference tariff from to ind fare on ≡ Some fare.amount
  unfolding reference
  own_reference from to ind on between of_ind season =
      ap (λ (o : Option ℕ). option_or o (amount_on tariff (key_by from to ind fare every_carrier) on))
      (own_amount (key_by from to ind fare fare.carrier) on (own_key from to ind fare between of_ind) season)

  module _ (trip : Itinerary) (a b : ℕ) where
    by_direction : (back : Bool) → runs_between trip a b back fare ≡ true
        → same_indicator fare.ind (indicator tariff trip a b) ≡ true
        → season_holds fare.season (month_day_of (first_day trip a)) ≡ true
        → reference_between tariff trip fare back (first_day trip a) a b ≡ Some fare.amount
    unfolding runs_between
    by_direction true runs of_ind season =
        own_reference (point trip b) (point trip a) (indicator tariff trip a b) (first_day trip a) runs of_ind season
    by_direction false runs of_ind season =
        own_reference (point trip a) (point trip b) (indicator tariff trip a b) (first_day trip a) runs of_ind season

    own_between : (back : Bool) → is_for_span tariff trip a b back fare ≡ true
        → reference_between tariff trip fare back (first_day trip a) a b ≡ Some fare.amount
    unfolding is_for_span has_indicator in_season
    own_between back suits =
        let season = and_parts _ _ suits in
        let carriers = and_parts _ _ season.0 in
        let cabins = and_parts _ _ carriers.0 in
        let of_ind = and_parts _ _ cabins.0 in
        let priced = and_parts _ _ of_ind.0 in
        let runs = and_parts _ _ priced.0 in
        by_direction back runs.1 of_ind.1 season.1

    moulded_between : (other : FareRecord) (back : Bool) (on : Day)
        → reference_between tariff trip (moulded fare other) back on a b ≡ reference_between tariff trip fare back on a b
    unfolding reference
    moulded_between other true on = refl
    moulded_between other false on = refl

    -- the reference of a form for the span of a fare of it is the fare's amount
    pub own_form : (back : Bool) (form : Form) → IsOfForm fare back form → form.on ≡ first_day trip a
        → is_for_span tariff trip a b back fare ≡ true → fare.amount < FARE_LIMIT
        → IsReference tariff trip form a b (Some fare.amount)
    own_form back form of_form day suits low =
        record {
          value = sym (ap (λ (f : FareRecord). reference_between tariff trip f form.back form.on a b) (is_moulded fare back form of_form)
              ∙ moulded_between form.fare form.back form.on
              ∙ ap (λ (way : Bool). reference_between tariff trip fare way form.on a b) of_form.direction
              ∙ ap (λ (on : Day). reference_between tariff trip fare back on a b) day
              ∙ own_between back suits);
          bound = low;
        }
