-- The amount of a fare by what is asked of it, one thing after another.
use Rattle.std.proofs.Common.{◌≡◌, ℕ, Bool, true, false, cond, not, ◌&&◌, ◌<◌, Option, Some, None, refl, ap, sym, ◌∙◌, arith, inl, inr}
use Rattle.std.specs.Prelude.{IfSome, option_map, is_some}
use Rattle.fare_codes.specs.declared.indicator.Indicator.{Indicator}
use Rattle.fare_codes.specs.Same.{same_indicator}
use Rattle.std.proofs.lemmas.Bool.{cases_Bool}
use Rattle.fare_trip.specs.Itinerary.{Itinerary}
use Rattle.fare_tariff.specs.Record.{FareRecord}
use Rattle.fare_tariff.specs.Lookup.{fare_at}
use Rattle.fare_tariff.specs.Tariff.{Tariff}
use Rattle.fare_rules.specs.declared.amount.Amount.{Amount}
use Rattle.fare_rules.specs.Base.{base}
use Rattle.fare_rules.specs.ComponentAmount.{span_surcharge, is_applicable, is_allowed, amount_from, component_amount, fare_amount, is_half_round_trip, repeats_city, runs_between, may_be_priced, has_indicator, covers_cabins, covers_carriers, in_season}
use Rattle.fare_rules.specs.Indicator.{indicator}
use Rattle.fare_rules.specs.Span.{holds_surface}
use Rattle.fare_rules.specs.Terms.{stops_hold, transfers_hold, advance_holds}
use Rattle.fare_rules.specs.UnitPrice.{at_least}
use Rattle.fare_conditions.specs.Usable.{is_for_span, is_usable}

-- the amount by whether the fare is usable, by the surcharge and by whether that is allowed
by_tests : (tariff : Tariff) (trip : Itinerary) (a b : ℕ) (back : Bool) (fare : FareRecord) (usable : Bool)
    (step : Option ℕ) → is_usable tariff trip a b back fare ≡ usable → span_surcharge tariff trip a b ≡ step
    → fare_amount tariff trip a b back fare ≡ cond (usable && is_some step && is_allowed tariff fare step)
    (option_map (amount_from (base tariff trip a b fare back)) step) None
unfolding is_for_span is_usable is_applicable fare_amount
by_tests tariff trip a b back fare usable step u s =
    ap (λ t. cond (is_usable tariff trip a b back fare && is_some t && is_allowed tariff fare t) (option_map (amount_from (base tariff trip a b fare back)) t) None) s
    ∙ ap (λ t. cond (t && is_some step && is_allowed tariff fare step) (option_map (amount_from (base tariff trip a b fare back)) step) None) u

-- a fare that isn't usable has no amount
pub unusable : (tariff : Tariff) (trip : Itinerary) (a b : ℕ) (back : Bool) (fare : FareRecord)
    → is_usable tariff trip a b back fare ≡ false → fare_amount tariff trip a b back fare ≡ None
unusable tariff trip a b back fare u = by_tests tariff trip a b back fare false (span_surcharge tariff trip a b) u refl

no_choice : (t : Bool) (o : Option Amount) → cond t o o ≡ o
no_choice true o = refl
no_choice false o = refl

-- nor has one where the mileage lets no fare be used
pub no_surcharge : (tariff : Tariff) (trip : Itinerary) (a b : ℕ) (back : Bool) (fare : FareRecord)
    → span_surcharge tariff trip a b ≡ None → fare_amount tariff trip a b back fare ≡ None
no_surcharge tariff trip a b back fare s =
    by_tests tariff trip a b back fare (is_usable tariff trip a b back fare) None refl s
    ∙ no_choice (is_usable tariff trip a b back fare && is_some {T = ℕ} None && is_allowed tariff fare None) None

-- a usable fare whose mileage asks for a surcharge has an amount where its rule allows that
pub by_rule : (tariff : Tariff) (trip : Itinerary) (a b : ℕ) (back : Bool) (fare : FareRecord) (step : ℕ)
    → is_usable tariff trip a b back fare ≡ true → span_surcharge tariff trip a b ≡ Some step
    → fare_amount tariff trip a b back fare ≡ cond (is_allowed tariff fare (Some step))
    (Some (amount_from (base tariff trip a b fare back) step)) None
by_rule tariff trip a b back fare step u s = by_tests tariff trip a b back fare true (Some step) u s

and_true : (test : Bool) → (test && true) ≡ test
and_true true = refl
and_true false = refl

-- a fare that isn't for the span has no amount
pub unsuitable : (tariff : Tariff) (trip : Itinerary) (a b : ℕ) (back : Bool) (fare : FareRecord)
    → is_for_span tariff trip a b back fare ≡ false → fare_amount tariff trip a b back fare ≡ None
unfolding is_usable
unsuitable tariff trip a b back fare e =
    unusable tariff trip a b back fare
    (ap (λ t. t && stops_hold tariff trip a b fare && transfers_hold tariff trip a b fare && advance_holds tariff trip fare) e)

-- one that is for it has an amount where its rule's terms hold and allow the surcharge
by_terms : (tariff : Tariff) (trip : Itinerary) (a b : ℕ) (back : Bool) (fare : FareRecord) (step : ℕ)
    → is_for_span tariff trip a b back fare ≡ true → span_surcharge tariff trip a b ≡ Some step
    → fare_amount tariff trip a b back fare
    ≡ cond (stops_hold tariff trip a b fare && transfers_hold tariff trip a b fare && advance_holds tariff trip fare && is_allowed tariff fare (Some step))
    (Some (amount_from (base tariff trip a b fare back) step)) None
unfolding is_usable
by_terms tariff trip a b back fare step e s =
    let terms = stops_hold tariff trip a b fare && transfers_hold tariff trip a b fare && advance_holds tariff trip fare in
    let found : Option Amount = Some (amount_from (base tariff trip a b fare back) step) in
    by_tests tariff trip a b back fare terms (Some step)
    (ap (λ t. t && stops_hold tariff trip a b fare && transfers_hold tariff trip a b fare && advance_holds tariff trip fare) e) s
    ∙ ap (λ t. cond (t && is_allowed tariff fare (Some step)) found None) (and_true terms)

-- it has none where they don't, and else its base with the surcharge
pub refused : (tariff : Tariff) (trip : Itinerary) (a b : ℕ) (back : Bool) (fare : FareRecord) (step : ℕ)
    → is_for_span tariff trip a b back fare ≡ true → span_surcharge tariff trip a b ≡ Some step
    → (stops_hold tariff trip a b fare && transfers_hold tariff trip a b fare && advance_holds tariff trip fare && is_allowed tariff fare (Some step)) ≡ false
    → fare_amount tariff trip a b back fare ≡ None
refused tariff trip a b back fare step e s f =
    by_terms tariff trip a b back fare step e s
    ∙ ap (λ t. cond t (Some (amount_from (base tariff trip a b fare back) step)) None) f

pub granted : (tariff : Tariff) (trip : Itinerary) (a b : ℕ) (back : Bool) (fare : FareRecord) (step : ℕ)
    → is_for_span tariff trip a b back fare ≡ true → span_surcharge tariff trip a b ≡ Some step
    → (stops_hold tariff trip a b fare && transfers_hold tariff trip a b fare && advance_holds tariff trip fare && is_allowed tariff fare (Some step)) ≡ true
    → fare_amount tariff trip a b back fare ≡ Some (amount_from (base tariff trip a b fare back) step)
granted tariff trip a b back fare step e s t =
    by_terms tariff trip a b back fare step e s
    ∙ ap (λ t. cond t (Some (amount_from (base tariff trip a b fare back) step)) None) t

and_swapped : (x y : Bool) → (x && y) ≡ (y && x)
and_swapped true true = refl
and_swapped true false = refl
and_swapped false true = refl
and_swapped false false = refl

-- whether a fare is for a span that can be a component and has an indicator
pub is_for_plain_span : (tariff : Tariff) (trip : Itinerary) (a b : ℕ) (back : Bool) (fare : FareRecord) (ind : Indicator)
    → (not (holds_surface trip a b) && not (repeats_city trip a b)) ≡ true → ind ≡ indicator tariff trip a b
    → is_for_span tariff trip a b back fare
    ≡ (may_be_priced back fare && runs_between trip a b back fare && same_indicator fare.ind ind && covers_cabins trip a b fare && covers_carriers trip a b fare && in_season trip a fare)
unfolding is_for_span has_indicator
is_for_plain_span tariff trip a b back fare ind plain e =
    ap (λ t. t && runs_between trip a b back fare && may_be_priced back fare && has_indicator tariff trip a b fare && covers_cabins trip a b fare && covers_carriers trip a b fare && in_season trip a fare) plain
    ∙ ap (λ x. runs_between trip a b back fare && may_be_priced back fare && same_indicator fare.ind x && covers_cabins trip a b fare && covers_carriers trip a b fare && in_season trip a fare) (sym e)
    ∙ ap (λ t. t && same_indicator fare.ind ind && covers_cabins trip a b fare && covers_carriers trip a b fare && in_season trip a fare) (and_swapped (runs_between trip a b back fare) (may_be_priced back fare))

-- the greater of an amount and a minimum is below what both are below
pub at_least_bound : (amount limit : ℕ) (minimum : Option ℕ) → amount < limit → IfSome minimum (λ x. x < limit)
    → at_least amount minimum < limit
at_least_bound amount limit None ha hm = ha
at_least_bound amount limit (Some minimum) ha hm = omega arith
