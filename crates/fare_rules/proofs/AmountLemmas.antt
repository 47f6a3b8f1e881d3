-- The component amount of each part of a lawful construction is defined.
use Rattle.std.proofs.Common.{◌≡◌, ℕ, ◌+◌, ◌≤◌, Bool, true, false, cond, ◌&&◌, not, List, length, refl, sym, arith}
use Rattle.std.specs.Prelude.{Option, Some, None, option_map, is_some, is_none, find, IsSome}
use Rattle.std.proofs.lemmas.Bool.{and_parts, eq-eqb, not-true, not-false}
use Rattle.fare_codes.specs.declared.kind.Kind.{Kind}
use Rattle.fare_codes.specs.declared.kind.Kind.TheVariants.{OW, HR}
use Rattle.fare_trip.specs.Itinerary.{Itinerary}
use Rattle.fare_records.specs.Record.{FareRecord}
use Rattle.fare_tariff.specs.Tariff.{Tariff}
use Rattle.fare_codes.specs.Same.{same_kind}
use Rattle.fare_tariff.specs.Lookup.{fare_at}
use Rattle.fare_rules.specs.declared.amount.Amount.{Amount}
use Rattle.fare_rules.specs.declared.part.Part.{Part}
use Rattle.fare_rules.specs.Span.{holds_surface}
use Rattle.fare_rules.specs.Terms.{stops_hold, transfers_hold, advance_holds}
use Rattle.fare_rules.specs.Base.{base}
use Rattle.fare_rules.specs.ComponentAmount.{repeats_city, runs_between, may_be_priced, is_half_round_trip, has_indicator, covers_cabins, covers_carriers, in_season, span_surcharge, mileage_holds, excess_holds, is_applicable, amount_from, fare_amount, component_amount}
use Rattle.fare_rules.specs.Construction.{places, start_of, end_of, part_at, fare_of, unit_of, own, is_own, unfiled, is_unfiled}
use Rattle.fare_rules.specs.Shape.{is_hr, holds_ow, is_ow}
use Rattle.fare_rules.specs.Direction.{is_back, is_back_in}
use Rattle.fare_rules.specs.UnitPrice.{part_amount}
use Rattle.fare_rules.specs.Best.{IsLawful}
use Rattle.fare_rules.specs.Lawful.{fails, holds_gap, is_twisted, is_mispaired, is_misrouted, is_underclassed, is_miscarried, stops_too_often, transfers_too_often, is_late, is_unmeasured, is_excessive, is_out_of_season}
use Rattle.fare_rules.proofs.NumberLemmas.{find_none, any_kept_none}
use Rattle.fare_rules.proofs.LawfulLemmas.{IsKept, kept}

-- a fare may be used for a span
pub record MayBeUsed (tariff : Tariff) (trip : Itinerary) (a b : ℕ) (back : Bool) (fare : FareRecord) : Type 0 where
  pub air : holds_surface trip a b ≡ false
  pub distinct : repeats_city trip a b ≡ false
  pub pair : runs_between trip a b back fare ≡ true
  pub kind : may_be_priced back fare ≡ true
  pub indicator : has_indicator tariff trip a b fare ≡ true
  pub cabins : covers_cabins trip a b fare ≡ true
  pub carriers : covers_carriers trip a b fare ≡ true
  pub season : in_season trip a fare ≡ true
  pub stops : stops_hold tariff trip a b fare ≡ true
  pub transfers : transfers_hold tariff trip a b fare ≡ true
  pub advance : advance_holds tariff trip fare ≡ true
  pub mileage : mileage_holds tariff trip a b ≡ true
  pub excess : excess_holds tariff trip a b fare ≡ true

pub applicable : (tariff : Tariff) (trip : Itinerary) (a b : ℕ) (back : Bool) (fare : FareRecord)
    → MayBeUsed tariff trip a b back fare → is_applicable tariff trip a b back fare ≡ true
unfolding is_applicable
applicable tariff trip a b back fare u =
    rw (u.air, u.distinct, u.pair, u.kind, u.indicator, u.cabins, u.carriers, u.season, u.stops, u.transfers, u.advance, u.mileage, u.excess)

true_false : true ≡ false → ⊥
true_false e = cc

not_nothing : {A : Type 0} (o : Option A) → is_none o ≡ false → (x : A) × (o ≡ Some x)
not_nothing None e = absurd (true_false e)
not_nothing (Some x) e = (x, refl)

-- a part in the air whose fare does not fail a test passes it
passes_in_air : (gap : Bool) (test : FareRecord → Bool) (found : Option FareRecord) (fare : FareRecord) → gap ≡ false
    → found ≡ Some fare → (not gap && fails test found) ≡ false → test fare ≡ true
passes_in_air gap test found fare g f e = not-false (test fare) (rw (g, f) at e)

passes : (test : FareRecord → Bool) (found : Option FareRecord) (fare : FareRecord) → found ≡ Some fare
    → fails test found ≡ false → test fare ≡ true
passes test found fare f e = not-false (test fare) (rw f at e)

measured : (gap : Bool) (test : Bool) → gap ≡ false → (not gap && not test) ≡ false → test ≡ true
measured gap test g e = not-false test (rw g at e)

-- a fare that is not one way is a half round trip
not_one_way : (kind : Kind) → same_kind kind OW ≡ false → same_kind kind HR ≡ true
not_one_way OW e = absurd (true_false e)
not_one_way HR e = refl

allowed_back : (back : Bool) (fare : FareRecord) → (back ≡ true → is_half_round_trip fare ≡ true)
    → may_be_priced back fare ≡ true
allowed_back true fare h = h refl
allowed_back false fare h = refl

module _ (tariff : Tariff) (trip : Itinerary) (parts : List Part) (holds : IsKept tariff trip parts) (k : ℕ) (low : 1 ≤ k) (high : k ≤ length parts) where
  pub fails_not : (test : ℕ → Bool) → find test (places parts) ≡ None → test k ≡ false
  fails_not test e = find_none test 1 (length parts + 1) e k low (omega arith)

  pub fare_is_filed : (fare : FareRecord) × (fare_of tariff parts k ≡ Some fare)
  unfolding unfiled
  fare_is_filed = not_nothing (fare_of tariff parts k) (fails_not (is_unfiled tariff parts) holds.filed)

  -- where a unit holds no one way fare, none of its parts has one
  pub half_round_trip : (fare : FareRecord) → fare_of tariff parts k ≡ Some fare
      → is_hr tariff parts (own parts (unit_of parts k)) ≡ true → is_half_round_trip fare ≡ true
  unfolding is_hr own
  half_round_trip fare f h =
      let none = not-true (holds_ow tariff parts (own parts (unit_of parts k))) h in
      let one = any_kept_none (is_own parts (unit_of parts k)) (is_ow tariff parts) 1 (length parts + 1) none k low (omega arith) (eq-eqb (unit_of parts k) (unit_of parts k) refl) in
      not_one_way fare.kind (rw f at one)

  back_is_half_round_trip : (fare : FareRecord) → fare_of tariff parts k ≡ Some fare
      → is_back tariff trip parts k ≡ true → is_half_round_trip fare ≡ true
  unfolding is_back_in
  back_is_half_round_trip fare f e = half_round_trip fare f (and_parts _ _ e).0

  in_the_air : holds_gap trip parts k ≡ false
  in_the_air = fails_not (holds_gap trip parts) holds.surface

  fare_passes : (test : FareRecord → Bool) (fare : FareRecord) → fare_of tariff parts k ≡ Some fare
      → (not (holds_gap trip parts k) && fails test (fare_of tariff parts k)) ≡ false → test fare ≡ true
  fare_passes test fare f e = passes_in_air (holds_gap trip parts k) test (fare_of tariff parts k) fare in_the_air f e

  pub part_may_be_used : (fare : FareRecord) → fare_of tariff parts k ≡ Some fare
      → MayBeUsed tariff trip (start_of trip parts k) (end_of parts k) (is_back tariff trip parts k) fare
  part_may_be_used fare f = record {
    air = in_the_air;
    distinct = fails_not (is_twisted trip parts) holds.distinct;
    pair = fare_passes (runs_between trip (start_of trip parts k) (end_of parts k) (is_back tariff trip parts k)) fare f (fails_not (is_mispaired tariff trip parts) holds.pair);
    kind = allowed_back (is_back tariff trip parts k) fare (back_is_half_round_trip fare f);
    indicator = fare_passes (has_indicator tariff trip (start_of trip parts k) (end_of parts k)) fare f (fails_not (is_misrouted tariff trip parts) holds.indicator);
    cabins = fare_passes (covers_cabins trip (start_of trip parts k) (end_of parts k)) fare f (fails_not (is_underclassed tariff trip parts) holds.cabin);
    carriers = fare_passes (covers_carriers trip (start_of trip parts k) (end_of parts k)) fare f (fails_not (is_miscarried tariff trip parts) holds.carrier);
    season = passes (in_season trip (start_of trip parts k)) (fare_of tariff parts k) fare f (fails_not (is_out_of_season tariff trip parts) holds.season);
    stops = fare_passes (stops_hold tariff trip (start_of trip parts k) (end_of parts k)) fare f (fails_not (stops_too_often tariff trip parts) holds.stops);
    transfers = fare_passes (transfers_hold tariff trip (start_of trip parts k) (end_of parts k)) fare f (fails_not (transfers_too_often tariff trip parts) holds.transfers);
    advance = fare_passes (advance_holds tariff trip) fare f (fails_not (is_late tariff trip parts) holds.advance);
    mileage = measured (holds_gap trip parts k) (mileage_holds tariff trip (start_of trip parts k) (end_of parts k)) in_the_air (fails_not (is_unmeasured tariff trip parts) holds.mileage);
    excess = fare_passes (excess_holds tariff trip (start_of trip parts k) (end_of parts k)) fare f (fails_not (is_excessive tariff trip parts) holds.excess);
  }

is_there : {A : Type 0} (o : Option A) → is_some o ≡ true → (x : A) × (o ≡ Some x)
is_there None e = absurd (true_false (sym e))
is_there (Some x) e = (x, refl)

amount_where : (test : Bool) (base : ℕ) (o : Option ℕ) (step : ℕ) → test ≡ true → o ≡ Some step
    → cond test (option_map (amount_from base) o) None ≡ Some (amount_from base step)
amount_where test base o step t e = rw (t, e)

-- the amount of a fare that may be used
pub amount_of_usable : (tariff : Tariff) (trip : Itinerary) (a b : ℕ) (back : Bool) (fare : FareRecord)
    → MayBeUsed tariff trip a b back fare → (step : ℕ) × (span_surcharge tariff trip a b ≡ Some step)
    × (fare_amount tariff trip a b back fare ≡ Some (amount_from (base tariff trip a b fare back) step))
unfolding fare_amount
amount_of_usable tariff trip a b back fare u =
    let step = is_there (span_surcharge tariff trip a b) u.mileage in
    (step.0, step.1, amount_where (is_applicable tariff trip a b back fare) (base tariff trip a b fare back) (span_surcharge tariff trip a b) step.0 (applicable tariff trip a b back fare u) step.1)

-- the component amount of a number whose fare may be used
pub amount_of_number : (tariff : Tariff) (trip : Itinerary) (a b number : ℕ) (back : Bool) (fare : FareRecord)
    → fare_at tariff number ≡ Some fare → MayBeUsed tariff trip a b back fare
    → (step : ℕ) × (component_amount tariff trip a b number back
    ≡ Some (amount_from (base tariff trip a b fare back) step))
unfolding component_amount
amount_of_number tariff trip a b number back fare f u =
    let found = amount_of_usable tariff trip a b back fare u in
    (found.0, rw f found.2)

-- the component amount of each part of a construction that breaks no rule is defined, in the part's direction
pub amount_of_part : (tariff : Tariff) (trip : Itinerary) (parts : List Part) → IsKept tariff trip parts → (k : ℕ)
    → 1 ≤ k → k ≤ length parts → IsSome (part_amount tariff trip parts (own parts (unit_of parts k)) k)
unfolding part_amount
amount_of_part tariff trip parts holds k low high =
    let filed = fare_is_filed tariff trip parts holds k low high in
    let found = amount_of_number tariff trip (start_of trip parts k) (end_of parts k) (part_at parts k).fare (is_back tariff trip parts k) filed.0 filed.1 (part_may_be_used tariff trip parts holds k low high filed.0 filed.1) in
    rw found.1

-- the amount of each part of a lawful construction
pub amount_of_lawful : (tariff : Tariff) (trip : Itinerary) (parts : List Part) (price k : ℕ)
    → IsLawful tariff trip parts price → 1 ≤ k → k ≤ length parts
    → (amount : Amount) × (component_amount tariff trip (start_of trip parts k) (end_of parts k) (part_at parts k).fare
    (is_back tariff trip parts k) ≡ Some amount)
unfolding part_amount
amount_of_lawful tariff trip parts price k lawful low high =
    is_there (part_amount tariff trip parts (own parts (unit_of parts k)) k) (amount_of_part tariff trip parts (kept tariff trip parts price lawful) k low high)
