-- The rules by their numbers are broken nowhere exactly where a construction meets the rules.
use Rattle.std.proofs.Common.{◌≡◌, ℕ, zero, suc, ◌+◌, ◌-◌, ◌<◌, ◌≤◌, Bool, true, false, cond, ◌&&◌, not, List, length, refl, ap, arith}
use Rattle.std.specs.Prelude.{Option, Some, None, option_map, option_and_then, is_some, is_none, find, Ok}
use Rattle.std.specs.List.{range_with_len}
use Rattle.std.proofs.lemmas.Bool.{and_parts, and_right, not-true}
use Rattle.fare_trip.specs.Itinerary.{Itinerary}
use Rattle.fare_records.specs.Record.{FareRecord}
use Rattle.fare_tariff.specs.Tariff.{Tariff}
use Rattle.fare_tariff.specs.Lookup.{fare_at}
use Rattle.fare_rules.specs.declared.amount.Amount.{Amount}
use Rattle.fare_rules.specs.declared.part.Part.{Part}
use Rattle.fare_rules.specs.Numbers.{numbers}
use Rattle.fare_rules.specs.Base.{base}
use Rattle.fare_rules.specs.Span.{holds_surface}
use Rattle.fare_rules.specs.Terms.{stops_hold, transfers_hold, advance_holds}
use Rattle.fare_rules.specs.UnitPrice.{part_amount, price}
use Rattle.fare_rules.specs.ComponentAmount.{repeats_city, runs_between, may_be_priced, has_indicator, covers_cabins, covers_carriers, in_season, mileage_holds, excess_holds, span_surcharge, is_applicable, amount_from, fare_amount, component_amount}
use Rattle.fare_rules.specs.Construction.{places, start_of, end_of, part_at, fare_of, unfiled, is_unfiled}
use Rattle.fare_rules.specs.Direction.{is_back}
use Rattle.fare_rules.specs.Lawful.{breaks, first_broken, lawful_price, fails, holds_gap, is_twisted, is_mispaired, is_misrouted, is_underclassed, is_miscarried, stops_too_often, transfers_too_often, is_late, is_unmeasured, is_excessive, is_out_of_season, MeetsTheRules}
use Rattle.fare_rules.proofs.LawfulLemmas.{IsKept, kept_from_unbroken}
use Rattle.fare_rules.proofs.NumberLemmas.{find_none}
use Rattle.fare_rules.proofs.AmountLemmas.{MayBeUsed, amount_of_part}

true_false : true ≡ false → ⊥
true_false e = cc

-- where no member of a range passes a test, nothing is found
nothing_found : (test : ℕ → Bool) (first n : ℕ) → ((k : ℕ) → first ≤ k → k < first + n → test k ≡ false)
    → find test (range_with_len first n) ≡ None
nothing_found test first zero h = refl
nothing_found test first (suc n) h =
    rw (h first (omega arith) (omega arith)) (nothing_found test (first + 1) n (λ k low high. h k (omega arith) (omega arith)))

pub find_nothing : (test : ℕ → Bool) (first past : ℕ) → ((k : ℕ) → first ≤ k → k < past → test k ≡ false)
    → find test (numbers first past) ≡ None
find_nothing test first past h = nothing_found test first (past - first) (λ k low high. h k low (omega arith))

-- where nothing is broken, no rule is
pub unbroken_from_kept : (tariff : Tariff) (trip : Itinerary) (parts : List Part) → IsKept tariff trip parts
    → first_broken tariff trip parts ≡ None
unfolding first_broken breaks
unbroken_from_kept tariff trip parts h =
    rw (h.cover, h.numbering, h.filed, h.crossing, h.alone, h.chain, h.close, h.distinct, h.pair, h.indicator, h.cabin, h.carrier, h.stops, h.transfers, h.advance, h.mileage, h.excess, h.stay, h.combine, h.ends, h.surface, h.season)

-- thirteen tests that hold together hold each
thirteen : (a b c d e f g h i j k l m : Bool) → ((((((((((((a && b) && c) && d) && e) && f) && g) && h) && i) && j)
    && k) && l) && m) ≡ true → (a ≡ true) × (b ≡ true) × (c ≡ true) × (d ≡ true) × (e ≡ true) × (f ≡ true) × (g ≡ true)
    × (h ≡ true) × (i ≡ true) × (j ≡ true) × (k ≡ true) × (l ≡ true) × (m ≡ true)
thirteen a b c d e f g h i j k l m t =
    let r12 = and_parts (((((((((((a && b) && c) && d) && e) && f) && g) && h) && i) && j) && k) && l) m t in
    let r11 = and_parts ((((((((((a && b) && c) && d) && e) && f) && g) && h) && i) && j) && k) l r12.0 in
    let r10 = and_parts (((((((((a && b) && c) && d) && e) && f) && g) && h) && i) && j) k r11.0 in
    let r9 = and_parts ((((((((a && b) && c) && d) && e) && f) && g) && h) && i) j r10.0 in
    let r8 = and_parts (((((((a && b) && c) && d) && e) && f) && g) && h) i r9.0 in
    let r7 = and_parts ((((((a && b) && c) && d) && e) && f) && g) h r8.0 in
    let r6 = and_parts (((((a && b) && c) && d) && e) && f) g r7.0 in
    let r5 = and_parts ((((a && b) && c) && d) && e) f r6.0 in
    let r4 = and_parts (((a && b) && c) && d) e r5.0 in
    let r3 = and_parts ((a && b) && c) d r4.0 in
    let r2 = and_parts (a && b) c r3.0 in
    let r1 = and_parts a b r2.0 in
    (r1.0, r1.1, r2.1, r3.1, r4.1, r5.1, r6.1, r7.1, r8.1, r9.1, r10.1, r11.1, r12.1)

-- what makes a fare applicable, test by test
pub may_be_used : (tariff : Tariff) (trip : Itinerary) (a b : ℕ) (back : Bool) (fare : FareRecord)
    → is_applicable tariff trip a b back fare ≡ true → MayBeUsed tariff trip a b back fare
unfolding is_applicable
may_be_used tariff trip a b back fare e =
    let each = thirteen (not (holds_surface trip a b)) (not (repeats_city trip a b)) (runs_between trip a b back fare) (may_be_priced back fare)
    (has_indicator tariff trip a b fare) (covers_cabins trip a b fare) (covers_carriers trip a b fare) (in_season trip a fare)
    (stops_hold tariff trip a b fare) (transfers_hold tariff trip a b fare) (advance_holds tariff trip fare)
    (mileage_holds tariff trip a b) (excess_holds tariff trip a b fare) e in
    record {
      air = not-true (holds_surface trip a b) each.0;
      distinct = not-true (repeats_city trip a b) each.1;
      pair = each.2;
      kind = each.3;
      indicator = each.4;
      cabins = each.5;
      carriers = each.6;
      season = each.7;
      stops = each.8;
      transfers = each.9;
      advance = each.10;
      mileage = each.11;
      excess = each.12;
    }

none_is_some : is_some {T = Amount} None ≡ true → ⊥
none_is_some e = cc

used_where : (test : Bool) (o : Option Amount) → is_some (cond test o None) ≡ true → test ≡ true
used_where true o e = refl
used_where false o e = absurd (none_is_some e)

used_of : (tariff : Tariff) (trip : Itinerary) (a b : ℕ) (back : Bool) (found : Option FareRecord) (fare : FareRecord)
    → found ≡ Some fare → is_some (option_and_then (fare_amount tariff trip a b back) found) ≡ true
    → is_applicable tariff trip a b back fare ≡ true
unfolding fare_amount
used_of tariff trip a b back found fare f e =
    used_where (is_applicable tariff trip a b back fare) (option_map (amount_from (base tariff trip a b fare back)) (span_surcharge tariff trip a b)) (rw f at e)

-- where the component amount of a number is defined, its fare may be used
pub usable_from_amount : (tariff : Tariff) (trip : Itinerary) (a b number : ℕ) (back : Bool) (fare : FareRecord)
    → fare_at tariff number ≡ Some fare → is_some (component_amount tariff trip a b number back) ≡ true
    → MayBeUsed tariff trip a b back fare
unfolding component_amount
usable_from_amount tariff trip a b number back fare f e =
    may_be_used tariff trip a b back fare (used_of tariff trip a b back (fare_at tariff number) fare f e)

some_there : {A : Type 0} (o : Option A) → is_none o ≡ false → (x : A) × (o ≡ Some x)
some_there None e = absurd (true_false e)
some_there (Some x) e = (x, refl)

passes_not_fails : (test : FareRecord → Bool) (found : Option FareRecord) (fare : FareRecord) → found ≡ Some fare
    → test fare ≡ true → fails test found ≡ false
passes_not_fails test found fare f t = rw (f, t)

in_air_too : (gap : Bool) (failing : Bool) → failing ≡ false → (not gap && failing) ≡ false
in_air_too gap failing e = and_right (not gap) failing e

module _ (tariff : Tariff) (trip : Itinerary) (parts : List Part) (meets : MeetsTheRules tariff trip parts) where
  filed_fare : (k : ℕ) → 1 ≤ k → k ≤ length parts → (fare : FareRecord) × (fare_of tariff parts k ≡ Some fare)
  unfolding unfiled
  filed_fare k low high = some_there (fare_of tariff parts k) (find_none (is_unfiled tariff parts) 1 (length parts + 1) meets.filed k low (omega arith))

  usable : (k : ℕ) (low : 1 ≤ k) (high : k ≤ length parts)
      → MayBeUsed tariff trip (start_of trip parts k) (end_of parts k) (is_back tariff trip parts k)
      (filed_fare k low high).0
  usable k low high = usable_from_amount tariff trip (start_of trip parts k) (end_of parts k) (part_at parts k).fare (is_back tariff trip parts k) (filed_fare k low high).0 (filed_fare k low high).1 (meets.amounts k low high)

  nothing_at : (test : ℕ → Bool) → ((k : ℕ) → 1 ≤ k → k ≤ length parts → test k ≡ false)
      → find test (places parts) ≡ None
  nothing_at test h = find_nothing test 1 (length parts + 1) (λ k low high. h k low (omega arith))

  -- a test of fares that each fare passes is failed nowhere
  failed_nowhere : (test : ℕ → FareRecord → Bool)
      → ((k : ℕ) (low : 1 ≤ k) (high : k ≤ length parts) → test k (filed_fare k low high).0 ≡ true) → (k : ℕ) → 1 ≤ k
      → k ≤ length parts → (not (holds_gap trip parts k) && fails (test k) (fare_of tariff parts k)) ≡ false
  failed_nowhere test h k low high =
      in_air_too (holds_gap trip parts k) (fails (test k) (fare_of tariff parts k)) (passes_not_fails (test k) (fare_of tariff parts k) (filed_fare k low high).0 (filed_fare k low high).1 (h k low high))

  pub kept_where_met : IsKept tariff trip parts
  kept_where_met = record {
    cover = meets.cover;
    numbering = meets.numbering;
    filed = meets.filed;
    crossing = meets.crossing;
    alone = meets.alone;
    chain = meets.chain;
    close = meets.close;
    distinct = nothing_at (is_twisted trip parts) (λ k low high. (usable k low high).distinct);
    pair = nothing_at (is_mispaired tariff trip parts) (failed_nowhere (λ k fare. runs_between trip (start_of trip parts k) (end_of parts k) (is_back tariff trip parts k) fare) (λ k low high. (usable k low high).pair));
    indicator = nothing_at (is_misrouted tariff trip parts) (failed_nowhere (λ k fare. has_indicator tariff trip (start_of trip parts k) (end_of parts k) fare) (λ k low high. (usable k low high).indicator));
    cabin = nothing_at (is_underclassed tariff trip parts) (failed_nowhere (λ k fare. covers_cabins trip (start_of trip parts k) (end_of parts k) fare) (λ k low high. (usable k low high).cabins));
    carrier = nothing_at (is_miscarried tariff trip parts) (failed_nowhere (λ k fare. covers_carriers trip (start_of trip parts k) (end_of parts k) fare) (λ k low high. (usable k low high).carriers));
    stops = nothing_at (stops_too_often tariff trip parts) (failed_nowhere (λ k fare. stops_hold tariff trip (start_of trip parts k) (end_of parts k) fare) (λ k low high. (usable k low high).stops));
    transfers = nothing_at (transfers_too_often tariff trip parts) (failed_nowhere (λ k fare. transfers_hold tariff trip (start_of trip parts k) (end_of parts k) fare) (λ k low high. (usable k low high).transfers));
    advance = nothing_at (is_late tariff trip parts) (failed_nowhere (λ k fare. advance_holds tariff trip fare) (λ k low high. (usable k low high).advance));
    mileage = nothing_at (is_unmeasured tariff trip parts) (λ k low high. in_air_too (holds_gap trip parts k) (not (mileage_holds tariff trip (start_of trip parts k) (end_of parts k))) (ap not (usable k low high).mileage));
    excess = nothing_at (is_excessive tariff trip parts) (failed_nowhere (λ k fare. excess_holds tariff trip (start_of trip parts k) (end_of parts k) fare) (λ k low high. (usable k low high).excess));
    stay = meets.stay;
    combine = meets.combine;
    ends = meets.ends;
    surface = nothing_at (holds_gap trip parts) (λ k low high. (usable k low high).air);
    season = nothing_at (is_out_of_season tariff trip parts) (λ k low high. passes_not_fails (in_season trip (start_of trip parts k)) (fare_of tariff parts k) (filed_fare k low high).0 (filed_fare k low high).1 (usable k low high).season);
  }

-- nothing is broken where a construction meets the rules
pub unbroken_where_met : (tariff : Tariff) (trip : Itinerary) (parts : List Part) → MeetsTheRules tariff trip parts
    → first_broken tariff trip parts ≡ None
unbroken_where_met tariff trip parts meets = unbroken_from_kept tariff trip parts (kept_where_met tariff trip parts meets)

-- a construction meets the rules where nothing is broken
pub met_where_unbroken : (tariff : Tariff) (trip : Itinerary) (parts : List Part)
    → first_broken tariff trip parts ≡ None → MeetsTheRules tariff trip parts
unfolding part_amount
met_where_unbroken tariff trip parts e =
    let h = kept_from_unbroken tariff trip parts e in
    record {
      cover = h.cover;
      numbering = h.numbering;
      filed = h.filed;
      crossing = h.crossing;
      alone = h.alone;
      chain = h.chain;
      close = h.close;
      stay = h.stay;
      combine = h.combine;
      ends = h.ends;
      amounts = λ k low high. amount_of_part tariff trip parts h k low high;
    }

-- the price of a construction that meets the rules
pub price_where_met : (tariff : Tariff) (trip : Itinerary) (parts : List Part) → MeetsTheRules tariff trip parts
    → lawful_price tariff trip parts ≡ Ok (price tariff trip parts)
unfolding lawful_price
price_where_met tariff trip parts meets = rw (unbroken_where_met tariff trip parts meets)
