-- What the free rule and the whole year leave to ask.
use Rattle.std.proofs.Common.{◌≡◌, ℕ, ◌+◌, ◌-◌, ◌*◌, ◌^◌, ◌<◌, ◌≤◌, Bool, true, false, cond, ◌||◌, eqb, leb, List, length, refl, arith}
use Rattle.std.specs.Prelude.{Option, Some, None, filter, count_by, pos}
use Rattle.std.proofs.Math.Bool.{and-true}
use Rattle.std.proofs.lemmas.Bool.{and_parts, and_from, le-leb, leb-true}
use Rattle.std.proofs.lemmas.List.Sums.{length-filter, count_by-le-length}
use Rattle.std.proofs.lemmas.List.FromFn.{length-range_with_len}
use Rattle.jiff_core.specs.Calendar.{days_in_month}
use Rattle.fare_codes.specs.declared.limits.TheConstants.{MOST_SECTORS}
use Rattle.fare_codes.specs.declared.rule_id.RuleId.{RuleId}
use Rattle.fare_codes.specs.Day.{is_month_day, month_day_of, place_in_year, two_digits}
use Rattle.fare_codes.specs.Season.{season_holds, whole_year}
use Rattle.fare_trip.specs.Itinerary.{Itinerary}
use Rattle.fare_records.specs.declared.terms.Terms.{Terms}
use Rattle.fare_records.specs.Record.{FareRecord}
use Rattle.fare_tariff.specs.Tariff.{Tariff}
use Rattle.fare_tariff.specs.Lookup.{terms, free_terms}
use Rattle.fare_rules.specs.Span.{is_stopover, is_transfer, interior, first_day}
use Rattle.fare_rules.specs.Terms.{term_holds, allows_stops, allows_transfers, allows_advance, allows_surcharge, allows_stay, stops_hold, transfers_hold, advance_holds, advance_days}
use Rattle.fare_rules.specs.ComponentAmount.{in_season, span_surcharge, is_allowed, is_applicable}
use Rattle.fare_rules.specs.UnitRules.{allows_stay_of}
use Rattle.fare_rules.specs.Free.{is_applicable_freely}

-- the interior points of a span within a trip's sectors that pass a test are no more than those
few_inside : (test : ℕ → Bool) (a b : ℕ) → b ≤ MOST_SECTORS → length (filter test (interior a b)) ≤ MOST_SECTORS
few_inside test a b short =
    let count : length (filter test (interior a b)) ≡ count_by test (interior a b) = length-filter test (interior a b) in
    let most : count_by test (interior a b) ≤ length (interior a b) = count_by-le-length test (interior a b) in
    let long : length (interior a b) ≡ b - (a + 1) = length-range_with_len (a + 1) (b - (a + 1)) in
    omega arith

or_true : (b : Bool) → (b || true) ≡ true
or_true true = refl
or_true false = refl

holds_free : (tariff : Tariff) (test : Terms → Bool) (rule : Option RuleId) → rule ≡ None → test free_terms ≡ true
    → term_holds test (terms tariff rule) ≡ true
holds_free tariff test rule e h = rw e h

module _ (tariff : Tariff) (trip : Itinerary) (a b : ℕ) (fare : FareRecord) (free : fare.rule ≡ None) (short : b ≤ MOST_SECTORS) where
  free_stops : stops_hold tariff trip a b fare ≡ true
  unfolding stops_hold
  free_stops = holds_free tariff (allows_stops (length (filter (is_stopover trip) (interior a b)))) fare.rule free (le-leb (length (filter (is_stopover trip) (interior a b))) MOST_SECTORS (few_inside (is_stopover trip) a b short))

  free_transfers : transfers_hold tariff trip a b fare ≡ true
  unfolding transfers_hold
  free_transfers = holds_free tariff (allows_transfers (length (filter (is_transfer trip) (interior a b)))) fare.rule free (le-leb (length (filter (is_transfer trip) (interior a b))) MOST_SECTORS (few_inside (is_transfer trip) a b short))

  free_advance : advance_holds tariff trip fare ≡ true
  unfolding advance_holds
  free_advance = holds_free tariff (allows_advance (advance_days trip)) fare.rule free (le-leb 0 (advance_days trip) (omega arith))

  free_step : (step : Option ℕ) → is_allowed tariff fare step ≡ true
  free_step None = refl
  free_step (Some step) = holds_free tariff (allows_surcharge step) fare.rule free (or_true (eqb step 0))

  free_applicable : (back : Bool) → in_season trip a fare ≡ true
      → is_applicable tariff trip a b back fare ≡ is_applicable_freely tariff trip a b back fare
  unfolding is_applicable
  free_applicable back season =
      rw (season, free_stops, free_transfers, free_advance, free_step (span_surcharge tariff trip a b)) (simp and-true)

either_up_to : (b : Bool) (x y : ℕ) → x ≤ 31 → y ≤ 31 → cond b x y ≤ 31
either_up_to true x y h k = h
either_up_to false x y h k = k

in_range_low : (month day : ℕ) → 1 ≤ month → 1 ≤ day → 101 ≤ 100 * month + day
in_range_low month day h k = omega arith

in_range_high : (month day days : ℕ) → month ≤ 12 → day ≤ days → days ≤ 31 → 100 * month + day ≤ 1_231
in_range_high month day days h k l = omega arith

-- a month has at most 31 days
days_up_to : (month : ℕ) → days_in_month (pos 2000) month ≤ 31
days_up_to month =
    either_up_to (eqb month 2) 29 (cond (eqb month 4 || eqb month 6 || eqb month 9 || eqb month 11) 30 31) (omega arith)
    (either_up_to (eqb month 4 || eqb month 6 || eqb month 9 || eqb month 11) 30 31 (omega arith) (omega arith))

-- the place of a day of the year is from that of 1 January to that of 31 December
place_in_range : (on : List ℕ) → is_month_day on ≡ true → (101 ≤ place_in_year on) × (place_in_year on ≤ 1_231)
place_in_range on e =
    let calendar = (and_parts _ _ e).1 in
    let day_in = and_parts _ _ calendar in
    let day_from = and_parts _ _ day_in.0 in
    let month = and_parts _ _ day_from.0 in
    let m1 : 1 ≤ two_digits on 0 = leb-true 1 (two_digits on 0) month.0 in
    let m12 : two_digits on 0 ≤ 12 = leb-true (two_digits on 0) 12 month.1 in
    let d1 : 1 ≤ two_digits on 3 = leb-true 1 (two_digits on 3) day_from.1 in
    let d31 : two_digits on 3 ≤ days_in_month (pos 2000) (two_digits on 0) = leb-true (two_digits on 3) (days_in_month (pos 2000) (two_digits on 0)) day_in.1 in
    let days : days_in_month (pos 2000) (two_digits on 0) ≤ 31 = days_up_to (two_digits on 0) in
    (in_range_low (two_digits on 0) (two_digits on 3) m1 d1, in_range_high (two_digits on 0) (two_digits on 3) (days_in_month (pos 2000) (two_digits on 0)) m12 d31 days)

-- the whole year holds each day of the year
pub whole_year_holds : (on : List ℕ) → is_month_day on ≡ true → season_holds whole_year on ≡ true
unfolding season_holds
whole_year_holds on e =
    let range = place_in_range on e in
    and_from (leb 101 (place_in_year on)) (leb (place_in_year on) 1_231) (le-leb 101 (place_in_year on) range.0) (le-leb (place_in_year on) 1_231 range.1)

-- so a fare of the whole year is in season on each day
pub whole_year_in_season : (trip : Itinerary) (a : ℕ) (fare : FareRecord) → fare.season ≡ whole_year
    → is_month_day (month_day_of (first_day trip a)) ≡ true → in_season trip a fare ≡ true
unfolding in_season
whole_year_in_season trip a fare e day = rw e (whole_year_holds (month_day_of (first_day trip a)) day)

pub applicable_freely : (tariff : Tariff) (trip : Itinerary) (a b : ℕ) (back : Bool) (fare : FareRecord)
    → fare.rule ≡ None → fare.season ≡ whole_year → b ≤ MOST_SECTORS → is_month_day (month_day_of (first_day trip a)) ≡ true
    → is_applicable tariff trip a b back fare ≡ is_applicable_freely tariff trip a b back fare
applicable_freely tariff trip a b back fare free year short day = free_applicable tariff trip a b fare free short back (whole_year_in_season trip a fare year day)

-- the free rule allows any stay that is a number of days
pub free_stay : (tariff : Tariff) (days : ℕ) (fare : FareRecord) → fare.rule ≡ None → days < 2 ^ 32
    → allows_stay_of tariff days (Some fare) ≡ true
free_stay tariff days fare free h = holds_free tariff (allows_stay days) fare.rule free (and_from (leb 0 days) (leb days 4_294_967_295) (le-leb 0 days (omega arith)) (le-leb days 4_294_967_295 (omega arith)))
