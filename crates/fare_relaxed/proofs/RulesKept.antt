-- The rules of a relaxed edition that look at no condition of the kind are broken where they were.
use Rattle.std.proofs.Common.{◌≡◌, ℕ, ◌+◌, ◌-◌, ◌≢◌, Bool, true, false, cond, not, ◌&&◌, ◌||◌, List, [], ◌∷◌, length, refl, ap, sym, ◌∙◌, inl, inr}
use Rattle.std.proofs.Math.Path.{fun_ext}
use Rattle.std.proofs.lemmas.Bool.{not-false, and_right, cases_Bool}
use Rattle.std.specs.Prelude.{Option, Some, None, find}
use Rattle.std.specs.List.{list_any}
use Rattle.fare_codes.specs.declared.rule_id.RuleId.{RuleId}
use Rattle.fare_trip.specs.Itinerary.{Itinerary}
use Rattle.fare_records.specs.Record.{FareRecord}
use Rattle.fare_tariff.specs.Tariff.{Tariff}
use Rattle.fare_tariff.specs.Lookup.{fare_at, unit_ok, ends_ok}
use Rattle.fare_rules.specs.declared.part.Part.{Part}
use Rattle.fare_rules.specs.Numbers.{numbers}
use Rattle.fare_rules.specs.Span.{sectors, stopovers, transfers}
use Rattle.fare_rules.specs.Terms.{term_holds, terms_of_fare, allows_stops, allows_transfers, allows_advance, allows_surcharge, allows_stay, advance_days, stops_hold, transfers_hold, advance_holds}
use Rattle.fare_rules.specs.ComponentAmount.{runs_between, has_indicator, covers_cabins, covers_carriers, in_season, mileage_holds, span_surcharge, is_allowed, excess_holds}
use Rattle.fare_rules.specs.Construction.{places, units, own, start_of, end_of, part_at, fare_of, is_unfiled, unfiled, unit_of}
use Rattle.fare_rules.specs.Shape.{is_same_unit, is_hr, is_mixed, mixed, must_close, is_unchained, unchained, is_unclosed, unclosed}
use Rattle.fare_rules.specs.Direction.{is_back}
use Rattle.fare_rules.specs.UnitRules.{stay, allows_stay_of, forbids_stay, is_mistimed, mistimed, rules_pass, are_unit_mates, are_end_mates, is_misfit, has_misfit, is_misfitted, misfitted, is_clash, clashes, clashed}
use Rattle.fare_rules.specs.Lawful.{fails, holds_gap, fails_in_air, is_mispaired, is_misrouted, is_underclassed, is_miscarried, stops_too_often, transfers_too_often, is_late, is_unmeasured, is_excessive, is_out_of_season}
use Rattle.fare_relaxed.specs.declared.term.Term.{Term}
use Rattle.fare_relaxed.specs.Terms.{rule_number}
use Rattle.fare_relaxed.specs.Relax.{relax}
use Rattle.fare_relaxed.specs.Ranges.{HasRulesInRange}
use Rattle.fare_relaxed.proofs.LookUps.{fare_at_same}
use Rattle.fare_relaxed.proofs.Untouched.{fare_at_function, holds_ow_same, is_hr_same, is_open_jaw_same, is_back_in_same, indicator_of_same, span_surcharge_same}
use Rattle.fare_relaxed.proofs.Asked.{IsApart, IsKeptBy, apart_stops, apart_transfers, apart_advance, apart_surcharge, apart_stay, kept_stops, kept_transfers, kept_advance, kept_surcharge, kept_stay, terms_apart, terms_kept, unit_ok_apart, ends_ok_apart, unit_ok_kept, ends_ok_kept}

-- tests that are equal find the same
find_same : (p q : ℕ → Bool) (xs : List ℕ) → ((k : ℕ) → p k ≡ q k) → find p xs ≡ find q xs
find_same p q xs h = ap (λ f. find f xs) (fun_ext h)

module _ (term : Term) (tariff : Tariff) where
  -- the rules that look at no condition
  pub unfiled_same : (parts : List Part) → unfiled (relax term tariff) parts ≡ unfiled tariff parts
  unfolding unfiled
  unfiled_same parts =
      find_same (is_unfiled (relax term tariff) parts) (is_unfiled tariff parts) (places parts) (λ k. rw (fare_at_same term tariff (part_at parts k).fare))

  pub mixed_same : (parts : List Part) → mixed (relax term tariff) parts ≡ mixed tariff parts
  unfolding mixed
  mixed_same parts =
      find_same (is_mixed (relax term tariff) parts) (is_mixed tariff parts) (units parts) (λ unit. rw (holds_ow_same term tariff parts (own parts unit)))

  must_close_same : (trip : Itinerary) (parts : List Part) (mine : List ℕ)
      → must_close (relax term tariff) trip parts mine ≡ must_close tariff trip parts mine
  must_close_same trip parts mine = rw (is_hr_same term tariff parts mine, is_open_jaw_same term tariff trip parts mine)

  pub unchained_same : (trip : Itinerary) (parts : List Part)
      → unchained (relax term tariff) trip parts ≡ unchained tariff trip parts
  unfolding unchained
  unchained_same trip parts =
      find_same (is_unchained (relax term tariff) trip parts) (is_unchained tariff trip parts) (units parts) (λ unit. rw (must_close_same trip parts (own parts unit)))

  pub unclosed_same : (trip : Itinerary) (parts : List Part)
      → unclosed (relax term tariff) trip parts ≡ unclosed tariff trip parts
  unfolding unclosed
  unclosed_same trip parts =
      find_same (is_unclosed (relax term tariff) trip parts) (is_unclosed tariff trip parts) (units parts) (λ unit. rw (must_close_same trip parts (own parts unit)))

  pub mispaired_same : (trip : Itinerary) (parts : List Part)
      → find (is_mispaired (relax term tariff) trip parts) (places parts) ≡ find (is_mispaired tariff trip parts) (places parts)
  mispaired_same trip parts =
      find_same (is_mispaired (relax term tariff) trip parts) (is_mispaired tariff trip parts) (places parts)
      (λ k. rw (is_back_in_same term tariff trip parts (own parts (unit_of parts k)) k, fare_at_same term tariff (part_at parts k).fare))

  indicator_function : (trip : Itinerary) (a b : ℕ)
      → has_indicator (relax term tariff) trip a b ≡ has_indicator tariff trip a b
  unfolding has_indicator
  indicator_function trip a b = fun_ext (λ fare. rw (indicator_of_same term tariff trip (sectors a b)))

  pub misrouted_same : (trip : Itinerary) (parts : List Part)
      → find (is_misrouted (relax term tariff) trip parts) (places parts) ≡ find (is_misrouted tariff trip parts) (places parts)
  misrouted_same trip parts =
      find_same (is_misrouted (relax term tariff) trip parts) (is_misrouted tariff trip parts) (places parts)
      (λ k. rw (indicator_function trip (start_of trip parts k) (end_of parts k), fare_at_same term tariff (part_at parts k).fare))

  pub underclassed_same : (trip : Itinerary) (parts : List Part)
      → find (is_underclassed (relax term tariff) trip parts) (places parts) ≡ find (is_underclassed tariff trip parts) (places parts)
  underclassed_same trip parts =
      find_same (is_underclassed (relax term tariff) trip parts) (is_underclassed tariff trip parts) (places parts) (λ k. rw (fare_at_same term tariff (part_at parts k).fare))

  pub miscarried_same : (trip : Itinerary) (parts : List Part)
      → find (is_miscarried (relax term tariff) trip parts) (places parts) ≡ find (is_miscarried tariff trip parts) (places parts)
  miscarried_same trip parts =
      find_same (is_miscarried (relax term tariff) trip parts) (is_miscarried tariff trip parts) (places parts) (λ k. rw (fare_at_same term tariff (part_at parts k).fare))

  pub unmeasured_same : (trip : Itinerary) (parts : List Part)
      → find (is_unmeasured (relax term tariff) trip parts) (places parts) ≡ find (is_unmeasured tariff trip parts) (places parts)
  unmeasured_same trip parts =
      find_same (is_unmeasured (relax term tariff) trip parts) (is_unmeasured tariff trip parts) (places parts)
      (λ k. rw (span_surcharge_same term tariff trip (start_of trip parts k) (end_of parts k)))

  pub out_of_season_same : (trip : Itinerary) (parts : List Part)
      → find (is_out_of_season (relax term tariff) trip parts) (places parts) ≡ find (is_out_of_season tariff trip parts) (places parts)
  out_of_season_same trip parts =
      find_same (is_out_of_season (relax term tariff) trip parts) (is_out_of_season tariff trip parts) (places parts) (λ k. rw (fare_at_same term tariff (part_at parts k).fare))

  -- the rules of the terms of a fare, by a test that a fare passes in either edition
  air_same : (trip : Itinerary) (parts : List Part) (after before : ℕ → FareRecord → Bool)
      → ((k : ℕ) → after k ≡ before k)
      → find (λ k. fails_in_air (relax term tariff) trip parts (after k) k) (places parts)
      ≡ find (λ k. fails_in_air tariff trip parts (before k) k) (places parts)
  air_same trip parts after before h =
      find_same (λ k. fails_in_air (relax term tariff) trip parts (after k) k) (λ k. fails_in_air tariff trip parts (before k) k) (places parts) (λ k. rw (h k, fare_at_same term tariff (part_at parts k).fare))

  stops_function : rule_number term ≢ 13 → (trip : Itinerary) (a b : ℕ)
      → stops_hold (relax term tariff) trip a b ≡ stops_hold tariff trip a b
  unfolding stops_hold
  stops_function other trip a b =
      fun_ext (λ fare. terms_apart term tariff (allows_stops (length (stopovers trip a b))) (apart_stops term (length (stopovers trip a b)) other) fare.rule)

  pub stops_same : rule_number term ≢ 13 → (trip : Itinerary) (parts : List Part)
      → find (stops_too_often (relax term tariff) trip parts) (places parts) ≡ find (stops_too_often tariff trip parts) (places parts)
  stops_same other trip parts =
      air_same trip parts (λ k. stops_hold (relax term tariff) trip (start_of trip parts k) (end_of parts k)) (λ k. stops_hold tariff trip (start_of trip parts k) (end_of parts k))
      (λ k. stops_function other trip (start_of trip parts k) (end_of parts k))

  transfers_function : rule_number term ≢ 14 → (trip : Itinerary) (a b : ℕ)
      → transfers_hold (relax term tariff) trip a b ≡ transfers_hold tariff trip a b
  unfolding transfers_hold
  transfers_function other trip a b =
      fun_ext (λ fare. terms_apart term tariff (allows_transfers (length (transfers trip a b))) (apart_transfers term (length (transfers trip a b)) other) fare.rule)

  pub transfers_same : rule_number term ≢ 14 → (trip : Itinerary) (parts : List Part)
      → find (transfers_too_often (relax term tariff) trip parts) (places parts) ≡ find (transfers_too_often tariff trip parts) (places parts)
  transfers_same other trip parts =
      air_same trip parts (λ k. transfers_hold (relax term tariff) trip (start_of trip parts k) (end_of parts k)) (λ k. transfers_hold tariff trip (start_of trip parts k) (end_of parts k))
      (λ k. transfers_function other trip (start_of trip parts k) (end_of parts k))

  advance_function : rule_number term ≢ 15 → (trip : Itinerary)
      → advance_holds (relax term tariff) trip ≡ advance_holds tariff trip
  unfolding advance_holds
  advance_function other trip =
      fun_ext (λ fare. terms_apart term tariff (allows_advance (advance_days trip)) (apart_advance term (advance_days trip) other) fare.rule)

  pub late_same : rule_number term ≢ 15 → (trip : Itinerary) (parts : List Part)
      → find (is_late (relax term tariff) trip parts) (places parts) ≡ find (is_late tariff trip parts) (places parts)
  late_same other trip parts =
      air_same trip parts (λ k. advance_holds (relax term tariff) trip) (λ k. advance_holds tariff trip) (λ k. advance_function other trip)

  allowed_same : rule_number term ≢ 17 → (fare : FareRecord) (o : Option ℕ)
      → is_allowed (relax term tariff) fare o ≡ is_allowed tariff fare o
  allowed_same other fare None = refl
  allowed_same other fare (Some step) =
      terms_apart term tariff (allows_surcharge step) (apart_surcharge term step other) fare.rule

  excess_function : rule_number term ≢ 17 → (trip : Itinerary) (a b : ℕ)
      → excess_holds (relax term tariff) trip a b ≡ excess_holds tariff trip a b
  excess_function other trip a b =
      fun_ext (λ fare. rw (span_surcharge_same term tariff trip a b) (allowed_same other fare (span_surcharge tariff trip a b)))

  pub excessive_same : rule_number term ≢ 17 → (trip : Itinerary) (parts : List Part)
      → find (is_excessive (relax term tariff) trip parts) (places parts) ≡ find (is_excessive tariff trip parts) (places parts)
  excessive_same other trip parts =
      air_same trip parts (λ k. excess_holds (relax term tariff) trip (start_of trip parts k) (end_of parts k)) (λ k. excess_holds tariff trip (start_of trip parts k) (end_of parts k))
      (λ k. excess_function other trip (start_of trip parts k) (end_of parts k))

  allows_stay_same : rule_number term ≢ 18 → (days : ℕ) (o : Option FareRecord)
      → allows_stay_of (relax term tariff) days o ≡ allows_stay_of tariff days o
  allows_stay_same other days None = refl
  allows_stay_same other days (Some fare) =
      terms_apart term tariff (allows_stay days) (apart_stay term days other) fare.rule

  forbids_function : rule_number term ≢ 18 → (parts : List Part) (days : ℕ)
      → forbids_stay (relax term tariff) parts days ≡ forbids_stay tariff parts days
  forbids_function other parts days =
      fun_ext (λ k. rw (fare_at_same term tariff (part_at parts k).fare) (ap not (allows_stay_same other days (fare_of tariff parts k))))

  pub mistimed_same : rule_number term ≢ 18 → (trip : Itinerary) (parts : List Part)
      → mistimed (relax term tariff) trip parts ≡ mistimed tariff trip parts
  unfolding mistimed
  mistimed_same other trip parts =
      find_same (is_mistimed (relax term tariff) trip parts) (is_mistimed tariff trip parts) (units parts)
      (λ unit. rw (is_hr_same term tariff parts (own parts unit), forbids_function other parts (stay trip parts (own parts unit))))

  unit_ok_function : rule_number term ≢ 19 → unit_ok (relax term tariff) ≡ unit_ok tariff
  unit_ok_function other = fun_ext (λ a. fun_ext (λ b. unit_ok_apart term tariff other a b))

  misfit_function : rule_number term ≢ 19 → (parts : List Part) (k : ℕ)
      → is_misfit (relax term tariff) parts k ≡ is_misfit tariff parts k
  misfit_function other parts k =
      fun_ext (λ j. rw (unit_ok_function other, fare_at_same term tariff (part_at parts j).fare, fare_at_same term tariff (part_at parts k).fare))

  has_misfit_function : rule_number term ≢ 19 → (parts : List Part)
      → has_misfit (relax term tariff) parts ≡ has_misfit tariff parts
  has_misfit_function other parts = fun_ext (λ k. ap (λ f. list_any f (numbers 1 k)) (misfit_function other parts k))

  pub misfitted_same : rule_number term ≢ 19 → (parts : List Part)
      → misfitted (relax term tariff) parts ≡ misfitted tariff parts
  unfolding misfitted
  misfitted_same other parts =
      find_same (is_misfitted (relax term tariff) parts) (is_misfitted tariff parts) (units parts)
      (λ unit. ap (λ f. list_any f (own parts unit)) (has_misfit_function other parts))

  ends_ok_function : rule_number term ≢ 20 → ends_ok (relax term tariff) ≡ ends_ok tariff
  ends_ok_function other = fun_ext (λ a. fun_ext (λ b. ends_ok_apart term tariff other a b))

  clash_function : rule_number term ≢ 20 → (parts : List Part) (k : ℕ)
      → is_clash (relax term tariff) parts k ≡ is_clash tariff parts k
  clash_function other parts k =
      fun_ext (λ j. rw (ends_ok_function other, fare_at_same term tariff (part_at parts j).fare, fare_at_same term tariff (part_at parts k).fare))

  pub clashed_same : rule_number term ≢ 20 → (parts : List Part)
      → clashed (relax term tariff) parts ≡ clashed tariff parts
  unfolding clashed
  clashed_same other parts =
      find_same (clashes (relax term tariff) parts) (clashes tariff parts) (places parts)
      (λ k. ap (λ f. list_any f (numbers 1 k)) (clash_function other parts k))
