-- What the rule of a kind barred nowhere in an edition it bars nowhere in the relaxed one.
use Rattle.std.proofs.Common.{◌≡◌, ℕ, ◌+◌, ◌-◌, ◌≢◌, Bool, true, false, cond, not, ◌&&◌, ◌||◌, List, [], ◌∷◌, length, refl, ap, sym, ◌∙◌, inl, inr}
use Rattle.std.proofs.Math.Path.{fun_ext}
use Rattle.std.proofs.lemmas.Bool.{not-false, and_right, cases_Bool}
use Rattle.std.specs.Prelude.{Option, Some, None, find}
use Rattle.std.specs.List.{list_any}
use Rattle.fare_codes.specs.declared.rule_id.RuleId.{RuleId}
use Rattle.fare_trip.specs.Itinerary.{Itinerary}
use Rattle.fare_records.specs.Record.{FareRecord}
use Rattle.fare_tariff.specs.Tariff.{Tariff}
use Rattle.fare_tariff.specs.Lookup.{fare_at, unit_ok, ends_ok}
use Rattle.fare_rules.specs.declared.part.Part.{Part}
use Rattle.fare_rules.specs.Numbers.{numbers}
use Rattle.fare_rules.specs.Span.{sectors, stopovers, transfers}
use Rattle.fare_rules.specs.Terms.{term_holds, terms_of_fare, allows_stops, allows_transfers, allows_advance, allows_surcharge, allows_stay, advance_days, stops_hold, transfers_hold, advance_holds}
use Rattle.fare_rules.specs.ComponentAmount.{runs_between, has_indicator, covers_cabins, covers_carriers, in_season, mileage_holds, span_surcharge, is_allowed, excess_holds}
use Rattle.fare_rules.specs.Construction.{places, units, own, start_of, end_of, part_at, fare_of, is_unfiled, unfiled, unit_of}
use Rattle.fare_rules.specs.Shape.{is_same_unit, is_hr, is_mixed, mixed, must_close, is_unchained, unchained, is_unclosed, unclosed}
use Rattle.fare_rules.specs.Direction.{is_back}
use Rattle.fare_rules.specs.UnitRules.{stay, allows_stay_of, forbids_stay, is_mistimed, mistimed, rules_pass, are_unit_mates, are_end_mates, is_misfit, has_misfit, is_misfitted, misfitted, is_clash, clashes, clashed}
use Rattle.fare_rules.specs.Lawful.{fails, holds_gap, fails_in_air, is_mispaired, is_misrouted, is_underclassed, is_miscarried, stops_too_often, transfers_too_often, is_late, is_unmeasured, is_excessive, is_out_of_season}
use Rattle.fare_relaxed.specs.declared.term.Term.{Term}
use Rattle.fare_relaxed.specs.Terms.{rule_number}
use Rattle.fare_relaxed.specs.Relax.{relax}
use Rattle.fare_relaxed.specs.Ranges.{HasRulesInRange}
use Rattle.fare_relaxed.proofs.LookUps.{fare_at_same}
use Rattle.fare_relaxed.proofs.Untouched.{fare_at_function, holds_ow_same, is_hr_same, is_open_jaw_same, is_back_in_same, indicator_of_same, span_surcharge_same}
use Rattle.fare_relaxed.proofs.Asked.{IsApart, IsKeptBy, apart_stops, apart_transfers, apart_advance, apart_surcharge, apart_stay, kept_stops, kept_transfers, kept_advance, kept_surcharge, kept_stay, terms_apart, terms_kept, unit_ok_apart, ends_ok_apart, unit_ok_kept, ends_ok_kept}

some_none : (k : ℕ) → Some k ≡ None → ⊥
some_none k e = cc

-- a test that is true at less finds nothing where the other does
find_weaker : (p q : ℕ → Bool) → ((k : ℕ) → p k ≡ false → q k ≡ false) → (xs : List ℕ) → find p xs ≡ None
    → find q xs ≡ None
find_weaker p q h [] e = refl
find_weaker p q h (x ∷ xs) e =
    elim (cases_Bool (p x)) [
      | inl t ↦ absurd (some_none x (rw t at e))
      | inr f ↦ rw (h x f) (find_weaker p q h xs (rw f at e))
    ]

true_false : true ≡ false → ⊥
true_false e = cc

neither : (a b : Bool) → (a || b) ≡ false → (a ≡ false) × (b ≡ false)
neither false b e = (refl, e)
neither true b e = absurd (true_false e)

any_weaker : (p q : ℕ → Bool) → ((k : ℕ) → p k ≡ false → q k ≡ false) → (xs : List ℕ) → list_any p xs ≡ false
    → list_any q xs ≡ false
any_weaker p q h [] e = refl
any_weaker p q h (x ∷ xs) e =
    let each = neither (p x) (list_any p xs) e in
    rw (h x each.0, any_weaker p q h xs each.1)

and_weaker : (a b c : Bool) → (b ≡ false → c ≡ false) → (a && b) ≡ false → (a && c) ≡ false
and_weaker true b c h e = h e
and_weaker false b c h e = refl

not_weaker : (a b : Bool) → (a ≡ true → b ≡ true) → not a ≡ false → not b ≡ false
not_weaker a b h e = ap not (h (not-false a e))

fails_weaker : (p q : FareRecord → Bool) → ((fare : FareRecord) → p fare ≡ true → q fare ≡ true)
    → (o : Option FareRecord) → fails p o ≡ false → fails q o ≡ false
fails_weaker p q h None e = refl
fails_weaker p q h (Some fare) e = not_weaker (p fare) (q fare) (h fare) e

passes_weaker : (p q : Option RuleId → Option RuleId → Bool)
    → ((a b : Option RuleId) → p a b ≡ true → q a b ≡ true) → (one other : Option FareRecord)
    → rules_pass p one other ≡ true → rules_pass q one other ≡ true
passes_weaker p q h (Some one) (Some other) e = h one.rule other.rule e
passes_weaker p q h (Some one) None e = e
passes_weaker p q h None (Some other) e = e
passes_weaker p q h None None e = e

module _ (term : Term) (tariff : Tariff) where
  -- the rules of the terms of a fare, by a test that a fare passes in the edition and so in the relaxed one
  air_weaker : (trip : Itinerary) (parts : List Part) (after before : ℕ → FareRecord → Bool)
      → ((k : ℕ) (fare : FareRecord) → before k fare ≡ true → after k fare ≡ true)
      → find (λ k. fails_in_air tariff trip parts (before k) k) (places parts) ≡ None
      → find (λ k. fails_in_air (relax term tariff) trip parts (after k) k) (places parts) ≡ None
  air_weaker trip parts after before h =
      find_weaker (λ k. fails_in_air tariff trip parts (before k) k) (λ k. fails_in_air (relax term tariff) trip parts (after k) k)
      (λ k. and_weaker (not (holds_gap trip parts k)) (fails (before k) (fare_of tariff parts k)) (fails (after k) (fare_of (relax term tariff) parts k))
      (λ e. rw (fare_at_same term tariff (part_at parts k).fare) (fails_weaker (before k) (after k) (h k) (fare_of tariff parts k) e))) (places parts)

  pub stops_weaker : HasRulesInRange tariff → (trip : Itinerary) (parts : List Part)
      → find (stops_too_often tariff trip parts) (places parts) ≡ None
      → find (stops_too_often (relax term tariff) trip parts) (places parts) ≡ None
  unfolding stops_hold
  stops_weaker range trip parts =
      air_weaker trip parts (λ k. stops_hold (relax term tariff) trip (start_of trip parts k) (end_of parts k)) (λ k. stops_hold tariff trip (start_of trip parts k) (end_of parts k))
      (λ k fare h. terms_kept term tariff (allows_stops (length (stopovers trip (start_of trip parts k) (end_of parts k)))) (kept_stops term (length (stopovers trip (start_of trip parts k) (end_of parts k)))) range fare.rule h)

  pub transfers_weaker : HasRulesInRange tariff → (trip : Itinerary) (parts : List Part)
      → find (transfers_too_often tariff trip parts) (places parts) ≡ None
      → find (transfers_too_often (relax term tariff) trip parts) (places parts) ≡ None
  unfolding transfers_hold
  transfers_weaker range trip parts =
      air_weaker trip parts (λ k. transfers_hold (relax term tariff) trip (start_of trip parts k) (end_of parts k)) (λ k. transfers_hold tariff trip (start_of trip parts k) (end_of parts k))
      (λ k fare h. terms_kept term tariff (allows_transfers (length (transfers trip (start_of trip parts k) (end_of parts k)))) (kept_transfers term (length (transfers trip (start_of trip parts k) (end_of parts k)))) range fare.rule h)

  pub late_weaker : HasRulesInRange tariff → (trip : Itinerary) (parts : List Part)
      → find (is_late tariff trip parts) (places parts) ≡ None
      → find (is_late (relax term tariff) trip parts) (places parts) ≡ None
  unfolding advance_holds
  late_weaker range trip parts =
      air_weaker trip parts (λ k. advance_holds (relax term tariff) trip) (λ k. advance_holds tariff trip)
      (λ k fare h. terms_kept term tariff (allows_advance (advance_days trip)) (kept_advance term (advance_days trip)) range fare.rule h)

  allowed_kept : HasRulesInRange tariff → (fare : FareRecord) (o : Option ℕ) → is_allowed tariff fare o ≡ true
      → is_allowed (relax term tariff) fare o ≡ true
  allowed_kept range fare None h = h
  allowed_kept range fare (Some step) h =
      terms_kept term tariff (allows_surcharge step) (kept_surcharge term step) range fare.rule h

  pub excessive_weaker : HasRulesInRange tariff → (trip : Itinerary) (parts : List Part)
      → find (is_excessive tariff trip parts) (places parts) ≡ None
      → find (is_excessive (relax term tariff) trip parts) (places parts) ≡ None
  excessive_weaker range trip parts =
      air_weaker trip parts (λ k. excess_holds (relax term tariff) trip (start_of trip parts k) (end_of parts k)) (λ k. excess_holds tariff trip (start_of trip parts k) (end_of parts k))
      (λ k fare h. rw (span_surcharge_same term tariff trip (start_of trip parts k) (end_of parts k)) (allowed_kept range fare (span_surcharge tariff trip (start_of trip parts k) (end_of parts k)) h))

  allows_stay_kept : HasRulesInRange tariff → (days : ℕ) (o : Option FareRecord)
      → allows_stay_of tariff days o ≡ true → allows_stay_of (relax term tariff) days o ≡ true
  allows_stay_kept range days None h = h
  allows_stay_kept range days (Some fare) h =
      terms_kept term tariff (allows_stay days) (kept_stay term days) range fare.rule h

  forbids_weaker : HasRulesInRange tariff → (parts : List Part) (days k : ℕ)
      → forbids_stay tariff parts days k ≡ false → forbids_stay (relax term tariff) parts days k ≡ false
  forbids_weaker range parts days k e =
      rw (fare_at_same term tariff (part_at parts k).fare)
      (not_weaker (allows_stay_of tariff days (fare_of tariff parts k)) (allows_stay_of (relax term tariff) days (fare_of tariff parts k)) (allows_stay_kept range days (fare_of tariff parts k)) e)

  pub mistimed_weaker : HasRulesInRange tariff → (trip : Itinerary) (parts : List Part)
      → mistimed tariff trip parts ≡ None → mistimed (relax term tariff) trip parts ≡ None
  unfolding mistimed
  mistimed_weaker range trip parts =
      find_weaker (is_mistimed tariff trip parts) (is_mistimed (relax term tariff) trip parts)
      (λ unit e. rw (is_hr_same term tariff parts (own parts unit))
      (and_weaker (is_hr tariff parts (own parts unit)) (list_any (forbids_stay tariff parts (stay trip parts (own parts unit))) (own parts unit)) (list_any (forbids_stay (relax term tariff) parts (stay trip parts (own parts unit))) (own parts unit))
      (any_weaker (forbids_stay tariff parts (stay trip parts (own parts unit))) (forbids_stay (relax term tariff) parts (stay trip parts (own parts unit))) (forbids_weaker range parts (stay trip parts (own parts unit))) (own parts unit)) e)) (units parts)

  misfit_weaker : (parts : List Part) (k j : ℕ) → is_misfit tariff parts k j ≡ false
      → is_misfit (relax term tariff) parts k j ≡ false
  misfit_weaker parts k j e =
      rw (fare_at_same term tariff (part_at parts j).fare, fare_at_same term tariff (part_at parts k).fare)
      (and_weaker (is_same_unit parts k j) (not (rules_pass (unit_ok tariff) (fare_of tariff parts j) (fare_of tariff parts k))) (not (rules_pass (unit_ok (relax term tariff)) (fare_of tariff parts j) (fare_of tariff parts k)))
      (not_weaker (rules_pass (unit_ok tariff) (fare_of tariff parts j) (fare_of tariff parts k)) (rules_pass (unit_ok (relax term tariff)) (fare_of tariff parts j) (fare_of tariff parts k))
      (passes_weaker (unit_ok tariff) (unit_ok (relax term tariff)) (unit_ok_kept term tariff) (fare_of tariff parts j) (fare_of tariff parts k))) e)

  pub misfitted_weaker : (parts : List Part) → misfitted tariff parts ≡ None → misfitted (relax term tariff) parts ≡ None
  unfolding misfitted
  misfitted_weaker parts =
      find_weaker (is_misfitted tariff parts) (is_misfitted (relax term tariff) parts)
      (λ unit. any_weaker (has_misfit tariff parts) (has_misfit (relax term tariff) parts)
      (λ k. any_weaker (is_misfit tariff parts k) (is_misfit (relax term tariff) parts k) (misfit_weaker parts k) (numbers 1 k)) (own parts unit)) (units parts)

  clash_weaker : (parts : List Part) (k j : ℕ) → is_clash tariff parts k j ≡ false
      → is_clash (relax term tariff) parts k j ≡ false
  clash_weaker parts k j e =
      rw (fare_at_same term tariff (part_at parts j).fare, fare_at_same term tariff (part_at parts k).fare)
      (and_weaker (not (is_same_unit parts k j)) (not (rules_pass (ends_ok tariff) (fare_of tariff parts j) (fare_of tariff parts k))) (not (rules_pass (ends_ok (relax term tariff)) (fare_of tariff parts j) (fare_of tariff parts k)))
      (not_weaker (rules_pass (ends_ok tariff) (fare_of tariff parts j) (fare_of tariff parts k)) (rules_pass (ends_ok (relax term tariff)) (fare_of tariff parts j) (fare_of tariff parts k))
      (passes_weaker (ends_ok tariff) (ends_ok (relax term tariff)) (ends_ok_kept term tariff) (fare_of tariff parts j) (fare_of tariff parts k))) e)

  pub clashed_weaker : (parts : List Part) → clashed tariff parts ≡ None → clashed (relax term tariff) parts ≡ None
  unfolding clashed
  clashed_weaker parts =
      find_weaker (clashes tariff parts) (clashes (relax term tariff) parts)
      (λ k. any_weaker (is_clash tariff parts k) (is_clash (relax term tariff) parts k) (clash_weaker parts k) (numbers 1 k)) (places parts)
