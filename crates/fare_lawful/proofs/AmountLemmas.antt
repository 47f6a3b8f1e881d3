-- A part that has an amount breaks no rule that asks of it alone.
use Rattle.std.proofs.Common.{◌≡◌, ℕ, ◌+◌, ◌≤◌, Bool, true, false, not, ◌&&◌, List, length, Option, Some, None, refl, ap, arith}
use Rattle.std.specs.Prelude.{find, is_some, is_none}
use Rattle.std.proofs.lemmas.Bool.{and_right}
use Rattle.fare_trip.specs.Itinerary.{Itinerary}
use Rattle.fare_tariff.specs.Record.{FareRecord}
use Rattle.fare_tariff.specs.Tariff.{Tariff}
use Rattle.fare_rules.specs.declared.part.Part.{Part}
use Rattle.fare_rules.specs.ComponentAmount.{runs_between, component_amount}
use Rattle.fare_rules.specs.Construction.{places, start_of, end_of, part_at, fare_of, unfiled, is_unfiled}
use Rattle.fare_rules.specs.Direction.{is_back}
use Rattle.fare_rules.specs.Numbers.{first_given}
use Rattle.fare_rules.specs.Lawful.{breaks, fails, holds_gap, is_twisted, is_mispaired, is_misrouted, is_underclassed, is_miscarried, stops_too_often, transfers_too_often, is_late, is_unmeasured, is_excessive}
use Rattle.fare_rules.proofs.NumberLemmas.{find_none}
use Rattle.fare_rules.proofs.AmountLemmas.{MayBeUsed}
use Rattle.fare_rules.proofs.RuleLemmas.{usable_from_amount, find_nothing}
use Rattle.fare_rules.specs.declared.rule.Rule.TheVariants as rule
use Rattle.fare_rules.specs.Rule.{number_of}
use Rattle.fare_lawful.specs.Breaks.{breaks_from, is_unpriced}
use Rattle.fare_lawful.specs.Tests.{fare_passes, part_breaks}
use Rattle.fare_lawful.specs.declared.rules.part_rules.FareRule.{FareRule}
use Rattle.fare_lawful.specs.declared.rules.part_rules.FareRule.TheVariants.{Indicator, Cabin, Carrier, Stops, Transfers, Advance, Excess}
use Rattle.fare_lawful.specs.declared.rules.part_rules.PartRule.TheVariants.{Fare}

true_false : true ≡ false → ⊥
true_false e = cc

there : {A : Type 0} (o : Option A) → is_none o ≡ false → (x : A) × (o ≡ Some x)
there None e = absurd (true_false e)
there (Some x) e = (x, refl)

some_where_there : {A : Type 0} (o : Option A) → is_none o ≡ false → is_some o ≡ true
some_where_there None e = absurd (true_false e)
some_where_there (Some x) e = refl

passed : (test : FareRecord → Bool) (found : Option FareRecord) (fare : FareRecord) → found ≡ Some fare → test fare ≡ true → fails test found ≡ false
passed test found fare f t = rw (f, t)

module _ (tariff : Tariff) (trip : Itinerary) (parts : List Part) (filed : unfiled tariff parts ≡ None) (priced : find (is_unpriced tariff trip parts) (places parts) ≡ None) where
  fare_at_place : (k : ℕ) → 1 ≤ k → k ≤ length parts → (fare : FareRecord) × (fare_of tariff parts k ≡ Some fare)
  unfolding unfiled
  fare_at_place k low high = there (fare_of tariff parts k) (find_none (is_unfiled tariff parts) 1 (length parts + 1) filed k low (omega arith))

  usable : (k : ℕ) (low : 1 ≤ k) (high : k ≤ length parts) → MayBeUsed tariff trip (start_of trip parts k) (end_of parts k) (is_back tariff trip parts k) (fare_at_place k low high).0
  usable k low high =
      let amount = component_amount tariff trip (start_of trip parts k) (end_of parts k) (part_at parts k).fare (is_back tariff trip parts k) in
      usable_from_amount tariff trip (start_of trip parts k) (end_of parts k) (part_at parts k).fare (is_back tariff trip parts k) (fare_at_place k low high).0 (fare_at_place k low high).1
      (some_where_there amount (find_none (is_unpriced tariff trip parts) 1 (length parts + 1) priced k low (omega arith)))

  -- a test of fares that the fare of a part passes fails nowhere
  passed_at : (k : ℕ) (low : 1 ≤ k) (high : k ≤ length parts) (test : FareRecord → Bool) → test (fare_at_place k low high).0 ≡ true → (not (holds_gap trip parts k) && fails test (fare_of tariff parts k)) ≡ false
  passed_at k low high test t = and_right (not (holds_gap trip parts k)) (fails test (fare_of tariff parts k)) (passed test (fare_of tariff parts k) (fare_at_place k low high).0 (fare_at_place k low high).1 t)

  nowhere : (test : ℕ → Bool) → ((k : ℕ) → 1 ≤ k → k ≤ length parts → test k ≡ false) → find test (places parts) ≡ None
  nowhere test h = find_nothing test 1 (length parts + 1) (λ k low high. h k low (omega arith))

  -- the first rule that is broken from Distinct on is the first from Stay on
  pub stay_is_next : first_given (breaks_from (number_of rule.Stay) tariff trip parts) ≡ first_given (breaks_from (number_of rule.Distinct) tariff trip parts)
  unfolding breaks
  stay_is_next =
      let distinct : find (is_twisted trip parts) (places parts) ≡ None = nowhere (is_twisted trip parts) (λ k low high. (usable k low high).distinct) in
      let pair : find (is_mispaired tariff trip parts) (places parts) ≡ None = nowhere (is_mispaired tariff trip parts) (λ k low high. passed_at k low high (runs_between trip (start_of trip parts k) (end_of parts k) (is_back tariff trip parts k)) (usable k low high).pair) in
      let passes : (rule : FareRule) → ((k : ℕ) (low : 1 ≤ k) (high : k ≤ length parts) → fare_passes tariff trip (start_of trip parts k) (end_of parts k) (fare_at_place k low high).0 rule ≡ true) → find (part_breaks tariff trip parts (Fare rule)) (places parts) ≡ None =
      λ rule h. nowhere (part_breaks tariff trip parts (Fare rule)) (λ k low high. passed_at k low high (λ fare. fare_passes tariff trip (start_of trip parts k) (end_of parts k) fare rule) (h k low high)) in
      let indicator : find (is_misrouted tariff trip parts) (places parts) ≡ None = passes Indicator (λ k low high. (usable k low high).indicator) in
      let cabin : find (is_underclassed tariff trip parts) (places parts) ≡ None = passes Cabin (λ k low high. (usable k low high).cabins) in
      let carrier : find (is_miscarried tariff trip parts) (places parts) ≡ None = passes Carrier (λ k low high. (usable k low high).carriers) in
      let stops : find (stops_too_often tariff trip parts) (places parts) ≡ None = passes Stops (λ k low high. (usable k low high).stops) in
      let transfers : find (transfers_too_often tariff trip parts) (places parts) ≡ None = passes Transfers (λ k low high. (usable k low high).transfers) in
      let advance : find (is_late tariff trip parts) (places parts) ≡ None = passes Advance (λ k low high. (usable k low high).advance) in
      let mileage : find (is_unmeasured tariff trip parts) (places parts) ≡ None = nowhere (is_unmeasured tariff trip parts) (λ k low high. and_right (not (holds_gap trip parts k)) _ (ap not (usable k low high).mileage)) in
      let excess : find (is_excessive tariff trip parts) (places parts) ≡ None = passes Excess (λ k low high. (usable k low high).excess) in
      rw (distinct, pair, indicator, cabin, carrier, stops, transfers, advance, mileage, excess) refl
