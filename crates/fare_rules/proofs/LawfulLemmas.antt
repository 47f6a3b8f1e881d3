-- A lawful construction breaks no rule, and costs its price.
use Rattle.std.proofs.Common.{◌≡◌, ℕ, List, [], ◌∷◌, refl}
use Rattle.std.specs.Prelude.{Option, Some, None, Ok, Err, find}
use Rattle.fare_trip.specs.Itinerary.{Itinerary}
use Rattle.fare_tariff.specs.Tariff.{Tariff}
use Rattle.fare_rules.specs.declared.broken.Broken.{Broken}
use Rattle.fare_rules.specs.declared.part.Part.{Part}
use Rattle.fare_rules.specs.Numbers.{first_given}
use Rattle.fare_rules.specs.Construction.{places, uncovered, misnumbered, unfiled}
use Rattle.fare_rules.specs.Shape.{crossed, mixed, unchained, unclosed}
use Rattle.fare_rules.specs.UnitRules.{mistimed, misfitted, clashed}
use Rattle.fare_rules.specs.UnitPrice.{price}
use Rattle.fare_rules.specs.Lawful.{breaks, first_broken, lawful_price, unless_broken, at_rule, broken_at, holds_gap, is_twisted, is_mispaired, is_misrouted, is_underclassed, is_miscarried, stops_too_often, transfers_too_often, is_late, is_unmeasured, is_excessive, is_out_of_season}

-- no rule is broken anywhere
pub record IsKept (tariff : Tariff) (trip : Itinerary) (parts : List Part) : Type 0 where
  pub cover : uncovered trip parts ≡ None
  pub numbering : misnumbered parts ≡ None
  pub filed : unfiled tariff parts ≡ None
  pub crossing : crossed parts ≡ None
  pub alone : mixed tariff parts ≡ None
  pub chain : unchained tariff trip parts ≡ None
  pub close : unclosed tariff trip parts ≡ None
  pub distinct : find (is_twisted trip parts) (places parts) ≡ None
  pub pair : find (is_mispaired tariff trip parts) (places parts) ≡ None
  pub indicator : find (is_misrouted tariff trip parts) (places parts) ≡ None
  pub cabin : find (is_underclassed tariff trip parts) (places parts) ≡ None
  pub carrier : find (is_miscarried tariff trip parts) (places parts) ≡ None
  pub stops : find (stops_too_often tariff trip parts) (places parts) ≡ None
  pub transfers : find (transfers_too_often tariff trip parts) (places parts) ≡ None
  pub advance : find (is_late tariff trip parts) (places parts) ≡ None
  pub mileage : find (is_unmeasured tariff trip parts) (places parts) ≡ None
  pub excess : find (is_excessive tariff trip parts) (places parts) ≡ None
  pub stay : mistimed tariff trip parts ≡ None
  pub combine : misfitted tariff parts ≡ None
  pub ends : clashed tariff parts ≡ None
  pub surface : find (holds_gap trip parts) (places parts) ≡ None
  pub season : find (is_out_of_season tariff trip parts) (places parts) ≡ None

some_none : {A : Type 0} (x : A) → Some x ≡ None → ⊥
some_none x e = cc

err_ok : (found : Broken) (price : ℕ) → Err found ≡ Ok price → ⊥
err_ok found price e = cc

-- no answer is given in a list of answers
abbrev NoneGiven : {A : Type 0} → List (Option A) → Type 0
NoneGiven [] = Unit
NoneGiven (one ∷ rest) = (one ≡ None) × NoneGiven rest

none_given : {A : Type 0} (answers : List (Option A)) → first_given answers ≡ None → NoneGiven answers
none_given [] e = tt
none_given (None ∷ rest) e = (refl, none_given rest e)
none_given (Some found ∷ rest) e = absurd (some_none found e)

unplaced : (rule : ℕ) (place : Option ℕ) → at_rule rule place ≡ None → place ≡ None
unplaced rule None e = refl
unplaced rule (Some k) e = absurd (some_none (broken_at rule k) e)

pub kept_from_unbroken : (tariff : Tariff) (trip : Itinerary) (parts : List Part)
    → first_broken tariff trip parts ≡ None → IsKept tariff trip parts
unfolding first_broken breaks
kept_from_unbroken tariff trip parts e =
    let a = none_given (breaks tariff trip parts) e in
    record {
      cover = unplaced 1 _ a.0;
      numbering = unplaced 2 _ a.1.0;
      filed = unplaced 3 _ a.1.1.0;
      crossing = unplaced 4 _ a.1.1.1.0;
      alone = unplaced 5 _ a.1.1.1.1.0;
      chain = unplaced 6 _ a.1.1.1.1.1.0;
      close = unplaced 7 _ a.1.1.1.1.1.1.0;
      distinct = unplaced 8 _ a.1.1.1.1.1.1.1.0;
      pair = unplaced 9 _ a.1.1.1.1.1.1.1.1.0;
      indicator = unplaced 10 _ a.1.1.1.1.1.1.1.1.1.0;
      cabin = unplaced 11 _ a.1.1.1.1.1.1.1.1.1.1.0;
      carrier = unplaced 12 _ a.1.1.1.1.1.1.1.1.1.1.1.0;
      stops = unplaced 13 _ a.1.1.1.1.1.1.1.1.1.1.1.1.0;
      transfers = unplaced 14 _ a.1.1.1.1.1.1.1.1.1.1.1.1.1.0;
      advance = unplaced 15 _ a.1.1.1.1.1.1.1.1.1.1.1.1.1.1.0;
      mileage = unplaced 16 _ a.1.1.1.1.1.1.1.1.1.1.1.1.1.1.1.0;
      excess = unplaced 17 _ a.1.1.1.1.1.1.1.1.1.1.1.1.1.1.1.1.0;
      stay = unplaced 18 _ a.1.1.1.1.1.1.1.1.1.1.1.1.1.1.1.1.1.0;
      combine = unplaced 19 _ a.1.1.1.1.1.1.1.1.1.1.1.1.1.1.1.1.1.1.0;
      ends = unplaced 20 _ a.1.1.1.1.1.1.1.1.1.1.1.1.1.1.1.1.1.1.1.0;
      surface = unplaced 21 _ a.1.1.1.1.1.1.1.1.1.1.1.1.1.1.1.1.1.1.1.1.0;
      season = unplaced 22 _ a.1.1.1.1.1.1.1.1.1.1.1.1.1.1.1.1.1.1.1.1.1.0;
    }

unbroken_of : (found : Option Broken) (cost price : ℕ) → unless_broken found cost ≡ Ok price
    → (found ≡ None) × (cost ≡ price)
unbroken_of None cost price e = (refl, cc)
unbroken_of (Some found) cost price e = absurd (err_ok found price e)

-- where a construction is lawful, nothing is broken
pub unbroken : (tariff : Tariff) (trip : Itinerary) (parts : List Part) (cost : ℕ)
    → lawful_price tariff trip parts ≡ Ok cost → first_broken tariff trip parts ≡ None
unfolding lawful_price
unbroken tariff trip parts cost e = (unbroken_of (first_broken tariff trip parts) (price tariff trip parts) cost e).0

-- and its price is that of its units
pub price_of_lawful : (tariff : Tariff) (trip : Itinerary) (parts : List Part) (cost : ℕ)
    → lawful_price tariff trip parts ≡ Ok cost → price tariff trip parts ≡ cost
unfolding lawful_price
price_of_lawful tariff trip parts cost e = (unbroken_of (first_broken tariff trip parts) (price tariff trip parts) cost e).1

pub kept : (tariff : Tariff) (trip : Itinerary) (parts : List Part) (cost : ℕ)
    → lawful_price tariff trip parts ≡ Ok cost → IsKept tariff trip parts
kept tariff trip parts cost e = kept_from_unbroken tariff trip parts (unbroken tariff trip parts cost e)
