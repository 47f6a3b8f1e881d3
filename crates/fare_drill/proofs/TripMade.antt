-- The trip of a drill is one.
use Rattle.std.proofs.Common.{◌≡◌, ℕ, zero, suc, ◌+◌, ◌<◌, ◌≤◌, Bool, true, false, cond, List, length, map, ◌==◌, nat_lt, ◌∙◌, Option, Some, None, Result, Ok, Err, is_ok, codes, refl, arith, inl, inr}
use Rattle.std.specs.List.{range_with_len, list_all}
use Rattle.std.proofs.lemmas.Bool.{and_parts, cases_eq}
use Rattle.jiff_core.specs.Calendar.{days_of_months}
use Rattle.fare_codes.specs.Day.{day_number, days_since_1970}
use Rattle.fare_trip.specs.declared.sector.Sector.{Sector}
use Rattle.fare_trip.specs.declared.fault.TripFault.{TripFault}
use Rattle.fare_trip.specs.declared.fault.TripFault.TheVariants.{NoSectors, TooMany}
use Rattle.fare_trip.specs.Itinerary.{Itinerary}
use Rattle.fare_trip.specs.Trip.{make_trip, sectors_fault, unless_fault, carried}
use Rattle.fare_drill.specs.Drill.{drill_trip, drill_sector, drill_point}

-- what holds of each number of a row holds of one of them
all_of_row : (p : ℕ → Bool) (a n k : ℕ) → list_all p (range_with_len a n) ≡ true → a ≤ k → k < a + n → p k ≡ true
all_of_row p a zero k all low high = absurd (omega arith)
all_of_row p a (suc n) k all low high =
    let parts = and_parts (p a) (list_all p (range_with_len (a + 1) n)) all in
    elim (cases_eq a k) [
      | inl here ↦ rw here at parts.0
      | inr later ↦ all_of_row p (a + 1) n k parts.1 (omega arith) (omega arith)
    ]

-- what isn't the first of two, a fault, is the second
second_of : (test : Bool) (fault : TripFault) (rest : Result Itinerary TripFault) → is_ok (cond test (Err fault) rest) ≡ true → cond test (Err fault) rest ≡ rest
second_of true fault rest h = cc
second_of false fault rest h = refl

-- where there is no fault the trip is as it was put together
put_together : (found : Option TripFault) (trip : Itinerary) → is_ok (unless_fault found trip) ≡ true → unless_fault found trip ≡ Ok trip
put_together (Some fault) trip h = cc
put_together None trip h = refl

-- the trip of so many sectors is made
is_made : ℕ → Bool
is_made k = is_ok (make_trip (codes "2025-01-01") (drill_point k 0) (map (drill_sector k) (range_with_len 1 k)))

-- each of them is
all_made : list_all is_made (range_with_len 1 16) ≡ true
unfolding is_made make_trip day_number days_since_1970 days_of_months
all_made = refl

-- a trip that is made has its parts as they are
made_of : (sale from : List ℕ) (sectors : List Sector) → is_ok (make_trip sale from sectors) ≡ true → make_trip sale from sectors ≡ Ok (record { sale = sale; from = from; sectors = sectors })
unfolding make_trip
made_of sale from sectors h =
    let some = second_of (length sectors == 0) NoSectors _ h in
    let few = second_of (nat_lt 16 (length sectors)) (TooMany (carried (length sectors))) _ (rw some at h) in
    let put = put_together (sectors_fault (length sectors) 1 from sale false sectors) (record { sale = sale; from = from; sectors = sectors }) (rw few at (rw some at h)) in
    some ∙ few ∙ put

-- the trip of a drill of 1 to 16 sectors is made
pub drill_trip_is_made : (sectors : ℕ) → 1 ≤ sectors → sectors ≤ 16 → make_trip (codes "2025-01-01") (drill_point sectors 0) (map (drill_sector sectors) (range_with_len 1 sectors)) ≡ Ok (drill_trip sectors)
unfolding is_made drill_trip
drill_trip_is_made sectors low high =
    made_of _ _ _ (all_of_row is_made 1 16 sectors all_made low (omega arith))
