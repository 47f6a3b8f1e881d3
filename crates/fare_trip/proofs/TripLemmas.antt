-- What it says of a list of sectors that it makes a trip.
use Rattle.std.proofs.Common.{◌≡◌, ◌≢◌, ◌≤◌, ◌<◌, ℕ, zero, suc, ◌+◌, ◌-◌, Bool, true, false, List, [], ◌∷◌, length, Option, Some, None, Ok, Err, refl, sym, subst, arith, ◌==◌, ◌&&◌, ◌||◌, nat_lt, if◌then◌else◌, slice_index_or}
use Rattle.std.specs.Prelude.{bytes_eq}
use Rattle.std.specs.Option.{option_or}
use Rattle.std.proofs.lemmas.Bool.Decides.{nat_tests}
use Rattle.std.proofs.lemmas.Slice.Eq.{bytes_eq-Decides}
use Rattle.fare_codes.specs.declared.city.City.{City}
use Rattle.fare_codes.specs.declared.day.Day.{Day}
use Rattle.fare_codes.specs.declared.cabin.Cabin.TheVariants.{Y}
use Rattle.fare_codes.specs.declared.over.Over.TheVariants.{Unmarked}
use Rattle.fare_codes.specs.declared.limits.TheConstants.{MOST_SECTORS}
use Rattle.fare_codes.specs.Day.{day_number}
use Rattle.fare_trip.specs.declared.sector.Sector.{Sector}
use Rattle.fare_trip.specs.declared.fault.TripFault.{TripFault}
use Rattle.fare_trip.specs.declared.fault.TripFault.TheVariants as fault
use Rattle.fare_trip.specs.Itinerary.{Itinerary, count, point, sector, no_sector}
use Rattle.fare_trip.specs.Trip.{make_trip, sectors_fault, sector_fault, is_misplaced, unless_fault, carried, day_before, IsTrip}

-- what is asked of the sectors of a trip
pub record MadeOf (sectors : List Sector) (from : City) (sale : Day) : Type 0 where
  pub some : 1 ≤ length sectors
  pub at_most : length sectors ≤ MOST_SECTORS
  pub faultless : sectors_fault (length sectors) 1 from sale false sectors ≡ None

-- a choice of faults that answers a trip found none
no_fault : (none many : Bool) (first second : TripFault) (found : Option TripFault) (made trip : Itinerary) → (if none then Err first else (if many then Err second else unless_fault found made)) ≡ Ok trip → (none ≡ false) × (many ≡ false) × (found ≡ None)
no_fault true many first second found made trip h = absurd (cc)
no_fault false true first second found made trip h = absurd (cc)
no_fault false false first second (Some fault) made trip h = absurd (cc)
no_fault false false first second None made trip h = (refl, refl, refl)

pub made_of : (sale : Day) (from : City) (sectors : List Sector) (trip : Itinerary) → make_trip sale from sectors ≡ Ok trip → MadeOf sectors from sale
unfolding make_trip
made_of sale from sectors trip made =
    let found = no_fault (length sectors == 0) (nat_lt MOST_SECTORS (length sectors)) fault.NoSectors (fault.TooMany (carried (length sectors))) (sectors_fault (length sectors) 1 from sale false sectors) (record { sale = sale; from = from; sectors = sectors }) trip made in
    record {
      some = grind (arith, nat_tests);
      at_most = grind (arith, nat_tests);
      faultless = found.2;
    }

-- no fault of two means no fault of the first and none of the second
pub neither : (first second : Option TripFault) → option_or first second ≡ None → (first ≡ None) × (second ≡ None)
neither None second h = (refl, h)
neither (Some fault) second h = absurd (cc)

-- the place before the first sector, as a sector that led there
abbrev pub led : City → Day → Sector
led from sale = record { to = from; carrier = []; day = sale; cabin = Y; over = Unmarked; stop = true; surface = false }

-- where the sectors have no fault, each one has none behind the one before it
faultless-at : (sectors : List Sector) (before : Sector) (total number k : ℕ) → sectors_fault total number before.to before.day before.surface sectors ≡ None → k < length sectors → let last = slice_index_or (before ∷ sectors) k no_sector in sector_fault total (number + k) last.to last.day last.surface (slice_index_or sectors k no_sector) ≡ None
faultless-at [] before total number k h k_in = absurd (omega arith)
faultless-at (x ∷ sectors) before total number zero h k_in =
    let both = neither (sector_fault total number before.to before.day before.surface x) (sectors_fault total (number + 1) x.to x.day x.surface sectors) h in
    let same : number + zero ≡ number = omega arith in
    rw same both.0
faultless-at (x ∷ sectors) before total number (suc k) h k_in =
    let both = neither (sector_fault total number before.to before.day before.surface x) (sectors_fault total (number + 1) x.to x.day x.surface sectors) h in
    let same : number + suc k ≡ (number + 1) + k = omega arith in
    rw same (faultless-at sectors x total (number + 1) k both.1 (omega arith))

-- a sector without a fault
pub record Faultless (total number : ℕ) (city : City) (day : Day) (behind_surface : Bool) (flown : Sector) : Type 0 where
  pub reaches_another : bytes_eq flown.to city ≡ false
  pub rises : day_number day ≤ day_number flown.day
  pub in_place : is_misplaced total number behind_surface flown ≡ false

no_sector_fault : (same falls misplaced : Bool) (first second third : TripFault) → (if same then Some first else (if falls then Some second else (if misplaced then Some third else None))) ≡ None → (same ≡ false) × (falls ≡ false) × (misplaced ≡ false)
no_sector_fault true falls misplaced first second third h = absurd (cc)
no_sector_fault false true misplaced first second third h = absurd (cc)
no_sector_fault false false true first second third h = absurd (cc)
no_sector_fault false false false first second third h = (refl, refl, refl)

faultless_from : (total number : ℕ) (city : City) (day : Day) (behind_surface : Bool) (flown : Sector) → sector_fault total number city day behind_surface flown ≡ None → Faultless total number city day behind_surface flown
faultless_from total number city day behind_surface flown h =
    let found = no_sector_fault (bytes_eq flown.to city) (nat_lt (day_number flown.day) (day_number day)) (is_misplaced total number behind_surface flown) (fault.SameCity number) (fault.DatesFall number) (fault.SurfacePlace number) h in
    record {
      reaches_another = found.0;
      rises = grind (arith, nat_tests);
      in_place = found.2;
    }

-- the sector before the one at a place counted from 0, which the first city and the sale day stand for at the start
abbrev pub before : Itinerary → ℕ → Sector
before trip k = slice_index_or (led trip.from trip.sale ∷ trip.sectors) k no_sector

-- the number after k - 1 is k
less_one : (k : ℕ) → suc k - 1 ≡ k
less_one k = omega arith

not_zero : (k : ℕ) → (suc k == 0) ≡ false
not_zero k = grind (arith, nat_tests)

not_one : (k : ℕ) → (suc (suc k) == 1) ≡ false
not_one k = grind (arith, nat_tests)

point-before : (trip : Itinerary) (k : ℕ) → point trip k ≡ (before trip k).to
point-before trip zero = refl
point-before trip (suc k) = rw (not_zero k, less_one k)

day_before-before : (trip : Itinerary) (k : ℕ) → day_before trip (suc k) ≡ (before trip k).day
day_before-before trip zero = refl
day_before-before trip (suc k) = rw (not_one k, less_one (suc k), less_one k)

sector-suc : (trip : Itinerary) (k : ℕ) → sector trip (suc k) ≡ slice_index_or trip.sectors k no_sector
sector-suc trip k = rw (less_one k)

-- what each sector of a trip meets behind the one before it, with places counted from 0
faultless_sector : (trip : Itinerary) → MadeOf trip.sectors trip.from trip.sale → (k : ℕ) → k < count trip → Faultless (count trip) (1 + k) (before trip k).to (before trip k).day (before trip k).surface (slice_index_or trip.sectors k no_sector)
faultless_sector trip made k k_in = faultless_from (count trip) (1 + k) (before trip k).to (before trip k).day (before trip k).surface (slice_index_or trip.sectors k no_sector) (faultless-at trip.sectors (led trip.from trip.sale) (count trip) 1 k made.faultless k_in)

-- a text differs from one that `bytes_eq` tells apart from it
apart : (a b : List ℕ) → bytes_eq a b ≡ false → b ≢ a
apart a b differ same =
    let told = rw differ at (bytes_eq-Decides a b) in
    let wrong : false ≡ true = told.1 (sym same) in
    absurd (cc)

points_differ_at : (trip : Itinerary) → MadeOf trip.sectors trip.from trip.sale → (k : ℕ) → k < count trip → point trip k ≢ point trip (suc k)
points_differ_at trip made k k_in = rw (point-before trip k, point-before trip (suc k)) (apart _ _ (faultless_sector trip made k k_in).reaches_another)

days_never_fall_at : (trip : Itinerary) → MadeOf trip.sectors trip.from trip.sale → (k : ℕ) → k < count trip → day_number (day_before trip (suc k)) ≤ day_number (sector trip (suc k)).day
days_never_fall_at trip made k k_in = rw (day_before-before trip k, sector-suc trip k) (faultless_sector trip made k k_in).rises

-- a sector in its place is flown where a surface sector may not stand
flown_where_barred : (surface bars : Bool) → (surface && bars) ≡ false → bars ≡ true → surface ≡ false
flown_where_barred false bars in_place barred = refl
flown_where_barred true false in_place barred = absurd (cc)
flown_where_barred true true in_place barred = absurd (cc)

second_of_three : (a b c : Bool) → b ≡ true → (a || b || c) ≡ true
second_of_three true b c h = refl
second_of_three false true c h = refl
second_of_three false false c h = absurd (cc)

third_of_three : (a b c : Bool) → c ≡ true → (a || b || c) ≡ true
third_of_three true b c h = refl
third_of_three false true c h = refl
third_of_three false false true h = refl
third_of_three false false false h = absurd (cc)

-- where a surface sector may not stand
abbrev bars : Itinerary → ℕ → Bool
bars trip k = (1 + k == 1) || (1 + k == count trip) || (before trip k).surface

flown_at : (trip : Itinerary) → MadeOf trip.sectors trip.from trip.sale → (k : ℕ) → k < count trip → bars trip k ≡ true → (slice_index_or trip.sectors k no_sector).surface ≡ false
flown_at trip made k k_in barred = flown_where_barred _ _ (faultless_sector trip made k k_in).in_place barred

next_after : (number : ℕ) → 1 ≤ number → suc (number - 1) ≡ number
next_after number from_one = omega arith

surface_apart : (trip : Itinerary) → MadeOf trip.sectors trip.from trip.sale → (k number : ℕ) → suc k ≡ number → number < count trip → (slice_index_or trip.sectors k no_sector).surface ≡ true → (sector trip (number + 1)).surface ≡ false
surface_apart trip made k number is_next below_count is_surface =
    let same : number + 1 - 1 ≡ suc k = omega arith in
    rw same (flown_at trip made (suc k) (omega arith) (third_of_three (1 + suc k == 1) (1 + suc k == count trip) (before trip (suc k)).surface is_surface))

-- what holds of every trip that was made
pub is_trip : (trip : Itinerary) → make_trip trip.sale trip.from trip.sectors ≡ Ok trip → IsTrip trip
is_trip trip h =
    let made = made_of trip.sale trip.from trip.sectors trip h in
    record {
      some = made.some;
      at_most = made.at_most;
      points_differ = λ number from_one to_count. let P : ℕ → Type 0 = λ n. point trip (number - 1) ≢ point trip n in subst P (next_after number from_one) (points_differ_at trip made (number - 1) (omega arith));
      days_never_fall = λ number from_one to_count. let P : ℕ → Type 0 = λ n. day_number (day_before trip n) ≤ day_number (sector trip n).day in subst P (next_after number from_one) (days_never_fall_at trip made (number - 1) (omega arith));
      first_flown = flown_at trip made 0 (omega arith) refl;
      last_flown = flown_at trip made (count trip - 1) (omega arith) (second_of_three (1 + (count trip - 1) == 1) (1 + (count trip - 1) == count trip) (before trip (count trip - 1)).surface (grind (arith, nat_tests)));
      surfaces_apart = λ number from_one below_count is_surface. surface_apart trip made (number - 1) number (next_after number from_one) below_count is_surface;
    }
