-- Example trips, sold on 1 March 2025.
use Prim.Native.String.{String}
use Rattle.std.specs.Prelude.{[], ◌∷◌, true, false}
use Rattle.fare_codes.specs.declared.cabin.Cabin.TheVariants.{C}
use Rattle.fare_codes.specs.declared.over.Over.TheVariants.{Unmarked}
use Rattle.fare_trip.specs.Itinerary.{Itinerary}
use Rattle.fare_rules.proofs.Filed.{sold, stop, change, overland, detailed}

-- London to Rome with a stopover in Paris
abbrev pub stopping_in_paris : Itinerary
stopping_in_paris = sold (stop "PAR" "Q1" "2025-04-10" ∷ stop "ROM" "Q1" "2025-04-12" ∷ [])

-- London to Rome with a transfer in Paris
abbrev pub changing_in_paris : Itinerary
changing_in_paris = sold (change "PAR" "Q1" "2025-04-10" ∷ stop "ROM" "Q1" "2025-04-12" ∷ [])

-- the first of them in business class
abbrev pub in_business : Itinerary
in_business = sold (
    detailed "PAR" "Q1" "2025-04-10" C Unmarked true false
    ∷ stop "ROM" "Q1" "2025-04-12"
    ∷ [])

-- London to Rome in one sector, on some day
abbrev pub straight_to_rome : String → Itinerary
straight_to_rome day = sold (stop "ROM" "Q1" day ∷ [])

-- London to Rome and back
abbrev pub rome_and_back : Itinerary
rome_and_back = sold (stop "ROM" "Q1" "2025-04-10" ∷ stop "LON" "Q1" "2025-04-12" ∷ [])

-- London to Manchester and back
abbrev pub manchester_and_back : Itinerary
manchester_and_back = sold (stop "MAN" "Q1" "2025-04-10" ∷ stop "LON" "Q1" "2025-04-12" ∷ [])

-- London by way of Paris to Rome, and back by way of Paris
abbrev pub paris_twice : Itinerary
paris_twice = sold (
    stop "PAR" "Q1" "2025-04-10"
    ∷ stop "ROM" "Q1" "2025-04-12"
    ∷ stop "PAR" "Q1" "2025-04-14"
    ∷ stop "LON" "Q1" "2025-04-16"
    ∷ [])

-- London, Tokyo, Los Angeles, London
abbrev pub by_the_pacific : Itinerary
by_the_pacific = sold (
    stop "TYO" "Q1" "2025-04-10"
    ∷ stop "LAX" "Q1" "2025-04-20"
    ∷ stop "LON" "Q1" "2025-04-25"
    ∷ [])

-- London to Los Angeles and back
abbrev pub los_angeles_and_back : Itinerary
los_angeles_and_back = sold (stop "LAX" "Q1" "2025-04-10" ∷ stop "LON" "Q1" "2025-04-20" ∷ [])

-- round the world on two carriers, with a transfer in Frankfurt
abbrev pub on_two_carriers : Itinerary
on_two_carriers = sold (
    change "FRA" "Q1" "2025-04-10"
    ∷ stop "TYO" "Q1" "2025-04-10"
    ∷ stop "LAX" "Q2" "2025-04-20"
    ∷ stop "NYC" "Q2" "2025-04-25"
    ∷ stop "LON" "Q2" "2025-05-01"
    ∷ [])

-- London to Paris, over land to Lyon, and back from there
abbrev pub back_from_lyon : Itinerary
back_from_lyon = sold (
    stop "PAR" "Q1" "2025-04-10"
    ∷ overland "LYS" "Q1" "2025-04-12"
    ∷ stop "LON" "Q1" "2025-04-16"
    ∷ [])

-- London to Paris, over land to Lyon, and on to Rome
abbrev pub on_from_lyon : Itinerary
on_from_lyon = sold (
    stop "PAR" "Q1" "2025-04-10"
    ∷ overland "LYS" "Q1" "2025-04-12"
    ∷ stop "ROM" "Q1" "2025-04-16"
    ∷ [])

-- London to Paris and back, twice
abbrev pub there_and_back_twice : Itinerary
there_and_back_twice = sold (
    stop "PAR" "Q1" "2025-04-10"
    ∷ stop "LON" "Q1" "2025-04-12"
    ∷ stop "PAR" "Q1" "2025-04-14"
    ∷ stop "LON" "Q1" "2025-04-16"
    ∷ [])

-- London to Paris, and to Manchester
abbrev pub on_to_manchester : Itinerary
on_to_manchester = sold (stop "PAR" "Q1" "2025-04-10" ∷ stop "MAN" "Q1" "2025-04-12" ∷ [])

-- London to Paris, and home by way of Manchester
abbrev pub back_by_manchester : Itinerary
back_by_manchester = sold (
    stop "PAR" "Q1" "2025-04-10"
    ∷ stop "MAN" "Q1" "2025-04-12"
    ∷ stop "LON" "Q1" "2025-04-14"
    ∷ [])

-- London to Paris, from there to New York and back, and home by way of Rome
abbrev pub new_york_from_paris : Itinerary
new_york_from_paris = sold (
    stop "PAR" "Q1" "2025-04-10"
    ∷ stop "NYC" "Q1" "2025-04-12"
    ∷ stop "PAR" "Q1" "2025-04-14"
    ∷ stop "ROM" "Q1" "2025-04-16"
    ∷ stop "LON" "Q1" "2025-04-18"
    ∷ [])

-- London to Paris in April, and home by way of Rome in May
abbrev pub rome_in_may : Itinerary
rome_in_may = sold (
    stop "PAR" "Q1" "2025-04-10"
    ∷ stop "ROM" "Q1" "2025-05-12"
    ∷ stop "LON" "Q1" "2025-05-20"
    ∷ [])
