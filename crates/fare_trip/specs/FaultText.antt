-- The texts of faults, each without the LF that ends its line.
use Rattle.std.specs.Prelude.{ℕ, List, [], ◌++◌, codes, decimal}
use Rattle.fare_trip.specs.declared.fault.Member.{Member}
use Rattle.fare_trip.specs.declared.fault.Member.TheVariants.{Trip, Sale, From, Sectors, Sector, To, Carrier, Day}
use Rattle.fare_trip.specs.declared.fault.Member.TheVariants.{Cabin, Over, Stop, Surface}
use Rattle.fare_trip.specs.declared.fault.TripFault.{TripFault}
use Rattle.fare_trip.specs.declared.fault.TripFault.TheVariants.{Memory, NotJson, Missing, Bad, NoSectors, TooMany}
use Rattle.fare_trip.specs.declared.fault.TripFault.TheVariants.{SameCity, DatesFall, SurfacePlace}

-- a member's name is written in small letters
abbrev pub member_name : Member → List ℕ
member_name Trip = codes "trip"
member_name Sale = codes "sale"
member_name From = codes "from"
member_name Sectors = codes "sectors"
member_name Sector = codes "sector"
member_name To = codes "to"
member_name Carrier = codes "carrier"
member_name Day = codes "day"
member_name Cabin = codes "cabin"
member_name Over = codes "over"
member_name Stop = codes "stop"
member_name Surface = codes "surface"

-- `TRIP`, the fault's name, the member where it has one and the number where it has one; want of memory has no text
abbrev pub fault_text : TripFault → List ℕ
fault_text Memory = []
fault_text NotJson = codes "TRIP NotJson"
fault_text (Missing member number) = codes "TRIP Missing " ++ member_name member ++ codes " " ++ decimal number
fault_text (Bad member number) = codes "TRIP Bad " ++ member_name member ++ codes " " ++ decimal number
fault_text NoSectors = codes "TRIP NoSectors"
fault_text (TooMany number) = codes "TRIP TooMany " ++ decimal number
fault_text (SameCity number) = codes "TRIP SameCity " ++ decimal number
fault_text (DatesFall number) = codes "TRIP DatesFall " ++ decimal number
fault_text (SurfacePlace number) = codes "TRIP SurfacePlace " ++ decimal number
