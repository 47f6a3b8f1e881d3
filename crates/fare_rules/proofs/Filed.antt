-- Records and sectors written with their texts, for examples.
use Prim.Native.String.{String}
use Rattle.std.specs.Prelude.{ℕ, Bool, true, false, List, Option, Some, None, codes}
use Rattle.fare_codes.specs.declared.area.Area.{Area}
use Rattle.fare_codes.specs.declared.cabin.Cabin.{Cabin}
use Rattle.fare_codes.specs.declared.cabin.Cabin.TheVariants.{Y}
use Rattle.fare_codes.specs.declared.indicator.Indicator.{Indicator}
use Rattle.fare_codes.specs.declared.kind.Kind.{Kind}
use Rattle.fare_codes.specs.declared.mode.Mode.{Mode}
use Rattle.fare_codes.specs.declared.over.Over.{Over}
use Rattle.fare_codes.specs.declared.over.Over.TheVariants.{Unmarked}
use Rattle.fare_codes.specs.declared.rule_id.RuleId.{RuleId}
use Rattle.fare_trip.specs.declared.sector.Sector.{Sector}
use Rattle.fare_trip.specs.Itinerary.{Itinerary}
use Rattle.fare_records.specs.declared.names.Names.{Names}
use Rattle.fare_records.specs.declared.record.Record.{Record}
use Rattle.fare_records.specs.declared.record.Record.TheVariants as filed
use Rattle.fare_tariff.specs.Tariff.{Tariff}
use Rattle.fare_rules.specs.declared.part.Part.{Part}

-- a city with its country and area
abbrev pub city : String → String → Area → Record
city code country area = filed.City (record { code = codes code; country = codes country; area = area })

-- the currency of a country, with its rate in millionths, its decimals, its unit and its mode
abbrev pub currency : String → String → ℕ → ℕ → ℕ → Mode → Record
currency country code roe decimals unit mode =
    filed.Cur (record { country = codes country; currency = codes code; roe = roe; decimals = decimals; unit = unit; mode = mode })

-- the free rule
abbrev pub free : Option RuleId
free = None

-- a rule by its id
abbrev pub under : String → Option RuleId
under id = Some (codes id)

-- a rule with its numbers and its two lists
abbrev pub rule : String → ℕ → ℕ → ℕ → ℕ → ℕ → Bool → Names → Names → Record
rule id stops transfers advance min_stay max_stay excess units ends =
    filed.Rule (record { id = codes id; stops = stops; transfers = transfers; advance = advance; min_stay = min_stay; max_stay = max_stay; excess = excess; units = units; ends = ends })

-- a fare of a season
abbrev pub seasonal : String → String → Indicator → String → Cabin → Kind → Option RuleId → String → String → ℕ → Record
seasonal from to ind carrier class kind rule first last amount =
    filed.Fare (record { from = codes from; to = codes to; ind = ind; carrier = codes carrier; class = class; kind = kind; rule = rule; season = record { first = codes first; last = codes last }; amount = amount })

-- a fare of the whole year
abbrev pub fare : String → String → Indicator → String → Cabin → Kind → Option RuleId → ℕ → Record
fare from to ind carrier class kind rule amount = seasonal from to ind carrier class kind rule "01-01" "12-31" amount

-- a maximum permitted mileage
abbrev pub permitted : String → String → Indicator → ℕ → Record
permitted from to ind miles = filed.Mpm (record { from = codes from; to = codes to; ind = ind; miles = miles })

-- a ticketed point mileage
abbrev pub ticketed : String → String → ℕ → Record
ticketed from to miles = filed.Tpm (record { from = codes from; to = codes to; miles = miles })

-- an extra mileage allowance by way of a city
abbrev pub allowance : String → String → Indicator → String → ℕ → Record
allowance from to ind via miles = filed.Ema (record { from = codes from; to = codes to; ind = ind; via = Some (codes via); miles = miles })

-- an extra mileage allowance by any way
abbrev pub allowance_anyhow : String → String → Indicator → ℕ → Record
allowance_anyhow from to ind miles = filed.Ema (record { from = codes from; to = codes to; ind = ind; via = None; miles = miles })

-- an edition of some records
abbrev pub edition : List Record → Tariff
edition records = record { number = 1; effective = codes "2025-01-01"; records = records }

-- a sector in each detail
abbrev pub detailed : String → String → String → Cabin → Over → Bool → Bool → Sector
detailed to carrier day cabin over stop surface =
    record { to = codes to; carrier = codes carrier; day = codes day; cabin = cabin; over = over; stop = stop; surface = surface }

-- a flight in economy that ends in a stopover
abbrev pub stop : String → String → String → Sector
stop to carrier day = detailed to carrier day Y Unmarked true false

-- a flight in economy that ends in a transfer
abbrev pub change : String → String → String → Sector
change to carrier day = detailed to carrier day Y Unmarked false false

-- a surface sector
abbrev pub overland : String → String → String → Sector
overland to carrier day = detailed to carrier day Y Unmarked true true

-- a trip by its sale day, its first city and its sectors
abbrev pub trip : String → String → List Sector → Itinerary
trip sale from sectors = record { sale = codes sale; from = codes from; sectors = sectors }

-- a trip from London that is sold on 1 March 2025, by its sectors
abbrev pub sold : List Sector → Itinerary
sold sectors = trip "2025-03-01" "LON" sectors

-- a part
abbrev pub part : ℕ → ℕ → ℕ → Part
part end unit fare = record { end = end; unit = unit; fare = fare }
