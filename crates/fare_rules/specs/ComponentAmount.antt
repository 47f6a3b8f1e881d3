-- Component amount: what a fare costs for a span, one test a condition.
use Rattle.std.specs.Prelude.{ℕ, ◌+◌, Bool, true, not, Option, Some, None, bytes_eq, option_and_then, option_map}
use Rattle.std.specs.Prelude.{is_some, nat_le, ◌&&◌, ◌||◌, if◌then◌else◌}
use Rattle.std.specs.List.{list_any, list_all}
use Rattle.fare_codes.specs.declared.cabin.Cabin.{Cabin}
use Rattle.fare_codes.specs.declared.cabin.Cabin.TheVariants.{F, C, Y}
use Rattle.fare_codes.specs.declared.carrier.Carrier.{Carrier}
use Rattle.fare_codes.specs.declared.city.City.{City}
use Rattle.fare_codes.specs.declared.kind.Kind.TheVariants.{HR}
use Rattle.fare_codes.specs.declared.nuc.Nuc.{Nuc}
use Rattle.fare_codes.specs.Amounts.{surcharged}
use Rattle.fare_codes.specs.Day.{month_day_of}
use Rattle.fare_codes.specs.Season.{season_holds}
use Rattle.fare_trip.specs.Itinerary.{Itinerary, sector, point}
use Rattle.fare_records.specs.Record.{FareRecord}
use Rattle.fare_tariff.specs.Tariff.{Tariff}
use Rattle.fare_codes.specs.Same.{same_indicator, same_kind}
use Rattle.fare_tariff.specs.Lookup.{fare_at}
use Rattle.fare_rules.specs.declared.amount.Amount.{Amount}
use Rattle.fare_rules.specs.Numbers.{numbers}
use Rattle.fare_rules.specs.Span.{sectors, holds_surface, first_day}
use Rattle.fare_rules.specs.Indicator.{indicator}
use Rattle.fare_rules.specs.Mileage.{mileage, surcharge_of}
use Rattle.fare_rules.specs.Terms.{term_holds, terms_of_fare, allows_surcharge, stops_hold, transfers_hold}
use Rattle.fare_rules.specs.Terms.{advance_holds}
use Rattle.fare_rules.specs.Reference.{every_carrier}
use Rattle.fare_rules.specs.Base.{base}

-- two points are the same city
abbrev pub is_same_city : Itinerary → ℕ → ℕ → Bool
is_same_city trip i j = bytes_eq (point trip i) (point trip j)

-- a point of a span that begins at a point a is the city of an earlier point of it
abbrev pub is_repeated : Itinerary → ℕ → ℕ → Bool
is_repeated trip a i = list_any (is_same_city trip i) (numbers a i)

-- two points of a span are one city
unfoldable pub repeats_city : Itinerary → ℕ → ℕ → Bool
repeats_city trip a b = list_any (is_repeated trip a) (numbers a (b + 1))

-- a fare is filed from a city to another
abbrev pub is_filed_between : FareRecord → City → City → Bool
is_filed_between fare from to = bytes_eq fare.from from && bytes_eq fare.to to

-- a fare runs between the ends of a span: from its start, or from its end where it is priced back
unfoldable pub runs_between : Itinerary → ℕ → ℕ → Bool → FareRecord → Bool
runs_between trip a b back fare =
    if back then is_filed_between fare (point trip b) (point trip a)
    else is_filed_between fare (point trip a) (point trip b)

-- a fare is a half round trip, and not one way
abbrev pub is_half_round_trip : FareRecord → Bool
is_half_round_trip fare = same_kind fare.kind HR

-- only a half round trip is priced back
abbrev pub may_be_priced : Bool → FareRecord → Bool
may_be_priced back fare = not back || is_half_round_trip fare

-- a fare has the indicator of a span
unfoldable pub has_indicator : Tariff → Itinerary → ℕ → ℕ → FareRecord → Bool
has_indicator tariff trip a b fare = same_indicator fare.ind (indicator tariff trip a b)

-- the rank of a cabin, or of a class
abbrev pub rank : Cabin → ℕ
rank F = 3
rank C = 2
rank Y = 1

-- a class has at least the rank of the cabin of a sector
abbrev pub covers_cabin : Itinerary → Cabin → ℕ → Bool
covers_cabin trip class number = nat_le (rank (sector trip number).cabin) (rank class)

-- the class of a fare covers the cabins of a span
unfoldable pub covers_cabins : Itinerary → ℕ → ℕ → FareRecord → Bool
covers_cabins trip a b fare = list_all (covers_cabin trip fare.class) (sectors a b)

-- a sector is by a carrier
abbrev pub is_carried_by : Itinerary → Carrier → ℕ → Bool
is_carried_by trip carrier number = bytes_eq (sector trip number).carrier carrier

-- the carrier of a fare is `YY` or that of each sector of a span
unfoldable pub covers_carriers : Itinerary → ℕ → ℕ → FareRecord → Bool
covers_carriers trip a b fare =
    bytes_eq fare.carrier every_carrier || list_all (is_carried_by trip fare.carrier) (sectors a b)

-- the season of a fare holds the day of the first sector of what begins at a point
unfoldable pub in_season : Itinerary → ℕ → FareRecord → Bool
in_season trip a fare = season_holds fare.season (month_day_of (first_day trip a))

-- the surcharge that the mileage of a span asks for, where it lets a fare be used
unfoldable pub span_surcharge : Tariff → Itinerary → ℕ → ℕ → Option ℕ
span_surcharge tariff trip a b = surcharge_of (mileage tariff trip a b (indicator tariff trip a b))

-- the mileage of a span lets a fare be used
abbrev pub mileage_holds : Tariff → Itinerary → ℕ → ℕ → Bool
mileage_holds tariff trip a b = is_some (span_surcharge tariff trip a b)

-- a surcharge, where there is one, is allowed by the rule of a fare
abbrev pub is_allowed : Tariff → FareRecord → Option ℕ → Bool
is_allowed tariff fare None = true
is_allowed tariff fare (Some step) = term_holds (allows_surcharge step) (terms_of_fare tariff fare)

-- the surcharge of a span is allowed by the rule of a fare
abbrev pub excess_holds : Tariff → Itinerary → ℕ → ℕ → FareRecord → Bool
excess_holds tariff trip a b fare = is_allowed tariff fare (span_surcharge tariff trip a b)

-- a fare may be used for a span, priced back or not
unfoldable pub is_applicable : Tariff → Itinerary → ℕ → ℕ → Bool → FareRecord → Bool
is_applicable tariff trip a b back fare =
    not (holds_surface trip a b) && not (repeats_city trip a b)
    && runs_between trip a b back fare && may_be_priced back fare
    && has_indicator tariff trip a b fare && covers_cabins trip a b fare && covers_carriers trip a b fare
    && in_season trip a fare
    && stops_hold tariff trip a b fare && transfers_hold tariff trip a b fare && advance_holds tariff trip fare
    && mileage_holds tariff trip a b && excess_holds tariff trip a b fare

-- a base with a surcharge, rounded down
abbrev pub amount_from : Nuc → ℕ → Amount
amount_from base step = record { base = base; surcharge = step; amount = surcharged base step }

-- the amount of a fare for a span, where it may be used
unfoldable pub fare_amount : Tariff → Itinerary → ℕ → ℕ → Bool → FareRecord → Option Amount
fare_amount tariff trip a b back fare =
    if is_applicable tariff trip a b back fare
    then option_map (amount_from (base tariff trip a b fare back)) (span_surcharge tariff trip a b)
    else None

-- the component amount of a span for the fare of a record number, priced back or not; none where it is not defined
unfoldable pub component_amount : Tariff → Itinerary → ℕ → ℕ → ℕ → Bool → Option Amount
component_amount tariff trip a b number back =
    option_and_then (fare_amount tariff trip a b back) (fare_at tariff number)
