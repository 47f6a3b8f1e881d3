-- The records of a tariff, as the rules see them, and the ranges of their numbers.
use Rattle.std.specs.Prelude.{ℕ, ◌<◌, ◌≤◌, Bool, length, Option}
use Rattle.fare_codes.specs.declared.city.City.{City}
use Rattle.fare_codes.specs.declared.country.Country.{Country}
use Rattle.fare_codes.specs.declared.currency.Currency.{Currency}
use Rattle.fare_codes.specs.declared.carrier.Carrier.{Carrier}
use Rattle.fare_codes.specs.declared.rule_id.RuleId.{RuleId}
use Rattle.fare_codes.specs.declared.indicator.Indicator.{Indicator}
use Rattle.fare_codes.specs.declared.cabin.Cabin.{Cabin}
use Rattle.fare_codes.specs.declared.kind.Kind.{Kind}
use Rattle.fare_codes.specs.declared.mode.Mode.{Mode}
use Rattle.fare_codes.specs.declared.nuc.Nuc.{Nuc}
use Rattle.fare_codes.specs.declared.season.Season.{Season}
use Rattle.fare_codes.specs.declared.decimals.TheConstants.{RATE_LIMIT}
use Rattle.fare_codes.specs.declared.limits.TheConstants.{MOST_DECIMALS, MOST_UNIT}
use Rattle.fare_records.specs.declared.limits.TheConstants.{MOST_DAYS, MOST_NAMES, MOST_STOPS, MOST_TRANSFERS}
use Rattle.fare_records.specs.declared.names.Names.{Names}
use Rattle.fare_records.specs.declared.names.Names.TheVariants.{All, Of}

-- a country's currency: its rate of exchange in millionths, and how its amounts are rounded
pub record CurrencyRecord : Type 0 where
  pub country : Country
  pub currency : Currency
  pub roe : ℕ
  pub decimals : ℕ
  pub unit : ℕ
  pub mode : Mode

-- a rate is above zero and has at most seven digits before its point, an amount has at most two decimals, and a unit is
-- 1 to 10,000
pub record IsCurrency (roe decimals unit : ℕ) : Type 0 where
  pub rate_above_zero : 0 < roe
  pub rate_in_form : roe < RATE_LIMIT
  pub decimals_in_range : decimals ≤ MOST_DECIMALS
  pub unit_above_zero : 0 < unit
  pub unit_in_range : unit ≤ MOST_UNIT

-- a rule: its terms, and the rules with which its fares may be combined
pub record RuleRecord : Type 0 where
  pub id : RuleId
  pub stops : ℕ
  pub transfers : ℕ
  pub advance : ℕ
  pub min_stay : ℕ
  pub max_stay : ℕ
  pub excess : Bool
  pub units : Names
  pub ends : Names

-- how many names a list has that isn't `*`
abbrev pub name_count : Names → ℕ
name_count All = 0
name_count (Of names) = length names

-- a rule's numbers are in their ranges, and so are the lengths of its lists
pub record IsRule (rule : RuleRecord) : Type 0 where
  pub stops : rule.stops ≤ MOST_STOPS
  pub transfers : rule.transfers ≤ MOST_TRANSFERS
  pub advance : rule.advance ≤ MOST_DAYS
  pub min_stay : rule.min_stay ≤ MOST_DAYS
  pub max_stay : rule.max_stay ≤ MOST_DAYS
  pub units : name_count rule.units ≤ MOST_NAMES
  pub ends : name_count rule.ends ≤ MOST_NAMES

-- a filed fare; a rule of nothing is the free rule
pub record FareRecord : Type 0 where
  pub from : City
  pub to : City
  pub ind : Indicator
  pub carrier : Carrier
  pub class : Cabin
  pub kind : Kind
  pub rule : Option RuleId
  pub season : Season
  pub amount : Nuc

-- the maximum permitted mileage of an unordered pair of cities and an indicator
pub record MileageRecord : Type 0 where
  pub from : City
  pub to : City
  pub ind : Indicator
  pub miles : ℕ

-- the ticketed point mileage of an unordered pair of cities
pub record PairRecord : Type 0 where
  pub from : City
  pub to : City
  pub miles : ℕ

-- the extra mileage allowance of an unordered pair of cities and an indicator, by way of a city or of any
pub record AllowanceRecord : Type 0 where
  pub from : City
  pub to : City
  pub ind : Indicator
  pub via : Option City
  pub miles : ℕ
