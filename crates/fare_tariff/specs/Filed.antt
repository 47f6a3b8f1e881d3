-- What holds of the records that an edition's look-ups find, since no record of an edition has a check kind.
use Rattle.std.specs.Prelude.{◌≡◌, ◌≢◌, ◌<◌, ◌≤◌, ℕ, true, IsSome, IsSomeAnd}
use Rattle.fare_codes.specs.declared.city.City.{City}
use Rattle.fare_codes.specs.declared.indicator.Indicator.{Indicator}
use Rattle.fare_codes.specs.declared.month_day.MonthDay.{MonthDay}
use Rattle.fare_codes.specs.declared.nuc.TheConstants.{FARE_LIMIT}
use Rattle.fare_codes.specs.Season.{season_holds}
use Rattle.fare_records.specs.declared.limits.TheConstants.{MOST_DAYS, MOST_STOPS, MOST_TRANSFERS}
use Rattle.fare_records.specs.declared.city_record.CityRec.{CityRec}
use Rattle.fare_records.specs.declared.fare_key.FareKey.{FareKey}
use Rattle.fare_records.specs.declared.terms.Terms.{Terms}
use Rattle.fare_records.specs.Record.{FareRecord}
use Rattle.fare_tariff.specs.Tariff.{Tariff}
use Rattle.fare_tariff.specs.Lookup.{city_record, currency_of, fare_at, has_key, terms}

-- the record of a city has its code, and its country has a currency
pub record IsFiledCity (tariff : Tariff) (city : City) (r : CityRec) : Type 0 where
  pub code : r.code ≡ city
  pub currency : IsSome (currency_of tariff r.country)

-- a fare is below 10,000,000.00, its two cities differ and are filed, and so is its rule, where it isn't the free rule
pub record IsFiledFare (tariff : Tariff) (fare : FareRecord) : Type 0 where
  pub in_form : fare.amount < FARE_LIMIT
  pub points_differ : fare.from ≢ fare.to
  pub from_known : IsSome (city_record tariff fare.from)
  pub to_known : IsSome (city_record tariff fare.to)
  pub rule_known : IsSome (terms tariff fare.rule)

-- a fare has a key, and its season holds a day
pub record IsFareOn (key : FareKey) (on : MonthDay) (fare : FareRecord) : Type 0 where
  pub of_key : has_key key fare ≡ true
  pub in_season : season_holds fare.season on ≡ true

-- the record of a number files a fare with a key whose season holds a day
abbrev pub FilesFareOn : Tariff → FareKey → MonthDay → ℕ → Type 0
FilesFareOn tariff key on number = IsSomeAnd (fare_at tariff number) (IsFareOn key on)

-- a fare is filed from a city to another for an indicator
pub record IsFareBetween (from to : City) (ind : Indicator) (fare : FareRecord) : Type 0 where
  pub of_from : fare.from ≡ from
  pub of_to : fare.to ≡ to
  pub of_ind : fare.ind ≡ ind

-- terms are in the ranges of a rule's record; the greatest stay of the free rule alone is above what one states
pub record AreInRange (terms : Terms) : Type 0 where
  pub stops : terms.stops ≤ MOST_STOPS
  pub transfers : terms.transfers ≤ MOST_TRANSFERS
  pub advance : terms.advance ≤ MOST_DAYS
  pub min_stay : terms.min_stay ≤ MOST_DAYS
