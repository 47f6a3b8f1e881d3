-- When two records are equal: they are of one kind, and all their fields are equal, in their places.
use Rattle.std.specs.Prelude.{Bool, true, false, not, ◌&&◌, ◌==◌, List, [], ◌∷◌, Option, bytes_eq, if◌then◌else◌}
use Rattle.fare_codes.specs.declared.area.Area.{Area}
use Rattle.fare_codes.specs.declared.area.Area.TheVariants.{One, Two, Three}
use Rattle.fare_codes.specs.declared.mode.Mode.{Mode}
use Rattle.fare_codes.specs.declared.mode.Mode.TheVariants.{Up, Nearest}
use Rattle.fare_codes.specs.declared.rule_id.RuleId.{RuleId}
use Rattle.fare_codes.specs.Same.{same_indicator, same_cabin, same_kind, same_season}
use Rattle.fare_records.specs.declared.names.Names.{Names}
use Rattle.fare_records.specs.declared.names.Names.TheVariants.{All, Of}
use Rattle.fare_records.specs.declared.city_record.CityRec.{CityRec}
use Rattle.fare_records.specs.declared.record.Record.{Record}
use Rattle.fare_records.specs.declared.record.Record.TheVariants as filed
use Rattle.fare_records.specs.Record.{CurrencyRecord, RuleRecord, FareRecord, MileageRecord, PairRecord, AllowanceRecord}
use Rattle.fare_records.specs.Fields.{same_rule, same_via}

-- two areas are the same
abbrev pub same_area : Area → Area → Bool
same_area One One = true
same_area Two Two = true
same_area Three Three = true
same_area _ _ = false

-- two modes of rounding are the same
abbrev pub same_mode : Mode → Mode → Bool
same_mode Up Up = true
same_mode Nearest Nearest = true
same_mode _ _ = false

-- two flags are the same
abbrev pub same_flag : Bool → Bool → Bool
same_flag a b = if a then b else not b

-- two lists have the same names in the same order
abbrev pub same_list : List (Option RuleId) → List (Option RuleId) → Bool
same_list [] [] = true
same_list (a ∷ xs) (b ∷ ys) = same_rule a b && same_list xs ys
same_list _ _ = false

-- two fields of names are the same: both `*`, or the same lists
abbrev pub same_names : Names → Names → Bool
same_names All All = true
same_names (Of a) (Of b) = same_list a b
same_names _ _ = false

-- the fields of two CITY records
abbrev pub same_city_record : CityRec → CityRec → Bool
same_city_record a b = bytes_eq a.code b.code && bytes_eq a.country b.country && same_area a.area b.area

-- those of two CUR records
abbrev pub same_currency_record : CurrencyRecord → CurrencyRecord → Bool
same_currency_record a b =
    bytes_eq a.country b.country && bytes_eq a.currency b.currency && (a.roe == b.roe) && (a.decimals == b.decimals)
    && (a.unit == b.unit) && same_mode a.mode b.mode

-- those of two RULE records
abbrev pub same_rule_record : RuleRecord → RuleRecord → Bool
same_rule_record a b =
    bytes_eq a.id b.id && (a.stops == b.stops) && (a.transfers == b.transfers) && (a.advance == b.advance)
    && (a.min_stay == b.min_stay) && (a.max_stay == b.max_stay) && same_flag a.excess b.excess
    && same_names a.units b.units && same_names a.ends b.ends

-- those of two FARE records
abbrev pub same_fare_record : FareRecord → FareRecord → Bool
same_fare_record a b =
    bytes_eq a.from b.from && bytes_eq a.to b.to && same_indicator a.ind b.ind && bytes_eq a.carrier b.carrier
    && same_cabin a.class b.class && same_kind a.kind b.kind && same_rule a.rule b.rule
    && same_season a.season b.season && (a.amount == b.amount)

-- those of two MPM records, whose cities stand in their places
abbrev pub same_mileage_record : MileageRecord → MileageRecord → Bool
same_mileage_record a b =
    bytes_eq a.from b.from && bytes_eq a.to b.to && same_indicator a.ind b.ind && (a.miles == b.miles)

-- those of two TPM records: one with its cities turned round is another record
abbrev pub same_pair_record : PairRecord → PairRecord → Bool
same_pair_record a b = bytes_eq a.from b.from && bytes_eq a.to b.to && (a.miles == b.miles)

-- those of two EMA records
abbrev pub same_allowance_record : AllowanceRecord → AllowanceRecord → Bool
same_allowance_record a b =
    bytes_eq a.from b.from && bytes_eq a.to b.to && same_indicator a.ind b.ind && same_via a.via b.via
    && (a.miles == b.miles)

-- two records are of one kind and have equal fields
unfoldable pub same_record : Record → Record → Bool
same_record (filed.City a) (filed.City b) = same_city_record a b
same_record (filed.Cur a) (filed.Cur b) = same_currency_record a b
same_record (filed.Rule a) (filed.Rule b) = same_rule_record a b
same_record (filed.Fare a) (filed.Fare b) = same_fare_record a b
same_record (filed.Mpm a) (filed.Mpm b) = same_mileage_record a b
same_record (filed.Tpm a) (filed.Tpm b) = same_pair_record a b
same_record (filed.Ema a) (filed.Ema b) = same_allowance_record a b
same_record _ _ = false
