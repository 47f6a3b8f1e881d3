-- The canonical text of an edition: the one spelling of each record, in version 2.
use Rattle.std.specs.Prelude.{ℕ, Bool, true, false, List, [], ◌∷◌, ◌++◌, map, codes, decimal, Option, Some, None}
use Rattle.std.specs.List.{join_with_byte}
use Rattle.fare_codes.specs.Words.{area_text, indicator_text, mode_text, cabin_text, kind_text}
use Rattle.fare_codes.specs.Numbers.{nuc_text, rate_text}
use Rattle.fare_records.specs.declared.city_record.CityRec.{CityRec}
use Rattle.fare_records.specs.declared.names.Names.{Names}
use Rattle.fare_records.specs.declared.names.Names.TheVariants.{All, Of}
use Rattle.fare_records.specs.declared.record.Record.{Record}
use Rattle.fare_records.specs.declared.record.Record.TheVariants as filed
use Rattle.fare_records.specs.Record.{CurrencyRecord, RuleRecord, FareRecord, MileageRecord, PairRecord, AllowanceRecord}
use Rattle.fare_tariff.specs.Tariff.{Tariff}
use Rattle.fare_csv.specs.Rows.{Fields}
use Rattle.fare_csv.specs.Lines.{lines_of}

-- a field that may be empty
abbrev pub text_or_empty : Option (List ℕ) → List ℕ
text_or_empty None = []
text_or_empty (Some text) = text

-- a name of a list: a rule's id, or `-` for the free rule
abbrev pub name_text : Option (List ℕ) → List ℕ
name_text None = codes "-"
name_text (Some id) = id

-- a list: `*`, or the names with a space between two of them
abbrev pub names_text : Names → List ℕ
names_text All = codes "*"
names_text (Of names) = join_with_byte 32 (map name_text names)

-- whether a surcharge is allowed
abbrev pub excess_text : Bool → List ℕ
excess_text true = codes "Y"
excess_text false = codes "N"

-- the fields of a CITY
abbrev pub city_row : CityRec → Fields
city_row r = codes "CITY" ∷ r.code ∷ r.country ∷ area_text r.area ∷ []

-- the fields of a CUR
abbrev pub currency_row : CurrencyRecord → Fields
currency_row r =
    codes "CUR" ∷ r.country ∷ r.currency ∷ rate_text r.roe ∷ decimal r.decimals ∷ decimal r.unit ∷ mode_text r.mode ∷ []

-- the fields of a RULE
abbrev pub rule_row : RuleRecord → Fields
rule_row r =
    codes "RULE" ∷ r.id ∷ decimal r.stops ∷ decimal r.transfers ∷ decimal r.advance ∷ decimal r.min_stay
    ∷ decimal r.max_stay ∷ excess_text r.excess ∷ names_text r.units ∷ names_text r.ends ∷ []

-- the fields of a FARE
abbrev pub fare_row : FareRecord → Fields
fare_row r =
    codes "FARE" ∷ r.from ∷ r.to ∷ indicator_text r.ind ∷ r.carrier ∷ cabin_text r.class ∷ kind_text r.kind
    ∷ text_or_empty r.rule ∷ r.season.first ∷ r.season.last ∷ nuc_text r.amount ∷ []

-- the fields of an MPM
abbrev pub mileage_row : MileageRecord → Fields
mileage_row r = codes "MPM" ∷ r.from ∷ r.to ∷ indicator_text r.ind ∷ decimal r.miles ∷ []

-- the fields of a TPM
abbrev pub pair_row : PairRecord → Fields
pair_row r = codes "TPM" ∷ r.from ∷ r.to ∷ decimal r.miles ∷ []

-- the fields of an EMA
abbrev pub allowance_row : AllowanceRecord → Fields
allowance_row r = codes "EMA" ∷ r.from ∷ r.to ∷ indicator_text r.ind ∷ text_or_empty r.via ∷ decimal r.miles ∷ []

-- the fields of a record
unfoldable pub record_row : Record → Fields
record_row (filed.City r) = city_row r
record_row (filed.Cur r) = currency_row r
record_row (filed.Rule r) = rule_row r
record_row (filed.Fare r) = fare_row r
record_row (filed.Mpm r) = mileage_row r
record_row (filed.Tpm r) = pair_row r
record_row (filed.Ema r) = allowance_row r

-- HEAD, in version 2
abbrev pub head_row : ℕ → List ℕ → Fields
head_row number effective = codes "HEAD" ∷ codes "2" ∷ decimal number ∷ effective ∷ []

-- END
abbrev pub end_row : Fields
end_row = codes "END" ∷ []

-- the rows of an edition: HEAD, its records in their order, and END
unfoldable pub canonical_rows : Tariff → List Fields
canonical_rows tariff = head_row tariff.number tariff.effective ∷ (map record_row tariff.records ++ (end_row ∷ []))

-- the canonical text of an edition
abbrev pub canonical_text : Tariff → List ℕ
canonical_text tariff = lines_of (canonical_rows tariff)
