-- The rows of records are read as the records.
use Rattle.std.proofs.Common.{◌≡◌, ◌<◌, ◌^◌, ℕ, List, Bool, true, false, Some, refl, arith}
use Rattle.std.specs.Prelude.{OnOk, Result, Ok, Err, ◌==◌, ◌&&◌, decimal, length, nat_le, nat_lt}
use Rattle.std.specs.List.{list_all}
use Rattle.std.specs.Char.{is_ascii_uppercase}
use Rattle.std.proofs.lemmas.Bool.{eqb-true}
use Rattle.fare_codes.specs.Codes.{is_code_character}
use Rattle.std.proofs.lemmas.Bool.Decides.{nat_tests}
use Rattle.fare_codes.specs.Codes.{is_carrier, is_city, is_country, is_currency, is_rule_id}
use Rattle.fare_codes.specs.Day.{is_day, is_month_day}
use Rattle.fare_codes.specs.Numbers.{nuc_text, rate_text, read_nuc, read_number, read_rate}
use Rattle.fare_codes.specs.Words.{area_text, cabin_text, indicator_text, kind_text, mode_text, read_area, read_cabin, read_indicator, read_kind, read_mode}
use Rattle.fare_codes.specs.declared.area.Area.{Area}
use Rattle.fare_codes.specs.declared.area.Area.TheVariants as area
use Rattle.fare_records.specs.declared.city_record.CityRec.{CityRec}
use Rattle.fare_records.specs.declared.record.Record.TheVariants as filed
use Rattle.fare_records.specs.Record.{AllowanceRecord, CurrencyRecord, FareRecord, IsCurrency, IsRule, MileageRecord, PairRecord, RuleRecord}
use Rattle.fare_csv.specs.CanonicalText.{excess_text, record_row, text_or_empty}
use Rattle.fare_csv.specs.Fields.{counted}
use Rattle.fare_csv.specs.Lines.{is_plain_field, is_plain_row}
use Rattle.fare_csv.specs.Numbers.{above_zero}
use Rattle.fare_csv.specs.RecordKind.{kind_named}
use Rattle.fare_csv.specs.RecordText.{allowance_of, city_of, currency_of, fare_key_of, fare_of, fare_two_of, mileage_of, pair_of, read_amount, read_excess, read_fare_rule, read_via, rule_of}
use Rattle.fare_csv.specs.TariffText.{record_of, record_of_kind}
use Rattle.fare_csv.specs.ReadBack.{HeadReadsBack, ReadsBack, are_names}
use Rattle.fare_csv.specs.Head.{head_of, read_version}
use Rattle.fare_csv.proofs.NamesReadBack.{names_are_plain, names_read_back}
use Rattle.fare_csv.proofs.PlainFields.{area-plain, cabin-plain, carrier-plain, city-plain, country-plain, currency-plain, day-plain, decimal-plain, indicator-plain, kind-plain, mode-plain, month_day-plain, nuc-plain, rate-plain, rule_id-plain}
use Rattle.fare_csv.proofs.PlainLines.{both}

-- what holds in any case holds where a call went well
pub on_any : {T E : Type 0} {P : Type 0} (r : Result T E) → P → OnOk r P
on_any (Ok value) p = p
on_any (Err fault) p = tt

area_is_read : (a : Area) → read_area (area_text a) ≡ Some a
unfolding read_area
area_is_read area.One = refl
area_is_read area.Two = refl
area_is_read area.Three = refl

-- a CITY
pub city_reads_back : (r : CityRec) → is_city r.code ≡ true → is_country r.country ≡ true → ReadsBack (filed.City r)
unfolding record_row is_plain_row record_of record_of_kind kind_named city_of counted
city_reads_back r code country = record {
  plain = rw (city-plain r.code code, country-plain r.country country, area-plain r.area) refl;
  goes_on = refl;
  reads = λ number. rw (code, country, area_is_read r.area) refl;
}

-- an MPM
pub mileage_reads_back : (r : MileageRecord) → is_city r.from ≡ true → is_city r.to ≡ true → read_indicator (indicator_text r.ind) ≡ Some r.ind
    → r.miles < 2 ^ 64 → read_number 99_999 (decimal r.miles) ≡ Some r.miles → ReadsBack (filed.Mpm r)
unfolding record_row is_plain_row record_of record_of_kind kind_named mileage_of counted
mileage_reads_back r from to ind range miles = record {
  plain = rw (city-plain r.from from, city-plain r.to to, indicator-plain r.ind, decimal-plain r.miles range) refl;
  goes_on = refl;
  reads = λ number. rw (from, to, ind, miles) refl;
}

-- a TPM
pub pair_reads_back : (r : PairRecord) → is_city r.from ≡ true → is_city r.to ≡ true
    → r.miles < 2 ^ 64 → read_number 99_999 (decimal r.miles) ≡ Some r.miles → ReadsBack (filed.Tpm r)
unfolding record_row is_plain_row record_of record_of_kind kind_named pair_of counted
pair_reads_back r from to range miles = record {
  plain = rw (city-plain r.from from, city-plain r.to to, decimal-plain r.miles range) refl;
  goes_on = refl;
  reads = λ number. rw (from, to, miles) refl;
}

-- a via city that is there
pub via_reads_back : (city : List ℕ) → is_city city ≡ true → read_via city ≡ Some (Some city)
unfolding read_via
via_reads_back city h =
    let size = eqb-true (length city) 3 (both (length city == 3) (list_all is_ascii_uppercase city) h).0 in
    let some : (length city == 0) ≡ false = rw size refl in
    rw (some, h) refl

-- a rule of a fare that is there
pub rule_field_reads_back : (id : List ℕ) → is_rule_id id ≡ true → read_fare_rule id ≡ Some (Some id)
unfolding read_fare_rule
rule_field_reads_back id h =
    let first = (both (nat_le 1 (length id)) (nat_le (length id) 8) (both (nat_le 1 (length id) && nat_le (length id) 8) (list_all is_code_character id) h).0).0 in
    let some : (length id == 0) ≡ false = grind (arith, nat_tests, first) in
    rw (some, h) refl

-- HEAD
pub head_reads_back : (number : ℕ) (effective : List ℕ) → 0 < number → number < 2 ^ 64 → read_number 99_999 (decimal number) ≡ Some number → is_day effective ≡ true
    → HeadReadsBack number effective
unfolding is_plain_row head_of counted read_version above_zero
head_reads_back number effective some range reads day =
    let above : nat_lt 0 number ≡ true = grind (arith, nat_tests) in
    record {
      plain = rw (decimal-plain number range, day-plain effective day) refl;
      reads = rw (reads, above, day) refl;
    }

-- a CUR
pub currency_reads_back : (r : CurrencyRecord) → IsCurrency r.roe r.decimals r.unit → is_country r.country ≡ true → is_currency r.currency ≡ true
    → read_rate (rate_text r.roe) ≡ Some r.roe → read_number 2 (decimal r.decimals) ≡ Some r.decimals → read_number 10_000 (decimal r.unit) ≡ Some r.unit
    → read_mode (mode_text r.mode) ≡ Some r.mode → ReadsBack (filed.Cur r)
unfolding record_row is_plain_row record_of record_of_kind kind_named currency_of counted above_zero
currency_reads_back r is country currency roe decimals unit mode =
    let above : nat_lt 0 r.roe ≡ true = grind (arith, nat_tests, is.rate_above_zero) in
    let unit_above : nat_lt 0 r.unit ≡ true = grind (arith, nat_tests, is.unit_above_zero) in
    record {
      plain = rw (country-plain r.country country, currency-plain r.currency currency, rate-plain r.roe (omega (arith, is.rate_in_form)), decimal-plain r.decimals (omega (arith, is.decimals_in_range)), decimal-plain r.unit (omega (arith, is.unit_in_range)), mode-plain r.mode) refl;
      goes_on = refl;
      reads = λ number. rw (country, currency, roe, above, decimals, unit, unit_above, mode) refl;
    }

-- an EMA
pub allowance_reads_back : (r : AllowanceRecord) → is_city r.from ≡ true → is_city r.to ≡ true → read_indicator (indicator_text r.ind) ≡ Some r.ind
    → is_plain_field (text_or_empty r.via) ≡ true → read_via (text_or_empty r.via) ≡ Some r.via
    → r.miles < 2 ^ 64 → read_number 99_999 (decimal r.miles) ≡ Some r.miles → ReadsBack (filed.Ema r)
unfolding record_row is_plain_row record_of record_of_kind kind_named allowance_of counted
allowance_reads_back r from to ind plain via range miles = record {
  plain = rw (city-plain r.from from, city-plain r.to to, indicator-plain r.ind, plain, decimal-plain r.miles range) refl;
  goes_on = refl;
  reads = λ number. rw (from, to, ind, via, miles) refl;
}

-- a FARE
pub fare_reads_back : (r : FareRecord) → is_city r.from ≡ true → is_city r.to ≡ true → read_indicator (indicator_text r.ind) ≡ Some r.ind
    → is_carrier r.carrier ≡ true → read_cabin (cabin_text r.class) ≡ Some r.class → read_kind (kind_text r.kind) ≡ Some r.kind
    → is_plain_field (text_or_empty r.rule) ≡ true → read_fare_rule (text_or_empty r.rule) ≡ Some r.rule
    → is_month_day r.season.first ≡ true → is_month_day r.season.last ≡ true
    → r.amount < 10 ^ 9 → read_nuc (nuc_text r.amount) ≡ Some r.amount → ReadsBack (filed.Fare r)
unfolding record_row is_plain_row record_of record_of_kind kind_named fare_of fare_two_of fare_key_of counted read_amount
fare_reads_back r from to ind carrier class kind plain rule first last range amount =
    let within : nat_lt r.amount 1_000_000_000 ≡ true = grind (arith, nat_tests, range) in
    record {
      plain = rw (city-plain r.from from, city-plain r.to to, indicator-plain r.ind, carrier-plain r.carrier carrier, cabin-plain r.class, kind-plain r.kind, plain, month_day-plain r.season.first first, month_day-plain r.season.last last, nuc-plain r.amount (omega (arith, range))) refl;
      goes_on = refl;
      reads = λ number. rw (from, to, ind, carrier, class, kind, rule, first, last, amount, within) refl;
    }

excess_is_read : (excess : Bool) → read_excess (excess_text excess) ≡ Some excess
unfolding read_excess
excess_is_read true = refl
excess_is_read false = refl

excess_is_plain : (excess : Bool) → is_plain_field (excess_text excess) ≡ true
excess_is_plain true = refl
excess_is_plain false = refl

-- the numbers of a RULE are read
pub record ReadNumbers (r : RuleRecord) : Type 0 where
  pub stops : read_number 16 (decimal r.stops) ≡ Some r.stops
  pub transfers : read_number 16 (decimal r.transfers) ≡ Some r.transfers
  pub advance : read_number 999 (decimal r.advance) ≡ Some r.advance
  pub min_stay : read_number 999 (decimal r.min_stay) ≡ Some r.min_stay
  pub max_stay : read_number 999 (decimal r.max_stay) ≡ Some r.max_stay

-- a RULE
pub rule_reads_back : (r : RuleRecord) → IsRule r → is_rule_id r.id ≡ true → ReadNumbers r
    → are_names r.units ≡ true → are_names r.ends ≡ true → ReadsBack (filed.Rule r)
unfolding record_row is_plain_row record_of record_of_kind kind_named rule_of counted
rule_reads_back r is id numbers units ends = record {
  plain = rw (rule_id-plain r.id id, decimal-plain r.stops (omega (arith, is.stops)), decimal-plain r.transfers (omega (arith, is.transfers)), decimal-plain r.advance (omega (arith, is.advance)), decimal-plain r.min_stay (omega (arith, is.min_stay)), decimal-plain r.max_stay (omega (arith, is.max_stay)), excess_is_plain r.excess, names_are_plain r.units units, names_are_plain r.ends ends) refl;
  goes_on = refl;
  reads = λ number. rw (id, numbers.stops, numbers.transfers, numbers.advance, numbers.min_stay, numbers.max_stay, excess_is_read r.excess, names_read_back r.units units is.units, names_read_back r.ends ends is.ends) refl;
}
