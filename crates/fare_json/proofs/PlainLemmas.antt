-- What the members of a JSON answer make is the plain text.
use Rattle.std.proofs.Common.{◌≡◌, ◌<◌, ◌≤◌, ℕ, zero, suc, ◌+◌, ◌-◌, List, [], ◌∷◌, ◌++◌, length, map, Option, Some, None, refl, ap, sym, subst, ◌∙◌, arith}
use Rattle.std.specs.Prelude.{codes, decimal, flat_map, filter_map, option_map}
use Rattle.std.specs.List.{cons_option, range_with_len}
use Rattle.std.proofs.lemmas.List.{append_assoc}
use Rattle.serde_json.specs.Data.{Data}
use Rattle.serde_json.specs.View.{items_of}
use Rattle.fare_codes.specs.declared.city.City.{City}
use Rattle.fare_codes.specs.declared.nuc.Nuc.{Nuc}
use Rattle.fare_codes.specs.declared.rule_id.RuleId.{RuleId}
use Rattle.fare_codes.specs.Numbers.{nuc_text}
use Rattle.fare_trip.specs.Itinerary.{Itinerary}
use Rattle.fare_tariff.specs.Record.{FareRecord, CurrencyRecord}
use Rattle.fare_tariff.specs.Tariff.{Tariff}
use Rattle.fare_rules.specs.declared.miles.Mileage.{Mileage}
use Rattle.fare_rules.specs.declared.miles.Mileage.TheVariants.{Direct, Within, Excess, NoTpm, NoMpm, Over}
use Rattle.fare_rules.specs.declared.part.Part.{Part}
use Rattle.fare_rules.specs.declared.unit_sheet.UnitKind.{UnitKind}
use Rattle.fare_rules.specs.declared.unit_sheet.UnitKind.TheVariants.{OW, RT, CT, OJ}
use Rattle.fare_rules.specs.Construction.{fare_of, places}
use Rattle.fare_rules.specs.FirstK.{Priced}
use Rattle.fare_rules.specs.Lawful.{first_broken}
use Rattle.fare_rules.specs.UnitPrice.{price}
use Rattle.fare_rules.proofs.AmountLemmas.{fare_is_filed}
use Rattle.fare_rules.proofs.LawfulLemmas.{IsKept, kept_from_unbroken}
use Rattle.fare_line.specs.LineText.{line_text, rule_text, tag_text}
use Rattle.fare_line.specs.Line.{CalculationLine}
use Rattle.fare_calc.specs.declared.numbered_unit.NumberedUnit.{NumberedUnit}
use Rattle.fare_calc.specs.declared.part_sheet.PartSheet.{PartSheet}
use Rattle.fare_calc.specs.Answer.{answer_text, edition_line}
use Rattle.fare_calc.specs.LineOf.{line_of}
use Rattle.fare_calc.specs.PartSheets.{home_currency, part_sheets, sheet_of_part, sheet_with}
use Rattle.fare_calc.specs.UnitSheets.{unit_sheets}
use Rattle.fare_calc.specs.Worksheet.{amount_line, check_text, currency_lines, currency_lines_of, filed_line, higher_line, miles_line, miles_text, part_line, part_lines, unit_line, worksheet_text}
use Rattle.fare_answers.specs.BestText.{entries_text, entry_text, first_text}
use Rattle.fare_answers.specs.List.{list_line, list_text}
use Rattle.fare_audit.specs.declared.verdict.Verdict.{Verdict}
use Rattle.fare_audit.specs.declared.verdict.Verdict.TheVariants.{OtherTrip, NoRecord, Broken, Figures, Lawful}
use Rattle.fare_audit.specs.VerdictText.{verdict_text}
use Rattle.fare_json.specs.AuditData.{audit_data, verdict_data}
use Rattle.fare_json.specs.BatchData.{batch_data, item_data}
use Rattle.fare_json.specs.BestData.{entry_data, first_data}
use Rattle.fare_json.specs.FaultData.{refusal_data}
use Rattle.fare_json.specs.ListData.{list_data, listed_data}
use Rattle.fare_json.specs.Plain.{at, counted, items_plain, plain_answer, plain_batch, plain_item, plain_items, digits, plain_audit, plain_best, plain_check, plain_construction, plain_currency, plain_edition, plain_entries, plain_entry, plain_first, plain_first_answer, plain_higher, plain_list, plain_listed, plain_measured, plain_miles, plain_pair, plain_amount_line, plain_filed_line, plain_part, plain_part_line, plain_parts, plain_quotation, plain_tag, plain_unit, plain_verdict, said, values_of}
use Rattle.fare_json.specs.QuotationData.{best_data, checked_data, construction_data, count, edition_data, fare_data, higher_data, local_data, measured_data, miles_data, minimum_data, money, part_data, quotation_data, rate_data, rule_data, sold_data, unit_data}

pub values_back : (all : List Data) → values_of (items_of all) ≡ all
values_back [] = refl
values_back (one ∷ rest) = ap (λ (r : List Data). one ∷ r) (values_back rest)

pub edition_is_plain : (tariff : Tariff) → plain_edition (edition_data tariff) ≡ edition_line tariff
unfolding plain_edition edition_data
edition_is_plain tariff = refl

rule_is_plain : (rule : Option RuleId) → said (rule_data rule) ≡ rule_text rule
rule_is_plain None = refl
rule_is_plain (Some id) = refl

tag_is_plain : (place : ℕ) (fare : FareRecord) → plain_tag (fare_data place fare) ≡ tag_text fare.carrier fare.class fare.kind fare.rule
unfolding plain_tag fare_data
tag_is_plain place fare = rw (rule_is_plain fare.rule) refl

record_is_plain : (place : ℕ) (fare : FareRecord) → digits (at (codes "record") (fare_data place fare)) ≡ decimal place
unfolding fare_data
record_is_plain place fare = refl

miles_are_plain : (mileage : Mileage) → plain_miles (miles_data mileage) ≡ miles_line mileage
unfolding measured_data plain_measured miles_text
miles_are_plain Direct = refl
miles_are_plain (Within miles) = simp append_assoc refl
miles_are_plain (Excess step miles) = simp append_assoc refl
miles_are_plain (NoTpm sector) = refl
miles_are_plain NoMpm = refl
miles_are_plain (Over miles) = refl

higher_is_plain : (higher : Option (City × City × Nuc)) → plain_higher (higher_data higher) ≡ higher_line higher
unfolding higher_data plain_pair
higher_is_plain None = refl
higher_is_plain (Some found) = simp append_assoc refl

part_line_is_plain : (sheet : PartSheet) → plain_part_line sheet.place (part_data sheet) ≡ part_line sheet
unfolding plain_part_line part_data
part_line_is_plain sheet = refl

-- the pieces of the line of a fare
filed_pieces : FareRecord → (place tag : List ℕ) → List ℕ
filed_pieces fare place tag = codes "FARE " ++ place ++ codes " " ++ tag ++ codes " " ++ nuc_text fare.amount ++ codes "\n"

filed_is_plain : (place : ℕ) (fare : FareRecord) → plain_filed_line (fare_data place fare) (money fare.amount) ≡ filed_line place fare
unfolding plain_filed_line filed_pieces
filed_is_plain place fare =
    ap (λ (t : List ℕ). filed_pieces fare t (plain_tag (fare_data place fare))) (record_is_plain place fare)
    ∙ ap (λ (t : List ℕ). filed_pieces fare (decimal place) t) (tag_is_plain place fare)

amount_is_plain : (amount : ℕ) → plain_amount_line (money amount) ≡ amount_line amount
unfolding plain_amount_line
amount_is_plain amount = refl

-- five lines
five : (a b c d e : List ℕ) → List ℕ
five a b c d e = a ++ b ++ c ++ d ++ e

lines_of_data : (sheet : PartSheet) → plain_part sheet.place (part_data sheet)
    ≡ five (plain_part_line sheet.place (part_data sheet)) (plain_filed_line (fare_data sheet.number sheet.fare) (money sheet.fare.amount)) (plain_miles (miles_data sheet.mileage)) (plain_higher (higher_data sheet.higher)) (plain_amount_line (money sheet.amount))
unfolding plain_part part_data five
lines_of_data sheet = refl

lines_of_sheet : (sheet : PartSheet) → five (part_line sheet) (filed_line sheet.number sheet.fare) (miles_line sheet.mileage) (higher_line sheet.higher) (amount_line sheet.amount) ≡ part_lines sheet
unfolding part_lines five
lines_of_sheet sheet = refl

part_is_plain : (sheet : PartSheet) → plain_part sheet.place (part_data sheet) ≡ part_lines sheet
part_is_plain sheet =
    let filed = plain_filed_line (fare_data sheet.number sheet.fare) (money sheet.fare.amount) in
    let miles = plain_miles (miles_data sheet.mileage) in
    let higher = plain_higher (higher_data sheet.higher) in
    let amount = plain_amount_line (money sheet.amount) in
    lines_of_data sheet
    ∙ ap (λ (t : List ℕ). five t filed miles higher amount) (part_line_is_plain sheet)
    ∙ ap (λ (t : List ℕ). five (part_line sheet) t miles higher amount) (filed_is_plain sheet.number sheet.fare)
    ∙ ap (λ (t : List ℕ). five (part_line sheet) (filed_line sheet.number sheet.fare) t higher amount) (miles_are_plain sheet.mileage)
    ∙ ap (λ (t : List ℕ). five (part_line sheet) (filed_line sheet.number sheet.fare) (miles_line sheet.mileage) t amount) (higher_is_plain sheet.higher)
    ∙ ap (λ (t : List ℕ). five (part_line sheet) (filed_line sheet.number sheet.fare) (miles_line sheet.mileage) (higher_line sheet.higher) t) (amount_is_plain sheet.amount)
    ∙ lines_of_sheet sheet

check_is_plain : (kind : UnitKind) (minimum : Option ℕ) → plain_check (minimum_data kind minimum) ≡ check_text kind minimum
unfolding checked_data
check_is_plain OW None = refl
check_is_plain OW (Some minimum) = refl
check_is_plain CT None = refl
check_is_plain CT (Some minimum) = refl
check_is_plain RT minimum = refl
check_is_plain OJ minimum = refl

unit_is_plain : (unit : NumberedUnit) → plain_unit (unit_data unit) ≡ unit_line unit
unfolding plain_unit unit_data unit_line
unit_is_plain unit = rw (check_is_plain unit.sheet.kind unit.sheet.minimum) refl

units_are_plain : (units : List NumberedUnit) → flat_map plain_unit (map unit_data units) ≡ flat_map unit_line units
units_are_plain [] = refl
units_are_plain (unit ∷ rest) =
    ap (λ (t : List ℕ). t ++ flat_map plain_unit (map unit_data rest)) (unit_is_plain unit)
    ∙ ap (λ (t : List ℕ). unit_line unit ++ t) (units_are_plain rest)

currency_is_plain : (total : ℕ) (currency : Option CurrencyRecord) → plain_currency (rate_data currency) (local_data total currency) ≡ currency_lines_of total currency
unfolding sold_data currency_lines
currency_is_plain total None = refl
currency_is_plain total (Some currency) = refl

module _ (tariff : Tariff) (trip : Itinerary) where
  place_of_sheet : (parts : List Part) (k : ℕ) (fare : FareRecord) → (sheet_with tariff trip parts k fare).place ≡ k
  unfolding sheet_with
  place_of_sheet parts k fare = refl

  part_at_its_place : (parts : List Part) (k : ℕ) (fare : FareRecord) → plain_part k (part_data (sheet_with tariff trip parts k fare)) ≡ part_lines (sheet_with tariff trip parts k fare)
  part_at_its_place parts k fare =
      let sheet = sheet_with tariff trip parts k fare in
      subst (λ (n : ℕ). plain_part n (part_data sheet) ≡ part_lines sheet) (place_of_sheet parts k fare) (part_is_plain sheet)

  -- parts that are all filed, from a number on
  parts_from : (parts : List Part) (many first : ℕ) → ((k : ℕ) → first ≤ k → k < first + many → (fare : FareRecord) × (fare_of tariff parts k ≡ Some fare))
      → plain_parts first (map part_data (filter_map (sheet_of_part tariff trip parts) (range_with_len first many)))
      ≡ flat_map part_lines (filter_map (sheet_of_part tariff trip parts) (range_with_len first many))
  parts_from parts zero first filed = refl
  parts_from parts (suc many) first filed =
      let found = filed first (omega arith) (omega arith) in
      let sheet = sheet_with tariff trip parts first found.0 in
      let rest = filter_map (sheet_of_part tariff trip parts) (range_with_len (first + 1) many) in
      let here : sheet_of_part tariff trip parts first ≡ Some sheet = ap (option_map (sheet_with tariff trip parts first)) found.1 in
      let all : cons_option (sheet_of_part tariff trip parts first) rest ≡ sheet ∷ rest = ap (λ (o : Option PartSheet). cons_option o rest) here in
      let others = parts_from parts many (first + 1) (λ k low high. filed k (omega arith) (omega arith)) in
      ap (λ (xs : List PartSheet). plain_parts first (map part_data xs)) all
      ∙ ap (λ (t : List ℕ). t ++ plain_parts (first + 1) (map part_data rest)) (part_at_its_place parts first found.0)
      ∙ ap (λ (t : List ℕ). part_lines sheet ++ t) others
      ∙ sym (ap (λ (xs : List PartSheet). flat_map part_lines xs) all)

  parts_are_plain : (parts : List Part) → IsKept tariff trip parts → plain_parts 1 (map part_data (part_sheets tariff trip parts)) ≡ flat_map part_lines (part_sheets tariff trip parts)
  parts_are_plain parts kept =
      parts_from parts (length parts + 1 - 1) 1 (λ k low high. fare_is_filed tariff trip parts kept k low (omega arith))

  construction_is_plain : (parts : List Part) → first_broken tariff trip parts ≡ None → plain_best (construction_data tariff trip parts) ≡ line_text (line_of tariff trip parts) ++ codes "\n" ++ worksheet_text tariff trip parts
  unfolding plain_construction construction_data worksheet_text
  construction_is_plain parts lawful =
      rw (
        values_back (map part_data (part_sheets tariff trip parts)),
        values_back (map unit_data (unit_sheets tariff trip parts)),
        parts_are_plain parts (kept_from_unbroken tariff trip parts lawful),
        units_are_plain (unit_sheets tariff trip parts),
        currency_is_plain (price tariff trip parts) (home_currency tariff trip),
      ) (simp append_assoc refl)

  pub lawful_is_plain : (parts : List Part) → first_broken tariff trip parts ≡ None → plain_quotation (quotation_data tariff trip (Some parts)) ≡ answer_text tariff trip (Some parts)
  unfolding plain_quotation quotation_data answer_text
  lawful_is_plain parts lawful = rw (edition_is_plain tariff, construction_is_plain parts lawful) refl

  pub none_is_plain : plain_quotation (quotation_data tariff trip None) ≡ answer_text tariff trip None
  unfolding plain_quotation quotation_data answer_text
  none_is_plain = rw (edition_is_plain tariff) refl

  entry_is_plain : (place : ℕ) (one : Priced) → plain_entry place (entry_data tariff trip one) ≡ entry_text tariff trip place one
  unfolding plain_entry entry_data entry_text
  entry_is_plain place one = refl

  entries_are_plain : (place : ℕ) (all : List Priced) → plain_entries place (map (entry_data tariff trip) all) ≡ entries_text tariff trip place all
  entries_are_plain place [] = refl
  entries_are_plain place (one ∷ rest) =
      ap (λ (t : List ℕ). t ++ plain_entries (suc place) (map (entry_data tariff trip) rest)) (entry_is_plain place one)
      ∙ ap (λ (t : List ℕ). entry_text tariff trip place one ++ t) (entries_are_plain (suc place) rest)

  first_are_plain : (all : List Priced) → plain_first (map (entry_data tariff trip) all) ≡ first_text tariff trip all
  first_are_plain [] = refl
  first_are_plain (one ∷ rest) = entries_are_plain 1 (one ∷ rest)

  pub first_is_plain : (all : List Priced) → plain_first_answer (first_data tariff trip all) ≡ edition_line tariff ++ first_text tariff trip all
  unfolding plain_first_answer first_data
  first_is_plain all = rw (values_back (map (entry_data tariff trip) all), edition_is_plain tariff, first_are_plain all) refl

listed_is_plain : (tariff : Tariff) → plain_listed (listed_data tariff) ≡ list_line tariff
unfolding plain_listed listed_data
listed_is_plain tariff = refl

editions_are_plain : (editions : List Tariff) → flat_map plain_listed (map listed_data editions) ≡ list_text editions
editions_are_plain [] = refl
editions_are_plain (tariff ∷ rest) =
    ap (λ (t : List ℕ). t ++ flat_map plain_listed (map listed_data rest)) (listed_is_plain tariff)
    ∙ ap (λ (t : List ℕ). list_line tariff ++ t) (editions_are_plain rest)

pub list_is_plain : (editions : List Tariff) → plain_list (list_data editions) ≡ list_text editions
unfolding plain_list list_data
list_is_plain editions = rw (values_back (map listed_data editions)) (editions_are_plain editions)

pub audit_is_plain : (tariff : Tariff) (line : CalculationLine) (verdict : Verdict) → plain_audit (audit_data tariff line verdict) ≡ verdict_text verdict
unfolding plain_audit audit_data verdict_data plain_verdict
audit_is_plain tariff line (OtherTrip sector) = simp append_assoc refl
audit_is_plain tariff line (NoRecord place) = simp append_assoc refl
audit_is_plain tariff line (Broken broken) = simp append_assoc refl
audit_is_plain tariff line (Figures place) = simp append_assoc refl
audit_is_plain tariff line (Lawful price over) = simp append_assoc refl

pub refusal_is_plain : (text words : List ℕ) → plain_answer (refusal_data text words) ≡ text ++ codes "\n"
unfolding refusal_data
refusal_is_plain text words = refl

pub answer_is_plain : (tariff : Tariff) (trip : Itinerary) (best : Option (List Part))
    → plain_answer (quotation_data tariff trip best) ≡ plain_quotation (quotation_data tariff trip best)
unfolding quotation_data
answer_is_plain tariff trip best = refl

item_is_plain : (number : ℕ) (one : Data × ℕ) → plain_item number (item_data one)
    ≡ codes "ITEM " ++ decimal number ++ codes " " ++ decimal one.1 ++ codes "\n" ++ plain_answer one.0
unfolding plain_item item_data
item_is_plain number one = refl

items_are_plain : (number : ℕ) (items : List (Data × ℕ)) → plain_items number (map item_data items) ≡ items_plain number items
items_are_plain number [] = refl
items_are_plain number (one ∷ rest) =
    ap (λ (t : List ℕ). t ++ plain_items (number + 1) (map item_data rest)) (item_is_plain number one)
    ∙ ap (λ (t : List ℕ). (codes "ITEM " ++ decimal number ++ codes " " ++ decimal one.1 ++ codes "\n" ++ plain_answer one.0) ++ t) (items_are_plain (number + 1) rest)

pub batch_is_plain : (items : List (Data × ℕ)) → plain_batch (batch_data items) ≡ items_plain 1 items
unfolding plain_batch batch_data
batch_is_plain items = rw (values_back (map item_data items)) (items_are_plain 1 items)
