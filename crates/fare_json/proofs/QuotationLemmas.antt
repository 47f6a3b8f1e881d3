-- What a quotation spells is the compact text of its value.
use Rattle.std.proofs.Common.{◌≡◌, ℕ, zero, suc, ◌+◌, ◌-◌, Bool, true, false, List, [], ◌∷◌, ◌++◌, map, Option, Some, None, refl, ap, ◌∙◌, sym, arith}
use Rattle.std.specs.Prelude.{codes, decimal}
use Rattle.std.specs.List.{range_with_len}
use Rattle.json.specs.Print.{escape_byte}
use Rattle.std.proofs.lemmas.List.{append_assoc}
use Rattle.serde_json.specs.Data.{Data, boolean, string, array, object, no_members, member}
use Rattle.serde_json.specs.View.{items_of}
use Rattle.serde_json.specs.Written.{compact_text, items_text}
use Rattle.fare_codes.specs.declared.city.City.{City}
use Rattle.fare_codes.specs.declared.nuc.Nuc.{Nuc}
use Rattle.fare_codes.specs.declared.rule_id.RuleId.{RuleId}
use Rattle.fare_codes.specs.Numbers.{nuc_text}
use Rattle.fare_codes.specs.Words.{cabin_text, kind_text}
use Rattle.fare_trip.specs.Itinerary.{Itinerary}
use Rattle.fare_tariff.specs.Record.{FareRecord, CurrencyRecord}
use Rattle.fare_tariff.specs.Tariff.{Tariff}
use Rattle.fare_rules.specs.declared.miles.Mileage.{Mileage}
use Rattle.fare_rules.specs.declared.miles.Mileage.TheVariants.{Direct, Within, Excess, NoTpm, NoMpm, Over}
use Rattle.fare_rules.specs.declared.miles.Miles.{Miles}
use Rattle.fare_rules.specs.declared.part.Part.{Part}
use Rattle.fare_rules.specs.declared.unit_sheet.UnitKind.{UnitKind}
use Rattle.fare_rules.specs.declared.unit_sheet.UnitKind.TheVariants.{OW, RT, CT, OJ}
use Rattle.fare_rules.specs.UnitPrice.{price}
use Rattle.fare_calc.specs.LineOf.{line_of}
use Rattle.fare_calc.specs.Worksheet.{unit_kind_text}
use Rattle.fare_line.specs.LineText.{line_text}
use Rattle.fare_calc.specs.declared.numbered_unit.NumberedUnit.{NumberedUnit}
use Rattle.fare_calc.specs.declared.part_sheet.PartSheet.{PartSheet}
use Rattle.fare_calc.specs.PartSheets.{home_currency, part_sheets}
use Rattle.fare_calc.specs.UnitSheets.{unit_sheets}
use Rattle.fare_json.specs.JsonText.{json_line}
use Rattle.fare_json.specs.QuotationData.{count, edition_data, rule_data, fare_data, higher_data, measured_data, miles_data, sectors_data, part_data, checked_data, minimum_data, unit_data, sold_data, local_data, rate_data, construction_data, best_data, quotation_data}
use Rattle.fare_json.specs.Spelled.{string_json, money_json, array_json, flag_json, edition_json, rule_json, fare_front_json, fare_rest_json, fare_json, pair_json, higher_json, measured_json, miles_json, numbers_json, counted_json, sectors_json, part_front_json, part_rest_json, part_json, checked_json, minimum_json, unit_json, amount_json, local_json, rate_json, construction_front_json, construction_rest_json, construction_json, best_json, quotation_json}
use Rattle.fare_json.proofs.TextLemmas.{array_text, five_right, six_before, seven_right, ten_before}
use Rattle.fare_json.proofs.SectorLemmas.{sectors_text}

pub edition_text : (tariff : Tariff) → edition_json tariff ≡ compact_text (edition_data tariff)
unfolding edition_json edition_data string_json escape_byte
edition_text tariff = simp append_assoc refl

rule_text : (rule : Option RuleId) → rule_json rule ≡ compact_text (rule_data rule)
unfolding string_json
rule_text None = refl
rule_text (Some id) = refl

-- the pieces of a fare, with its rule
fare_pieces : ℕ → FareRecord → List ℕ → List ℕ
fare_pieces place fare rule =
    codes "{\"carrier\":" ++ (string_json fare.carrier ++ (codes ",\"class\":" ++ (string_json (cabin_text fare.class)
    ++ (codes ",\"kind\":" ++ (string_json (kind_text fare.kind)
    ++ (codes ",\"record\":" ++ (decimal place ++ (codes ",\"rule\":" ++ (rule ++ codes "}")))))))))

fare_front_of : (fare : FareRecord) (rest : List ℕ) → fare_front_json fare.carrier fare.class fare.kind ++ rest
    ≡ codes "{\"carrier\":" ++ (string_json fare.carrier ++ (codes ",\"class\":" ++ (string_json (cabin_text fare.class)
    ++ (codes ",\"kind\":" ++ (string_json (kind_text fare.kind) ++ rest)))))
unfolding fare_front_json
fare_front_of fare rest =
    six_before (codes "{\"carrier\":") (string_json fare.carrier) (codes ",\"class\":") (string_json (cabin_text fare.class)) (codes ",\"kind\":") (string_json (kind_text fare.kind)) rest

fare_rest_of : (place : ℕ) (rule : Option RuleId) → fare_rest_json place rule ≡ codes ",\"record\":" ++ (decimal place ++ (codes ",\"rule\":" ++ (rule_json rule ++ codes "}")))
unfolding fare_rest_json
fare_rest_of place rule = five_right (codes ",\"record\":") (decimal place) (codes ",\"rule\":") (rule_json rule) (codes "}")

fare_of_pieces : (place : ℕ) (fare : FareRecord) → fare_json place fare ≡ fare_pieces place fare (rule_json fare.rule)
unfolding fare_pieces
fare_of_pieces place fare =
    fare_front_of fare (fare_rest_json place fare.rule)
    ∙ ap (λ (rest : List ℕ). codes "{\"carrier\":" ++ (string_json fare.carrier ++ (codes ",\"class\":" ++ (string_json (cabin_text fare.class)
    ++ (codes ",\"kind\":" ++ (string_json (kind_text fare.kind) ++ rest)))))) (fare_rest_of place fare.rule)

fare_pieces_text : (place : ℕ) (fare : FareRecord) → fare_pieces place fare (compact_text (rule_data fare.rule)) ≡ compact_text (fare_data place fare)
unfolding fare_pieces fare_data string_json escape_byte
fare_pieces_text place fare = refl

fare_text : (place : ℕ) (fare : FareRecord) → fare_json place fare ≡ compact_text (fare_data place fare)
fare_text place fare =
    fare_of_pieces place fare
    ∙ ap (λ (t : List ℕ). fare_pieces place fare t) (rule_text fare.rule)
    ∙ fare_pieces_text place fare

higher_text : (higher : Option (City × City × Nuc)) → higher_json higher ≡ compact_text (higher_data higher)
unfolding higher_data pair_json string_json escape_byte
higher_text None = refl
higher_text (Some found) = simp append_assoc refl

measured_text : (surcharge : ℕ) (miles : Miles) → measured_json surcharge miles ≡ compact_text (measured_data surcharge miles)
unfolding measured_json measured_data escape_byte
measured_text surcharge miles = simp append_assoc refl

miles_text : (mileage : Mileage) → miles_json mileage ≡ compact_text (miles_data mileage)
miles_text Direct = refl
miles_text (Within miles) = measured_text 0 miles
miles_text (Excess step miles) = measured_text step miles
miles_text (NoTpm sector) = refl
miles_text NoMpm = refl
miles_text (Over miles) = refl

flag_text : (flag : Bool) → flag_json flag ≡ compact_text (boolean flag)
flag_text true = refl
flag_text false = refl

-- what stands behind the front of a part
front_before : (sheet : PartSheet) (rest : List ℕ) → part_front_json sheet ++ rest
    ≡ codes "{\"amount\":" ++ (money_json sheet.amount ++ (codes ",\"back\":" ++ (flag_json sheet.back
    ++ (codes ",\"fare\":" ++ (fare_json sheet.number sheet.fare ++ (codes ",\"filed\":" ++ (money_json sheet.fare.amount
    ++ (codes ",\"from\":" ++ (string_json sheet.from ++ rest)))))))))
unfolding part_front_json
front_before sheet rest =
    ten_before (codes "{\"amount\":") (money_json sheet.amount) (codes ",\"back\":") (flag_json sheet.back)
    (codes ",\"fare\":") (fare_json sheet.number sheet.fare) (codes ",\"filed\":") (money_json sheet.fare.amount)
    (codes ",\"from\":") (string_json sheet.from) rest

rest_pieces : (sheet : PartSheet) → part_rest_json sheet
    ≡ codes ",\"hip\":" ++ (higher_json sheet.higher ++ (codes ",\"miles\":" ++ (miles_json sheet.mileage
    ++ (codes ",\"sectors\":" ++ (sectors_json sheet.start sheet.end ++ (codes ",\"to\":" ++ (string_json sheet.to
    ++ (codes ",\"unit\":" ++ (decimal sheet.unit ++ codes "}")))))))))
unfolding part_rest_json
rest_pieces sheet = simp append_assoc refl

-- the pieces of a part, with the values that have members of their own
part_pieces : (sheet : PartSheet) (flag fare higher miles sectors : List ℕ) → List ℕ
part_pieces sheet flag fare higher miles sectors =
    codes "{\"amount\":" ++ (money_json sheet.amount ++ (codes ",\"back\":" ++ (flag
    ++ (codes ",\"fare\":" ++ (fare ++ (codes ",\"filed\":" ++ (money_json sheet.fare.amount
    ++ (codes ",\"from\":" ++ (string_json sheet.from
    ++ (codes ",\"hip\":" ++ (higher ++ (codes ",\"miles\":" ++ (miles
    ++ (codes ",\"sectors\":" ++ (sectors ++ (codes ",\"to\":" ++ (string_json sheet.to
    ++ (codes ",\"unit\":" ++ (decimal sheet.unit ++ codes "}")))))))))))))))))))

part_of_pieces : (sheet : PartSheet) → part_json sheet ≡ part_pieces sheet (flag_json sheet.back) (fare_json sheet.number sheet.fare) (higher_json sheet.higher) (miles_json sheet.mileage) (sectors_json sheet.start sheet.end)
unfolding part_pieces
part_of_pieces sheet =
    front_before sheet (part_rest_json sheet)
    ∙ ap (λ (rest : List ℕ). codes "{\"amount\":" ++ (money_json sheet.amount ++ (codes ",\"back\":" ++ (flag_json sheet.back
    ++ (codes ",\"fare\":" ++ (fare_json sheet.number sheet.fare ++ (codes ",\"filed\":" ++ (money_json sheet.fare.amount
    ++ (codes ",\"from\":" ++ (string_json sheet.from ++ rest)))))))))) (rest_pieces sheet)

pieces_text : (sheet : PartSheet) → part_pieces sheet (compact_text (boolean sheet.back)) (compact_text (fare_data sheet.number sheet.fare)) (compact_text (higher_data sheet.higher)) (compact_text (miles_data sheet.mileage)) (compact_text (sectors_data sheet.start sheet.end)) ≡ compact_text (part_data sheet)
unfolding part_pieces part_data string_json escape_byte
pieces_text sheet = refl

part_text : (sheet : PartSheet) → part_json sheet ≡ compact_text (part_data sheet)
part_text sheet =
    let fare = compact_text (fare_data sheet.number sheet.fare) in
    let higher = compact_text (higher_data sheet.higher) in
    let miles = compact_text (miles_data sheet.mileage) in
    part_of_pieces sheet
    ∙ ap (λ (t : List ℕ). part_pieces sheet t (fare_json sheet.number sheet.fare) (higher_json sheet.higher) (miles_json sheet.mileage) (sectors_json sheet.start sheet.end)) (flag_text sheet.back)
    ∙ ap (λ (t : List ℕ). part_pieces sheet (compact_text (boolean sheet.back)) t (higher_json sheet.higher) (miles_json sheet.mileage) (sectors_json sheet.start sheet.end)) (fare_text sheet.number sheet.fare)
    ∙ ap (λ (t : List ℕ). part_pieces sheet (compact_text (boolean sheet.back)) fare t (miles_json sheet.mileage) (sectors_json sheet.start sheet.end)) (higher_text sheet.higher)
    ∙ ap (λ (t : List ℕ). part_pieces sheet (compact_text (boolean sheet.back)) fare higher t (sectors_json sheet.start sheet.end)) (miles_text sheet.mileage)
    ∙ ap (λ (t : List ℕ). part_pieces sheet (compact_text (boolean sheet.back)) fare higher miles t) (sectors_text sheet.start sheet.end)
    ∙ pieces_text sheet

kind_is_plain : (kind : UnitKind) → codes "\"" ++ unit_kind_text kind ++ codes "\"" ≡ compact_text (string (unit_kind_text kind))
unfolding escape_byte
kind_is_plain OW = refl
kind_is_plain RT = refl
kind_is_plain CT = refl
kind_is_plain OJ = refl

minimum_text : (kind : UnitKind) (minimum : Option ℕ) → minimum_json kind minimum ≡ compact_text (minimum_data kind minimum)
unfolding checked_json checked_data string_json escape_byte
minimum_text OW None = refl
minimum_text OW (Some minimum) = simp append_assoc refl
minimum_text CT None = refl
minimum_text CT (Some minimum) = simp append_assoc refl
minimum_text RT minimum = refl
minimum_text OJ minimum = refl

-- the pieces of a unit, with the values that go by cases
unit_pieces : (unit : NumberedUnit) (kind minimum : List ℕ) → List ℕ
unit_pieces unit kind minimum =
    codes "{\"kind\":" ++ kind ++ codes ",\"minimum\":" ++ minimum
    ++ codes ",\"number\":" ++ decimal unit.number ++ codes ",\"price\":" ++ money_json unit.sheet.price
    ++ codes ",\"sum\":" ++ money_json unit.sheet.sum ++ codes "}"

unit_of_pieces : (unit : NumberedUnit) → unit_json unit ≡ unit_pieces unit (codes "\"" ++ unit_kind_text unit.sheet.kind ++ codes "\"") (minimum_json unit.sheet.kind unit.sheet.minimum)
unfolding unit_pieces unit_json
unit_of_pieces unit = simp append_assoc refl

unit_pieces_text : (unit : NumberedUnit) → unit_pieces unit (compact_text (string (unit_kind_text unit.sheet.kind))) (compact_text (minimum_data unit.sheet.kind unit.sheet.minimum)) ≡ compact_text (unit_data unit)
unfolding unit_pieces unit_data string_json escape_byte
unit_pieces_text unit = simp append_assoc refl

unit_text : (unit : NumberedUnit) → unit_json unit ≡ compact_text (unit_data unit)
unit_text unit =
    unit_of_pieces unit
    ∙ ap (λ (kind : List ℕ). unit_pieces unit kind (minimum_json unit.sheet.kind unit.sheet.minimum)) (kind_is_plain unit.sheet.kind)
    ∙ ap (λ (minimum : List ℕ). unit_pieces unit (compact_text (string (unit_kind_text unit.sheet.kind))) minimum) (minimum_text unit.sheet.kind unit.sheet.minimum)
    ∙ unit_pieces_text unit

local_text : (total : ℕ) (currency : Option CurrencyRecord) → local_json total currency ≡ compact_text (local_data total currency)
unfolding amount_json sold_data string_json escape_byte
local_text total None = refl
local_text total (Some currency) = simp append_assoc refl

rate_text : (currency : Option CurrencyRecord) → rate_json currency ≡ compact_text (rate_data currency)
unfolding string_json
rate_text None = refl
rate_text (Some currency) = refl

module _ (tariff : Tariff) (trip : Itinerary) where
  -- the pieces of a construction, with the values that have members of their own
  construction_pieces : (parts : List Part) (local all_parts rate all_units : List ℕ) → List ℕ
  construction_pieces parts local all_parts rate all_units =
      codes "{\"line\":" ++ (string_json (line_text (line_of tariff trip parts)) ++ (codes ",\"local\":" ++ (local
      ++ (codes ",\"parts\":" ++ (all_parts ++ (codes ",\"roe\":" ++ (rate
      ++ (codes ",\"total\":" ++ (money_json (price tariff trip parts) ++ (codes ",\"units\":" ++ (all_units ++ codes "}")))))))))))

  front_of : (parts : List Part) (rest : List ℕ) → construction_front_json tariff trip parts ++ rest
      ≡ codes "{\"line\":" ++ (string_json (line_text (line_of tariff trip parts)) ++ (codes ",\"local\":" ++ (local_json (price tariff trip parts) (home_currency tariff trip)
      ++ (codes ",\"parts\":" ++ (array_json part_json (part_sheets tariff trip parts) ++ rest)))))
  unfolding construction_front_json
  front_of parts rest =
      six_before (codes "{\"line\":") (string_json (line_text (line_of tariff trip parts))) (codes ",\"local\":") (local_json (price tariff trip parts) (home_currency tariff trip)) (codes ",\"parts\":") (array_json part_json (part_sheets tariff trip parts)) rest

  rest_of : (parts : List Part) → construction_rest_json tariff trip parts
      ≡ codes ",\"roe\":" ++ (rate_json (home_currency tariff trip) ++ (codes ",\"total\":" ++ (money_json (price tariff trip parts)
      ++ (codes ",\"units\":" ++ (array_json unit_json (unit_sheets tariff trip parts) ++ codes "}")))))
  unfolding construction_rest_json
  rest_of parts =
      seven_right (codes ",\"roe\":") (rate_json (home_currency tariff trip)) (codes ",\"total\":") (money_json (price tariff trip parts)) (codes ",\"units\":") (array_json unit_json (unit_sheets tariff trip parts)) (codes "}")

  spelled_pieces : (parts : List Part) → construction_json tariff trip parts ≡ construction_pieces parts (local_json (price tariff trip parts) (home_currency tariff trip)) (array_json part_json (part_sheets tariff trip parts)) (rate_json (home_currency tariff trip)) (array_json unit_json (unit_sheets tariff trip parts))
  unfolding construction_pieces
  spelled_pieces parts =
      front_of parts (construction_rest_json tariff trip parts)
      ∙ ap (λ (rest : List ℕ). codes "{\"line\":" ++ (string_json (line_text (line_of tariff trip parts)) ++ (codes ",\"local\":" ++ (local_json (price tariff trip parts) (home_currency tariff trip)
      ++ (codes ",\"parts\":" ++ (array_json part_json (part_sheets tariff trip parts) ++ rest)))))) (rest_of parts)

  valued_pieces : (parts : List Part) → construction_pieces parts (compact_text (local_data (price tariff trip parts) (home_currency tariff trip))) (compact_text (array (items_of (map part_data (part_sheets tariff trip parts))))) (compact_text (rate_data (home_currency tariff trip))) (compact_text (array (items_of (map unit_data (unit_sheets tariff trip parts))))) ≡ compact_text (construction_data tariff trip parts)
  unfolding construction_pieces construction_data string_json escape_byte
  valued_pieces parts = refl

  construction_text : (parts : List Part) → construction_json tariff trip parts ≡ compact_text (construction_data tariff trip parts)
  construction_text parts =
      let total = price tariff trip parts in
      let home = home_currency tariff trip in
      let all_parts = part_sheets tariff trip parts in
      let all_units = unit_sheets tariff trip parts in
      spelled_pieces parts
      ∙ ap (λ (t : List ℕ). construction_pieces parts t (array_json part_json all_parts) (rate_json home) (array_json unit_json all_units)) (local_text total home)
      ∙ ap (λ (t : List ℕ). construction_pieces parts (compact_text (local_data total home)) t (rate_json home) (array_json unit_json all_units)) (array_text part_json part_data part_text all_parts)
      ∙ ap (λ (t : List ℕ). construction_pieces parts (compact_text (local_data total home)) (compact_text (array (items_of (map part_data all_parts)))) t (array_json unit_json all_units)) (rate_text home)
      ∙ ap (λ (t : List ℕ). construction_pieces parts (compact_text (local_data total home)) (compact_text (array (items_of (map part_data all_parts)))) (compact_text (rate_data home)) t) (array_text unit_json unit_data unit_text all_units)
      ∙ valued_pieces parts

  best_text : (best : Option (List Part)) → best_json tariff trip best ≡ compact_text (best_data tariff trip best)
  best_text None = refl
  best_text (Some parts) = construction_text parts

  -- an object with two members that are texts, and LF
  whole : List ℕ → List ℕ → List ℕ
  whole edition best = codes "{\"edition\":" ++ edition ++ codes ",\"quotation\":" ++ best ++ codes "}\n"

  whole_text : (edition best : Data) → whole (compact_text edition) (compact_text best) ≡ json_line (object (member (codes "edition") edition (member (codes "quotation") best no_members)))
  unfolding whole escape_byte
  whole_text edition best = simp append_assoc refl

  pub quotation_text : (best : Option (List Part)) → quotation_json tariff trip best ≡ json_line (quotation_data tariff trip best)
  unfolding quotation_json quotation_data whole
  quotation_text best =
      ap (λ (t : List ℕ). whole t (best_json tariff trip best)) (edition_text tariff)
      ∙ ap (λ (t : List ℕ). whole (compact_text (edition_data tariff)) t) (best_text best)
      ∙ whole_text (edition_data tariff) (best_data tariff trip best)
