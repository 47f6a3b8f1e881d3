-- The value of a quotation is read back from its text.
use Rattle.std.proofs.Common.{◌≡◌, ◌≤◌, ◌<◌, ◌^◌, ℕ, zero, suc, ◌+◌, ◌-◌, List, [], ◌∷◌, length, map, Option, Some, None, refl, arith}
use Rattle.std.specs.Prelude.{All}
use Rattle.std.specs.List.{range_with_len}
use Rattle.json.proofs.Printed.Decimals.{IsNumber-decimal}
use Rattle.serde_json.proofs.Numbers.{number_of-decimal}
use Rattle.fare_codes.specs.declared.city.City.{City}
use Rattle.fare_codes.specs.declared.nuc.Nuc.{Nuc}
use Rattle.fare_codes.specs.declared.rule_id.RuleId.{RuleId}
use Rattle.fare_trip.specs.Itinerary.{Itinerary}
use Rattle.fare_tariff.specs.Record.{FareRecord, CurrencyRecord}
use Rattle.fare_tariff.specs.Tariff.{Tariff}
use Rattle.fare_rules.specs.declared.miles.Mileage.{Mileage}
use Rattle.fare_rules.specs.declared.miles.Mileage.TheVariants.{Direct, Within, Excess, NoTpm, NoMpm, Over}
use Rattle.fare_rules.specs.declared.miles.Miles.{Miles}
use Rattle.fare_rules.specs.declared.part.Part.{Part}
use Rattle.fare_rules.specs.declared.unit_sheet.UnitKind.{UnitKind}
use Rattle.fare_rules.specs.declared.unit_sheet.UnitKind.TheVariants.{OW, RT, CT, OJ}
use Rattle.fare_rules.specs.Numbers.{numbers}
use Rattle.fare_rules.specs.UnitPrice.{price}
use Rattle.fare_calc.specs.declared.numbered_unit.NumberedUnit.{NumberedUnit}
use Rattle.fare_calc.specs.declared.part_sheet.PartSheet.{PartSheet}
use Rattle.fare_calc.specs.PartSheets.{home_currency, part_sheets}
use Rattle.fare_calc.specs.UnitSheets.{unit_sheets}
use Rattle.fare_json.specs.Counts.{AreMileageCounts, AreMilesCounts, ArePartCounts, IsCount}
use Rattle.fare_json.specs.QuotationData.{best_data, checked_data, construction_data, count, edition_data, fare_data, higher_data, local_data, measured_data, miles_data, minimum_data, part_data, quotation_data, rate_data, rule_data, sectors_data, sold_data, unit_data}
use Rattle.fare_json.specs.ReadBack.{IsReadable}
use Rattle.fare_json.proofs.ReadLemmas.{EachReadable, array_readable, edition_readable, from_all}

count_readable : (n : ℕ) → IsCount n → IsReadable 0 (count n)
count_readable n fits = record { reads = rw (number_of-decimal n fits) refl; numbers = IsNumber-decimal n fits; shallow = omega arith }

rule_readable : (rule : Option RuleId) → IsReadable 0 (rule_data rule)
rule_readable None = record { reads = refl; numbers = tt; shallow = omega arith }
rule_readable (Some id) = record { reads = refl; numbers = tt; shallow = omega arith }

fare_readable : (place : ℕ) (fare : FareRecord) → IsCount place → IsReadable 1 (fare_data place fare)
unfolding fare_data
fare_readable place fare fits =
    let rule = rule_readable fare.rule in
    record {
      reads = rw (number_of-decimal place fits, rule.reads) refl;
      numbers = (tt, (tt, (tt, (IsNumber-decimal place fits, (rule.numbers, tt)))));
      shallow = let r = rule.shallow in omega (arith, r);
    }

higher_readable : (higher : Option (City × City × Nuc)) → IsReadable 1 (higher_data higher)
unfolding higher_data
higher_readable None = record { reads = refl; numbers = tt; shallow = omega arith }
higher_readable (Some found) = record { reads = refl; numbers = (tt, (tt, (tt, tt))); shallow = omega arith }

measured_readable : (surcharge : ℕ) (miles : Miles) → IsCount surcharge → AreMilesCounts miles → IsReadable 1 (measured_data surcharge miles)
unfolding measured_data
measured_readable surcharge miles fits counts =
    record {
      reads = rw (number_of-decimal miles.allowance counts.0, number_of-decimal miles.mpm counts.1, number_of-decimal miles.net counts.2, number_of-decimal surcharge fits, number_of-decimal miles.sum counts.3) refl;
      numbers = (IsNumber-decimal miles.allowance counts.0, (IsNumber-decimal miles.mpm counts.1, (IsNumber-decimal miles.net counts.2, (IsNumber-decimal surcharge fits, (IsNumber-decimal miles.sum counts.3, tt)))));
      shallow = omega arith;
    }

miles_readable : (mileage : Mileage) → AreMileageCounts mileage → IsReadable 1 (miles_data mileage)
miles_readable Direct counts = record { reads = refl; numbers = tt; shallow = omega arith }
miles_readable (Within miles) counts = measured_readable 0 miles (omega arith) counts
miles_readable (Excess step miles) counts = measured_readable step miles counts.0 counts.1
miles_readable (NoTpm sector) counts = record { reads = refl; numbers = tt; shallow = omega arith }
miles_readable NoMpm counts = record { reads = refl; numbers = tt; shallow = omega arith }
miles_readable (Over miles) counts = record { reads = refl; numbers = tt; shallow = omega arith }

-- so many numbers from a first one on can be read back, where each of them can
range_readable : (many first : ℕ) → ((k : ℕ) → k < many → IsCount (first + k)) → EachReadable 0 (map count (range_with_len first many))
unfolding EachReadable
range_readable zero first fits = tt
range_readable (suc many) first fits =
    let here = fits zero (omega arith) in (
      count_readable first (omega (arith, here)),
      range_readable many (first + 1) (λ k below. let there = fits (suc k) (omega (arith, below)) in omega (arith, there)),
    )

sectors_readable : (start end : ℕ) → end < 256 → IsReadable 1 (sectors_data start end)
sectors_readable start end fits =
    array_readable 0 (map count (numbers (start + 1) (end + 1)))
    (range_readable (end + 1 - (start + 1)) (start + 1) (λ k below. omega (arith, fits, below)))

part_readable : (sheet : PartSheet) → ArePartCounts sheet → IsReadable 2 (part_data sheet)
unfolding part_data
part_readable sheet counts =
    let fare = fare_readable sheet.number sheet.fare counts.record_number in
    let higher = higher_readable sheet.higher in
    let miles = miles_readable sheet.mileage counts.miles in
    let sectors = sectors_readable sheet.start sheet.end counts.sectors in
    record {
      reads = rw (fare.reads, higher.reads, miles.reads, sectors.reads, number_of-decimal sheet.unit counts.unit) refl;
      numbers = (tt, (tt, (fare.numbers, (tt, (tt, (higher.numbers, (miles.numbers, (sectors.numbers, (tt, (IsNumber-decimal sheet.unit counts.unit, tt))))))))));
      shallow = let f = fare.shallow in let h = higher.shallow in let m = miles.shallow in let s = sectors.shallow in omega (arith, f, h, m, s);
    }

checked_readable : (minimum : ℕ) (check : List ℕ) → IsReadable 1 (checked_data minimum check)
unfolding checked_data
checked_readable minimum check = record { reads = refl; numbers = (tt, (tt, tt)); shallow = omega arith }

minimum_readable : (kind : UnitKind) (minimum : Option ℕ) → IsReadable 1 (minimum_data kind minimum)
minimum_readable OW (Some minimum) = checked_readable minimum _
minimum_readable CT (Some minimum) = checked_readable minimum _
minimum_readable OW None = record { reads = refl; numbers = tt; shallow = omega arith }
minimum_readable CT None = record { reads = refl; numbers = tt; shallow = omega arith }
minimum_readable RT minimum = record { reads = refl; numbers = tt; shallow = omega arith }
minimum_readable OJ minimum = record { reads = refl; numbers = tt; shallow = omega arith }

unit_readable : (unit : NumberedUnit) → IsCount unit.number → IsReadable 2 (unit_data unit)
unfolding unit_data
unit_readable unit fits =
    let minimum = minimum_readable unit.sheet.kind unit.sheet.minimum in
    record {
      reads = rw (minimum.reads, number_of-decimal unit.number fits) refl;
      numbers = (tt, (minimum.numbers, (IsNumber-decimal unit.number fits, (tt, (tt, tt)))));
      shallow = let m = minimum.shallow in omega (arith, m);
    }

local_readable : (sold : ℕ) (currency : Option CurrencyRecord) → IsReadable 1 (local_data sold currency)
unfolding sold_data
local_readable sold None = record { reads = refl; numbers = tt; shallow = omega arith }
local_readable sold (Some currency) = record { reads = refl; numbers = (tt, (tt, tt)); shallow = omega arith }

rate_readable : (currency : Option CurrencyRecord) → IsReadable 0 (rate_data currency)
rate_readable None = record { reads = refl; numbers = tt; shallow = omega arith }
rate_readable (Some currency) = record { reads = refl; numbers = tt; shallow = omega arith }

pub construction_readable : (tariff : Tariff) (trip : Itinerary) (parts : List Part) → All ArePartCounts (part_sheets tariff trip parts)
    → All (λ unit. IsCount unit.number) (unit_sheets tariff trip parts) → IsReadable 4 (construction_data tariff trip parts)
unfolding construction_data
construction_readable tariff trip parts part_counts unit_counts =
    let sold = local_readable (price tariff trip parts) (home_currency tariff trip) in
    let rate = rate_readable (home_currency tariff trip) in
    let sheets = array_readable 2 (map part_data (part_sheets tariff trip parts)) (from_all 2 part_data (part_sheets tariff trip parts) (λ k d below. part_readable _ (part_counts k d below))) in
    let units = array_readable 2 (map unit_data (unit_sheets tariff trip parts)) (from_all 2 unit_data (unit_sheets tariff trip parts) (λ k d below. unit_readable _ (unit_counts k d below))) in
    record {
      reads = rw (sold.reads, sheets.reads, rate.reads, units.reads) refl;
      numbers = (tt, (sold.numbers, (sheets.numbers, (rate.numbers, (tt, (units.numbers, tt))))));
      shallow = let a = sold.shallow in let b = sheets.shallow in let c = rate.shallow in let d = units.shallow in omega (arith, a, b, c, d);
    }

pub lawful_readable : (tariff : Tariff) (trip : Itinerary) (parts : List Part) → IsCount tariff.number
    → All ArePartCounts (part_sheets tariff trip parts) → All (λ unit. IsCount unit.number) (unit_sheets tariff trip parts)
    → IsReadable 5 (quotation_data tariff trip (Some parts))
unfolding quotation_data
lawful_readable tariff trip parts fits part_counts unit_counts =
    let edition = edition_readable tariff fits in
    let best = construction_readable tariff trip parts part_counts unit_counts in
    record {
      reads = rw (edition.reads, best.reads) refl;
      numbers = (edition.numbers, (best.numbers, tt));
      shallow = let a = edition.shallow in let b = best.shallow in omega (arith, a, b);
    }

pub none_readable : (tariff : Tariff) (trip : Itinerary) → IsCount tariff.number → IsReadable 5 (quotation_data tariff trip None)
unfolding quotation_data
none_readable tariff trip fits =
    let edition = edition_readable tariff fits in
    record {
      reads = rw edition.reads refl;
      numbers = (edition.numbers, (tt, tt));
      shallow = let a = edition.shallow in omega (arith, a);
    }
