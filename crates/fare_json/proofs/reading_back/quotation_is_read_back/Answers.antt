use Rattle.std.proofs.Common.{List, Some, subst}
use Rattle.std.specs.Prelude.{All}
use Rattle.fare_tariff.specs.Tariff.{Tariff}
use Rattle.fare_calc.specs.declared.numbered_unit.NumberedUnit.{NumberedUnit}
use Rattle.fare_calc.specs.declared.part_sheet.PartSheet.{PartSheet}
use Rattle.fare_json.specs.Counts.{ArePartCounts, IsCount}
use Rattle.fare_json.specs.QuotationData.{quotation_data}
use Rattle.fare_json.specs.ReadBack.{IsReadable}
use Rattle.fare_json.proofs.ReadLemmas.{is_read_back_within}
use Rattle.fare_json.proofs.ReadQuotation.{lawful_readable}
use Rattle.fare_json.proofs.reading_back.quotation_is_read_back.Goals as goal

pub returns : goal.returns
returns c =
    let of = c.args.sheets.now in
    let readable : IsReadable 5 (quotation_data of.edition of.trip (Some of.parts)) =
    lawful_readable of.edition of.trip of.parts
    (subst (λ (tariff : Tariff). IsCount tariff.number) c.edition.ensures c.edition_is_counted.ensures.0)
    (subst (λ (sheets : List PartSheet). All ArePartCounts sheets) c.parts.ensures.value c.parts_are_counted.ensures)
    (subst (λ (units : List NumberedUnit). All (λ unit. IsCount unit.number) units) c.units.ensures.value c.units_are_counted.ensures) in
    record { readable = readable; back = is_read_back_within _ readable }
