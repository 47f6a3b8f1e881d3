use Rattle.std.proofs.Common.{◌∙◌, List, ap, arith}
use Rattle.fare_rules.specs.declared.part.Part.{Part}
use Rattle.fare_calc.specs.PartSheets.{sheet_of_part}
use Rattle.fare_calc.proofs.LineParts.{sheet_found}
use Rattle.fare_calc.proofs.sheets.fitting_sheet.Goals as goal

pub returns-clause-fits : goal.returns-clause-fits
returns-clause-fits c =
    sheet_found c.args.edition.now c.args.trip.now c.args.c.now c.args.k c.requires.lawful (omega arith) c.requires.place.0 c.requires.place.1 c.sheet_of_part.result
    (c.sheet_of_part.ensures.value ∙ ap (λ (parts : List Part). sheet_of_part c.args.edition.now c.args.trip.now parts c.args.k) c.parts.ensures.parts)
    c.sheet_of_part.ensures.bound
