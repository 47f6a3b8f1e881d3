use Rattle.std.proofs.Common.{◌≡◌, ◌≤◌, ◌∙◌, List, ap, subst, arith, map}
use Rattle.std.proofs.lemmas.List.{take_all}
use Rattle.fare_trip.specs.Itinerary.{Itinerary, count}
use Rattle.fare_calc.specs.declared.part_sheet.PartSheet.{PartSheet}
use Rattle.fare_calc.specs.LineOf.{line_part}
use Rattle.fare_calc.specs.PartSheets.{part_sheets}
use Rattle.fare_calc.proofs.LineParts.{lawful_parts_are_led, lawful_parts_share}
use Rattle.fare_calc.proofs.composing.parts.line_parts.Goals as goal

pub returns-clause-form : goal.returns-clause-form
returns-clause-form c =
    let of = c.args.sheets.now in
    let all : c.loop-sheet.parts.items ≡ map line_part (part_sheets of.edition of.trip of.parts) =
    c.loop-sheet.invariant.kept
    ∙ ap (λ (xs : List PartSheet). map line_part xs) (take_all c.loop-sheet.sheet-index c.parts-sheet-items.result.now c.loop-sheet-test.false ∙ c.parts-sheet-items.ensures.value) in
    lawful_parts_share of.edition of.trip of.parts c.loop-sheet.parts.items all c.price-lawful.ensures.lawful (subst (λ (t : Itinerary). count t ≤ 16) c.trip.ensures (omega (arith, c.count-sectors.ensures))) (subst (λ (t : Itinerary). 1 ≤ count t) c.trip.ensures (omega (arith, c.count-sectors.ensures))) c.loop-sheet.invariant.form

pub returns-clause-led : goal.returns-clause-led
returns-clause-led c =
    let of = c.args.sheets.now in
    let all : c.loop-sheet.parts.items ≡ map line_part (part_sheets of.edition of.trip of.parts) =
    c.loop-sheet.invariant.kept
    ∙ ap (λ (xs : List PartSheet). map line_part xs) (take_all c.loop-sheet.sheet-index c.parts-sheet-items.result.now c.loop-sheet-test.false ∙ c.parts-sheet-items.ensures.value) in
    lawful_parts_are_led of.edition of.trip of.parts c.loop-sheet.parts.items all c.price-lawful.ensures.lawful (subst (λ (t : Itinerary). count t ≤ 16) c.trip.ensures (omega (arith, c.count-sectors.ensures))) (subst (λ (t : Itinerary). 1 ≤ count t) c.trip.ensures (omega (arith, c.count-sectors.ensures)))
