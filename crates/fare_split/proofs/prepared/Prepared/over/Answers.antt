use Rattle.std.proofs.Common.{◌≡◌, ◌≤◌, refl, ap, sym, subst, ◌∙◌, arith}
use Rattle.fare_trip.specs.Itinerary.{count}
use Rattle.fare_rules.specs.Valid.{HasFaresInForm}
use Rattle.fare_component.specs.Table.{Pricing}
use Rattle.fare_branch.proofs.LeastLemmas.{least_price_low}
use Rattle.fare_split.specs.PriceWord.{floor_of}
use Rattle.fare_split.specs.Rows.{choice_count}
use Rattle.fare_split.proofs.AnswerLemmas.{made_prepared, made_fresh}
use Rattle.fare_split.proofs.prepared.Prepared.over.Goals as goal

pub opened-requires : goal.opened-requires
opened-requires c =
    let sectors : c.count-sectors.result ≡ count c.args.table.trip = c.count-sectors.ensures.value ∙ ap count c.trip.ensures in
    let few : c.count-sectors.result ≤ 16 = c.count-sectors.ensures.at_most in
    record { low = least_price_low c.args.table.edition c.args.table.trip (subst HasFaresInForm c.edition.ensures c.edition_is_valid.ensures.in_form) (omega arith) }

pub seated-requires-clause-low : goal.seated-requires-clause-low
seated-requires-clause-low c =
    let P : Pricing → Type 0 = λ prices. floor_of prices ≤ 18446744073709551615 in
    let sectors : c.count-sectors.result ≡ count c.args.table.trip = c.count-sectors.ensures.value ∙ ap count c.trip.ensures in
    let few : c.count-sectors.result ≤ 16 = c.count-sectors.ensures.at_most in
    subst P (sym c.in_ok-word.ensures.key) (least_price_low c.args.table.edition c.args.table.trip (subst HasFaresInForm c.edition.ensures c.edition_is_valid.ensures.in_form) (omega arith))

pub invariant_of-result : goal.invariant_of-result
invariant_of-result c =
    let sectors : c.count-sectors.result ≡ count c.args.table.trip = c.count-sectors.ensures.value ∙ ap count c.trip.ensures in
    let few : c.count-sectors.result ≤ 16 = c.count-sectors.ensures.at_most in
    made_prepared c.in_ok-word.word.shared.table_id c.args.table c.in_ok-word.word.shared.key
    (choice_count c.args.table) c.args.workers c.as_slice.result.now c.in_ok-pieces.pieces.items c.unsettled-results.result.items
    c.in_ok-workers.workers.items c.in_ok-word.ensures.one_word c.in_ok-word.ensures.key (least_price_low c.args.table.edition c.args.table.trip (subst HasFaresInForm c.edition.ensures c.edition_is_valid.ensures.in_form) (omega arith)) c.requires.some c.requires.few c.as_slice.ensures.value
    c.in_ok-pieces.ensures.count refl c.in_ok-pieces.ensures.split c.unsettled-results.ensures.count c.in_ok-workers.ensures.count
    c.in_ok-workers.ensures.seated

pub returns : goal.returns
returns c =
    made_fresh c.args.table.edition c.args.table.trip c.args.table
    (choice_count c.args.table) c.args.workers 18446744073709551615 c.as_slice.result.now c.in_ok-pieces.pieces.items c.unsettled-results.result.items
    refl c.as_slice.ensures.value c.in_ok-pieces.ensures.count refl c.in_ok-pieces.ensures.split c.unsettled-results.ensures.count
    c.unsettled-results.ensures.rows
