-- the next fare behind the one that is shown comes after it
use Rattle.std.proofs.Common.{◌≡◌, refl, sym, ◌+◌, ◌<◌, ◌∙◌, rules}
use Rattle.std.specs.Prelude.{Some}
use Rattle.fare_records.specs.declared.limits.TheConstants.{MOST_FARES_BETWEEN}
use Rattle.fare_tariff.specs.Lookup.{nth_fare}
use Rattle.fare_tariff.proofs.FoundOptions.{of_some}
use Rattle.fare_component.proofs.CursorLemmas.{stands_behind}
use Rattle.fare_component.proofs.table.cursor.cursor_past.Goals as goal

pub returns-clause-stands : goal.returns-clause-stands
returns-clause-stands c =
    let tariff = c.args.edition.now in
    let place = c.args.cursor.place in
    let turn = c.fares_come_in_turn.ensures in
    let shown : c.args.cursor.next ≡ Some c.args.number = search rules in
    let next : c.next_fare.result ≡ nth_fare tariff c.args.market.now.from c.args.market.now.to c.args.market.now.ind (place + 1) =
    c.next_fare.ensures ∙ turn.next c.args.market.now.from c.args.market.now.to c.args.market.now.ind place c.args.number (sym c.requires.next ∙ shown) in
    stands_behind tariff c.args.market.now.from c.args.market.now.to c.args.market.now.ind c.args.number c.args.cursor (record { place = place + 1; next = c.next_fare.result })
    c.requires shown refl next
    (of_some c.next_fare.result (place + 1 < MOST_FARES_BETWEEN) (λ n found. turn.few c.args.market.now.from c.args.market.now.to c.args.market.now.ind (place + 1) n (sym next ∙ found)))
