use Rattle.std.proofs.Common.{refl}
use Rattle.fare_component.proofs.CursorLemmas.{stands_at_first}
use Rattle.fare_component.proofs.table.cursor.first_cursor.Goals as goal

pub returns-clause-stands : goal.returns-clause-stands
returns-clause-stands c =
    stands_at_first c.args.edition.now c.args.market.now.from c.args.market.now.to c.args.market.now.ind (record { place = 0; next = c.nth_fare.result }) refl c.nth_fare.ensures.number c.nth_fare.ensures.few
