use Rattle.std.proofs.Common.{◌≡◌, ap, ◌∙◌, arith}
use Rattle.std.specs.Prelude.{None}
use Rattle.fare_legs.specs.Floor.{capped}
use Rattle.std.proofs.lemmas.List.{get_or-replicate}
use Rattle.fare_trip.specs.Itinerary.{count}
use Rattle.fare_component.proofs.LawLemmas.{entry_is_of_fare}
use Rattle.fare_floors.proofs.lasting.lasts.Goals as goal

pub returns : goal.returns
returns c i s low le home behind entry stands there cost e may =
    let is = entry_is_of_fare c.args.going.now.table.now.edition c.args.going.now.table.now.trip s home entry there in
    let n : c.count-sectors.result ≡ count c.args.going.now.table.now.trip = c.count-sectors.ensures.value ∙ ap count c.trip.ensures in
    (capped 0, get_or-replicate 17 i c.of.result None (omega (arith, is.rises, is.within, c.count-sectors.ensures.at_most)) ∙ c.of.ensures, omega arith)
