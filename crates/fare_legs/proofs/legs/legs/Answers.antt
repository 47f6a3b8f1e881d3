use Rattle.std.specs.Prelude.{None}
use Rattle.std.proofs.Common.{◌≡◌, refl, ◌<◌, List, replicate, subst, ◌∙◌, ap, arith, length-set}
use Rattle.fare_trip.specs.Itinerary.{count}
use Rattle.fare_tariff.specs.Tariff.{Tariff}
use Rattle.fare_component.specs.declared.table.entry.Entry.{Entry}
use Rattle.fare_legs.specs.Barred.{unless_barred}
use Rattle.fare_legs.specs.Costs.{single_cost, first_cost, back_cost}
use Rattle.fare_legs.specs.Legs.{AreLeastOf}
use Rattle.fare_legs.proofs.LegLemmas.{legs_all, legs_first, legs_more}
use Rattle.fare_component.specs.Table.{entries_of}
use Rattle.fare_legs.proofs.legs.legs.Goals as goal

pub loop-b-init : goal.loop-b-init
loop-b-init c =
    let tariff = c.args.table.now.edition in
    let trip = c.args.table.now.trip in
    record {
      long_alone = refl;
      alone = legs_first tariff trip (unless_barred tariff c.args.barred.now single_cost) c.args.a (replicate 17 None);
      long_first = refl;
      first = legs_first tariff trip (unless_barred tariff c.args.barred.now first_cost) c.args.a (replicate 17 None);
      long_last = refl;
      last = legs_first tariff trip (unless_barred tariff c.args.barred.now back_cost) c.args.a (replicate 17 None);
    }

pub loop-b-preserved : goal.loop-b-preserved
loop-b-preserved c =
    let tariff = c.args.table.now.edition in
    let trip = c.args.table.now.trip in
    let legs = c.loop-b.legs in
    let known = c.loop-b.invariant in
    let P : List Entry → Type 0 = λ entries. AreLeastOf tariff c.args.barred.now entries c.cheapest-least.result in
    let T : Tariff → Type 0 = λ of. AreLeastOf of c.args.barred.now c.entries.result.now c.cheapest-least.result in
    let least : AreLeastOf c.args.table.now.edition c.args.barred.now (entries_of tariff trip c.args.a c.loop-b.b) c.cheapest-least.result = subst P c.entries.ensures.entries (subst T c.edition.ensures c.cheapest-least.ensures) in
    record {
      long_alone = length-set legs.alone c.loop-b.b c.cheapest-least.result.alone ∙ known.long_alone;
      alone = legs_more tariff trip (unless_barred tariff c.args.barred.now single_cost) c.args.a c.loop-b.b legs.alone c.cheapest-least.result.alone (omega (arith, known.long_alone)) known.alone least.alone;
      long_first = length-set legs.first c.loop-b.b c.cheapest-least.result.first ∙ known.long_first;
      first = legs_more tariff trip (unless_barred tariff c.args.barred.now first_cost) c.args.a c.loop-b.b legs.first c.cheapest-least.result.first (omega (arith, known.long_first)) known.first least.first;
      long_last = length-set legs.last c.loop-b.b c.cheapest-least.result.last ∙ known.long_last;
      last = legs_more tariff trip (unless_barred tariff c.args.barred.now back_cost) c.args.a c.loop-b.b legs.last c.cheapest-least.result.last (omega (arith, known.long_last)) known.last least.last;
    }

pub returns : goal.returns
returns c =
    let tariff = c.args.table.now.edition in
    let trip = c.args.table.now.trip in
    let legs = c.loop-b.legs in
    let last : c.count-count.result ≡ count trip = c.count-count.ensures.value ∙ ap count c.trip.ensures in
    let past : count trip < c.loop-b.b = omega arith in
    record {
      alone = legs_all tariff trip (unless_barred tariff c.args.barred.now single_cost) c.args.a c.loop-b.b legs.alone past c.loop-b.invariant.alone;
      first = legs_all tariff trip (unless_barred tariff c.args.barred.now first_cost) c.args.a c.loop-b.b legs.first past c.loop-b.invariant.first;
      last = legs_all tariff trip (unless_barred tariff c.args.barred.now back_cost) c.args.a c.loop-b.b legs.last past c.loop-b.invariant.last;
    }
