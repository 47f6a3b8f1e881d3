use Rattle.std.proofs.Common.{◌≡◌, ◌≤◌, ℕ, sym, subst, arith}
use Rattle.fare_trip.specs.Itinerary.{count}
use Rattle.fare_rules.specs.Best.{IsBest}
use Rattle.fare_component.specs.Table.{Pricing}
use Rattle.fare_branch.proofs.LeastLemmas.{least_price_is, least_price_low}
use Rattle.fare_split.specs.PriceWord.{floor_of}
use Rattle.fare_split.proofs.tests.told_of.Goals as goal

pub told_at-requires : goal.told_at-requires
told_at-requires c =
    let P : Pricing → Type 0 = λ prices. floor_of prices ≤ 18446744073709551615 in
    let Q : Pricing → Type 0 = λ prices. floor_of prices ≤ c.in-Some.price in
    let sectors : c.count-sectors.result ≡ count c.args.trip.now = c.count-sectors.ensures.value in
    let few : c.count-sectors.result ≤ 16 = c.count-sectors.ensures.at_most in
    let best : IsBest c.args.edition.now c.args.trip.now _ c.in-Some.price = c.in-Some.ensures in
    record {
      low = subst P (sym c.in_ok-table.ensures) (least_price_low c.args.edition.now c.args.trip.now c.edition_is_valid.ensures.in_form (omega arith));
      price = subst Q (sym c.in_ok-table.ensures) ((least_price_is c.args.edition.now c.args.trip.now).under _ _ best.lawful);
    }
