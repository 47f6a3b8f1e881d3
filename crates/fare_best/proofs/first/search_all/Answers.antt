use Rattle.std.proofs.Common.{◌≡◌, ◌<◌, subst, ◌∙◌, ap, arith}
use Rattle.fare_trip.specs.Itinerary.{count}
use Rattle.fare_tariff.specs.Tariff.{Tariff}
use Rattle.fare_rules.specs.Valid.{HasFaresInForm}
use Rattle.fare_best.proofs.WalkedLemmas.{first_of_all}
use Rattle.fare_best.proofs.first.search_all.Goals as goal

pub returns : goal.returns
returns c =
    let form : HasFaresInForm c.args.table.now.edition = subst (λ (tariff : Tariff). HasFaresInForm tariff) c.edition.ensures c.edition_is_valid.ensures.in_form in
    let n : c.count-sectors.result ≡ count c.args.table.now.trip = c.count-sectors.ensures.value ∙ ap count c.trip.ensures in
    first_of_all c.args.table.now.edition c.args.table.now.trip c.args.k 40_000_000_000 c.walk_all.new.found
    c.walk_all.ensures
    (λ parts price l.
    let low : price < 40_000_000_000 = c.price_is_bounded.ensures c.args.table.now.edition c.args.table.now.trip parts price form (omega (arith, c.count-sectors.ensures.at_most)) l in
    omega arith)
