use Rattle.std.proofs.Common.{◌≡◌, true, Some, ap, sym, ◌∙◌}
use Rattle.fare_rules.specs.Construction.{start_of, end_of, part_at}
use Rattle.fare_rules.specs.Shape.{is_ow}
use Rattle.fare_component.specs.Table.{single_price}
use Rattle.fare_units.proofs.SingleLemmas.{price_alone}
use Rattle.fare_units.proofs.prices.price.single_of_part.Goals as goal

pub returns-in-Some-clause-price : goal.returns-in-Some-clause-price
returns-in-Some-clause-price c =
    let way : is_ow c.args.table.now.edition c.args.parts.now c.args.k ≡ true = rw c.edition.ensures at (sym c.is_ow.ensures ∙ c.if-not-is_ow.false) in
    let told = rw (c.start_of-a.ensures.value, c.end_of-b.ensures.value, c.part_at.ensures, c.trip.ensures) at c.single.ensures.value in
    let price : single_price c.args.table.now.edition c.args.table.now.trip (start_of c.args.table.now.trip c.args.parts.now c.args.k) (end_of c.args.parts.now c.args.k) (part_at c.args.parts.now c.args.k).fare ≡ Some c.hundredths.result =
    sym told ∙ c.in-Some.is ∙ ap Some (sym c.hundredths.ensures.value) in
    price_alone c.args.table.now.edition c.args.table.now.trip c.args.parts.now c.args.k way c.hundredths.result price
