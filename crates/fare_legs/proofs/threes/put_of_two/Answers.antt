use Rattle.std.proofs.Common.{◌≡◌, false, sym, ◌∙◌}
use Rattle.std.proofs.lemmas.List.Elements.{All-set}
use Rattle.fare_legs.specs.Threes.{is_of_three, IsOfTwo}
use Rattle.fare_legs.proofs.ThreeLemmas.{of_two}
use Rattle.fare_legs.proofs.threes.put_of_two.Goals as goal

pub returns-in-Some : goal.returns-in-Some
returns-in-Some c =
    let tariff = c.args.table.now.edition in
    let trip = c.args.table.now.trip in
    let none : is_of_three tariff c.args.rules.now c.args.number ≡ false = cc in
    All-set (IsOfTwo tariff trip) c.args.fares.now c.in-Some.place c.args.number (of_two tariff trip c.args.rules.now c.args.number c.requires.all none) c.requires.two
