-- the next place with the key of the fare is that of the next fare
use Rattle.std.proofs.Common.{◌≡◌, Some, sym, ◌∙◌}
use Rattle.fare_tariff.specs.Lookup.{fare_at}
use Rattle.fare_tariff.proofs.NextFares.{next_found, next_within}
use Rattle.fare_tariff.proofs.edition.Edition.next_fare.Goals as goal

pub number_at-requires : goal.number_at-requires
number_at-requires c =
    let there : fare_at c.args.self.now c.args.number ≡ Some c.in-Some.field-0.now = sym c.in-Some.ensures.fare in
    let found = rw c.filed.ensures.records at c.next.ensures in
    let few = rw c.filed.ensures.records at c.filed.ensures.in_limit in
    next_within c.args.self.now c.args.number c.in-Some.field-0.now there c.next.result found few

pub returns-in-Some : goal.returns-in-Some
returns-in-Some c =
    let there : fare_at c.args.self.now c.args.number ≡ Some c.in-Some.field-0.now = sym c.in-Some.ensures.fare in
    let found = rw c.filed.ensures.records at c.next.ensures in
    c.number_at.ensures ∙ next_found c.args.self.now c.args.number c.in-Some.field-0.now there c.next.result found
