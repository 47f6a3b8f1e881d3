use Rattle.std.proofs.Common.{arith}
use Rattle.fare_component.proofs.ReferenceLemmas.{references_put}
use Rattle.fare_component.proofs.table.references.References.put.Goals as goal

pub returns-clause-right : goal.returns-clause-right
returns-clause-right c =
    references_put c.args.priced.now.edition.now c.args.priced.now.trip.now c.args.self.now c.args.i c.args.j c.args.found c.of.result
    (omega (arith, c.count-count.ensures.value, c.count-count.ensures.at_most)) c.requires.rises c.requires.within
    c.requires.right c.requires.found c.of.ensures
