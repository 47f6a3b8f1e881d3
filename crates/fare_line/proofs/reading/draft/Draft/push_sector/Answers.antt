use Rattle.std.proofs.Common.{arith, ap, lit<}
use Rattle.fare_line.specs.reader.Draft.{count}
use Rattle.fare_line.proofs.DraftLaws.{few_sectors, sectors_of}
use Rattle.fare_line.proofs.reading.draft.Draft.push_sector.Goals as goal

pub push-requires : goal.push-requires
push-requires c =
    let few = few_sectors _ c.self.invariant.1 in
    let is = ap count c.self.view_is in
    let all = sectors_of c.self.inside.sectors.items c.self.inside.closed c.self.invariant.0 in
    let below = c.requires.1 in
    (lit< tt, omega arith)
