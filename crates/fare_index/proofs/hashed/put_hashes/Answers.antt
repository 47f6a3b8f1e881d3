-- the hash at a place is what the call there left
use Rattle.std.proofs.Common.{sym, ◌∙◌}
use Rattle.fare_index.proofs.hashed.put_hashes.Goals as goal

pub returns : goal.returns
returns g c = λ i one hash within.
    let there = (c.for_each_mut.ensures i hash within).1 in
    let made = there.call one in
    (sym there.left ∙ made.0, made.1)
