-- what holds of each item and its hash holds of the lists
use Rattle.std.proofs.Common.{◌∙◌, arith}
use Rattle.fare_index.proofs.Items.{all_hold, hashes_made}
use Rattle.fare_index.proofs.hashed.hashes_of.Goals as goal

pub returns-clause-hashes : goal.returns-clause-hashes
returns-clause-hashes g c =
    let places = c.as_mut_slice.ensures.len in
    let as_many = c.in_ok-hashes.ensures.len in
    hashes_made g.T.Keyed.key_of g.T.Keyed.holds_of c.args.items.now c.in_ok-hashes.hashes.items c.put_hashes.new.hashes c.in_ok-hashes.hashes.len (c.put_hashes.auto.hashes ∙ places) as_many
    (λ i one hash within. c.put_hashes.ensures i one hash (omega (arith, within, places, as_many)))

pub returns-clause-by_type : goal.returns-clause-by_type
returns-clause-by_type g c =
    let places = c.as_mut_slice.ensures.len in
    let as_many = c.in_ok-hashes.ensures.len in
    all_hold g.T.Keyed.key_of g.T.Keyed.holds_of c.args.items.now c.put_hashes.new.hashes (c.put_hashes.auto.hashes ∙ places ∙ as_many)
    (λ i one hash within. c.put_hashes.ensures i one hash (omega (arith, within, places, as_many)))
