-- the walk, step by step
use Rattle.std.proofs.Common.{map, sym, ◌∙◌, arith}
use Rattle.std.proofs.lemmas.List.{length-map}
use Rattle.fare_index.proofs.Items.{key_read}
use Rattle.fare_index.proofs.Passed.{linked_at}
use Rattle.fare_index.proofs.Walked.{walk_at, walk_begins, walk_found, walk_on, walk_ends}
use Rattle.fare_index.proofs.places.seek.Goals as goal

pub loop-place-init : goal.loop-place-init
loop-place-init g c = walk_begins _ (map g.T.Keyed.key_of c.args.items.now) c.args.key.now c.args.from c.args.first
    (omega (arith, c.requires.within, length-map c.args.items.now g.T.Keyed.key_of)) c.requires.first

pub bounds-items-place : goal.bounds-items-place
bounds-items-place g c =
    let keys = map g.T.Keyed.key_of c.args.items.now in
    let here = walk_at _ (map g.T.Keyed.key_of c.args.items.now) c.args.key.now c.args.from c.loop-place.at c.in-Some.place (sym c.in-Some.ensures) c.loop-place.invariant in
    omega (arith, here.within, length-map c.args.items.now g.T.Keyed.key_of)

pub offset_bounds-items-place : goal.offset_bounds-items-place
offset_bounds-items-place g c =
    let here = walk_at _ (map g.T.Keyed.key_of c.args.items.now) c.args.key.now c.args.from c.loop-place.at c.in-Some.place (sym c.in-Some.ensures) c.loop-place.invariant in
    omega (arith, here.within, length-map c.args.items.now g.T.Keyed.key_of)

pub returns-then-has : goal.returns-then-has
returns-then-has g c =
    let keys = map g.T.Keyed.key_of c.args.items.now in
    let here = walk_at _ (map g.T.Keyed.key_of c.args.items.now) c.args.key.now c.args.from c.loop-place.at c.in-Some.place (sym c.in-Some.ensures) c.loop-place.invariant in
    let one = c.index-items-place.result in
    let read = key_read g.T.Keyed.key_of c.args.items.now c.in-Some.place c.index-items-place.result c.index-items-place.is in
    walk_found _ keys c.args.key.now c.args.from c.loop-place.at c.in-Some.place (g.T.Keyed.key_of one) (sym c.in-Some.ensures) read c.if-has.ensures c.loop-place.invariant

pub index-at-requires : goal.index-at-requires
index-at-requires g c =
    let keys = map g.T.Keyed.key_of c.args.items.now in
    let here = walk_at _ (map g.T.Keyed.key_of c.args.items.now) c.args.key.now c.args.from c.loop-place.at c.in-Some.place (sym c.in-Some.ensures) c.loop-place.invariant in
    omega (arith, here.within, c.requires.places.many_links, c.args.places.now.links.ok)

pub loop-place-smaller : goal.loop-place-smaller
loop-place-smaller g c =
    let keys = map g.T.Keyed.key_of c.args.items.now in
    let here = walk_at _ (map g.T.Keyed.key_of c.args.items.now) c.args.key.now c.args.from c.loop-place.at c.in-Some.place (sym c.in-Some.ensures) c.loop-place.invariant in
    let one = c.index-items-place.result in
    let read = key_read g.T.Keyed.key_of c.args.items.now c.in-Some.place c.index-items-place.result c.index-items-place.is in
    let slots = c.args.places.now.slots in
    let linked = c.index-at.ensures ∙ linked_at slots keys c.args.places.now.links.items c.in-Some.place (g.T.Keyed.key_of one) c.index-at.result.now c.requires.places.links here.within in
    (walk_on slots keys c.args.key.now c.args.from c.loop-place.at c.index-at.result.now c.in-Some.place (g.T.Keyed.key_of one) (sym c.in-Some.ensures) read c.if-has.ensures linked c.loop-place.invariant).1

pub loop-place-preserved : goal.loop-place-preserved
loop-place-preserved g c =
    let keys = map g.T.Keyed.key_of c.args.items.now in
    let here = walk_at _ (map g.T.Keyed.key_of c.args.items.now) c.args.key.now c.args.from c.loop-place.at c.in-Some.place (sym c.in-Some.ensures) c.loop-place.invariant in
    let one = c.index-items-place.result in
    let read = key_read g.T.Keyed.key_of c.args.items.now c.in-Some.place c.index-items-place.result c.index-items-place.is in
    let slots = c.args.places.now.slots in
    let linked = c.index-at.ensures ∙ linked_at slots keys c.args.places.now.links.items c.in-Some.place (g.T.Keyed.key_of one) c.index-at.result.now c.requires.places.links here.within in
    (walk_on slots keys c.args.key.now c.args.from c.loop-place.at c.index-at.result.now c.in-Some.place (g.T.Keyed.key_of one) (sym c.in-Some.ensures) read c.if-has.ensures linked c.loop-place.invariant).0

pub returns : goal.returns
returns g c = walk_ends _ (map g.T.Keyed.key_of c.args.items.now) c.args.key.now c.args.from c.loop-place.at (sym c.in_default.ensures) c.loop-place.invariant
