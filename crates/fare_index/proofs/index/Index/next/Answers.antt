-- the next place of the slot is known
use Rattle.std.proofs.Common.{◌<◌, ◌+◌, length, map, drop, get_or, ap, sym, ◌∙◌, arith}
use Rattle.std.specs.List.{position_from}
use Rattle.std.proofs.lemmas.List.{get_or_default, length-map}
use Rattle.fare_index.specs.Key.{same_key}
use Rattle.fare_index.specs.Slots.{share_slot}
use Rattle.fare_index.proofs.Items.{key_at_place, position_behind}
use Rattle.fare_index.proofs.Passed.{linked_at}
use Rattle.fare_index.proofs.index.Index.next.Goals as goal

pub seek-requires-clause-first : goal.seek-requires-clause-first
seek-requires-clause-first g c = λ κs outlives.
    let slots = c.self.inside.places.slots in
    let place = c.args.place in
    let items = c.self.inside.items.items in
    let keys = map g.T.Keyed.key_of c.self.inside.items.items in
    let one = c.index.result.now in
    let here : c.args.place < length c.self.inside.items.items = omega (arith, c.requires, ap length c.self.view_is) in
    let within : c.args.place < length (map g.T.Keyed.key_of c.self.inside.items.items) = omega (arith, here, length-map items g.T.Keyed.key_of) in
    c.index-2.ensures
    ∙ linked_at slots keys c.self.inside.places.links.items place (g.T.Keyed.key_of one) c.index-2.result.now c.self.invariant.placed.links within
    ∙ ap (λ k. position_from (share_slot slots k) (place + 1) (drop (place + 1) keys))
    (key_at_place g.T.Keyed.key_of items place one ∙ ap g.T.Keyed.key_of (sym c.index.ensures) ∙ sym c.key.ensures.key)
    ∙ ap (λ l. position_from (share_slot slots c.key.result) (place + 1) (drop (place + 1) (map g.T.Keyed.key_of l))) (sym c.as_slice.ensures.value)

pub returns : goal.returns
returns g c = λ d.
    let place = c.args.place in
    let items = c.self.inside.items.items in
    let one = c.index.result.now in
    let here : c.args.place < length c.self.inside.items.items = omega (arith, c.requires, ap length c.self.view_is) in
    c.seek.ensures
    ∙ ap (λ l. position_from (same_key c.key.result) (place + 1) (drop (place + 1) (map g.T.Keyed.key_of l))) (c.as_slice.ensures.value ∙ c.self.view_is)
    ∙ position_behind g.T.Keyed.key_of (same_key c.key.result) (place + 1) (place + 1) c.args.self.now
    ∙ ap (λ k. position_from (λ other. same_key k (g.T.Keyed.key_of other)) (place + 1) (drop (place + 1) c.args.self.now))
    (c.key.ensures.key ∙ ap g.T.Keyed.key_of (c.index.ensures ∙ get_or_default items place one d here ∙ ap (λ l. get_or l place d) c.self.view_is))
