-- the next place of the slot is known
use Rattle.std.proofs.Common.{◌+◌, ◌<◌, length, map, get_or, drop, ap, sym, ◌∙◌, arith}
use Rattle.std.specs.List.{position_from}
use Rattle.fare_index.specs.Groups.{Grouped, group_of, is_in_group}
use Rattle.fare_index.proofs.Passed.{linked_at}
use Rattle.fare_index.proofs.groups.Groups.behind.Goals as goal

pub returns-in-None : goal.returns-in-None
returns-in-None g c = λ d.
    let within : c.args.place < length (map g.T.Keyed.key_of c.self.inside.items.now) = omega (arith, c.requires, ap (λ (grouped : Grouped). length grouped.keys) c.self.view_is) in
    sym c.in-None.is
    ∙ c.place.ensures
    ∙ c.index.ensures
    ∙ linked_at c.self.inside.places.now.slots (map g.T.Keyed.key_of c.self.inside.items.now) c.self.inside.places.now.links.items c.args.place d c.index.result.now c.self.invariant.links within
    ∙ ap (λ (grouped : Grouped). position_from (is_in_group grouped (group_of grouped (get_or grouped.keys c.args.place d))) (c.args.place + 1) (drop (c.args.place + 1) grouped.keys)) c.self.view_is

pub returns-in-Some : goal.returns-in-Some
returns-in-Some g c = λ d.
    let within : c.args.place < length (map g.T.Keyed.key_of c.self.inside.items.now) = omega (arith, c.requires, ap (λ (grouped : Grouped). length grouped.keys) c.self.view_is) in
    sym c.in-Some.is
    ∙ c.place.ensures
    ∙ c.index.ensures
    ∙ linked_at c.self.inside.places.now.slots (map g.T.Keyed.key_of c.self.inside.items.now) c.self.inside.places.now.links.items c.args.place d c.index.result.now c.self.invariant.links within
    ∙ ap (λ (grouped : Grouped). position_from (is_in_group grouped (group_of grouped (get_or grouped.keys c.args.place d))) (c.args.place + 1) (drop (c.args.place + 1) grouped.keys)) c.self.view_is
