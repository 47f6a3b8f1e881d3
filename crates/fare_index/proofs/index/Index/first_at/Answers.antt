-- a place that is the first of its slot is the first of its key
use Rattle.std.proofs.Common.{◌≡◌, ◌+◌, ◌<◌, true, false, length, get_or, map, ap, sym, ◌∙◌, arith}
use Rattle.std.specs.List.{position_from}
use Rattle.std.proofs.lemmas.List.{get_or_default, length-map}
use Rattle.fare_index.specs.Key.{same_key}
use Rattle.fare_index.proofs.Items.{key_at_place, position_by}
use Rattle.fare_index.proofs.Walked.{leads_key}
use Rattle.fare_index.proofs.index.Index.first_at.Goals as goal

pub returns-then-index : goal.returns-then-index
returns-then-index g c =
    let items = c.self.inside.items.items in
    let keys = map g.T.Keyed.key_of c.self.inside.items.items in
    let leads = c.self.inside.places.leads.items in
    let here : c.args.place < length c.self.inside.items.items = omega (arith, c.requires, ap length c.self.view_is) in
    let within : c.args.place < length (map g.T.Keyed.key_of c.self.inside.items.items) = omega (arith, here, length-map items g.T.Keyed.key_of) in
    let among : c.args.place + 1 < length c.self.inside.places.leads.items = omega (arith, within, c.self.invariant.placed.many_leads) in
    let led : get_or leads (c.args.place + 1) false ≡ true = get_or_default leads (c.args.place + 1) false c.index.result.now among ∙ sym c.index.ensures ∙ c.if-index.true in
    λ d.
    leads_key c.self.inside.places.slots keys c.args.place (g.T.Keyed.key_of d) within ((c.self.invariant.placed.lead c.args.place (g.T.Keyed.key_of d) within).0 led)
    ∙ ap (λ k. position_from (same_key k) 0 (map g.T.Keyed.key_of c.self.inside.items.items)) (key_at_place g.T.Keyed.key_of items c.args.place d)
    ∙ position_by g.T.Keyed.key_of (same_key (g.T.Keyed.key_of (get_or c.self.inside.items.items c.args.place d))) 0 items
    ∙ ap (λ l. position_from (λ one. same_key (g.T.Keyed.key_of (get_or l c.args.place d)) (g.T.Keyed.key_of one)) 0 l) c.self.view_is
