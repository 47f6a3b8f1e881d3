-- the places that lead are the first of their slots
use Rattle.std.proofs.Common.{◌≡◌, ◌+◌, ◌<◌, Some, false, length, map, get_or, ap, subst, sym, ◌∙◌, arith}
use Rattle.std.specs.List.{position_from}
use Rattle.std.proofs.lemmas.List.{get_or_default}
use Rattle.fare_index.specs.Groups.{Grouped, group_of, is_in_group}
use Rattle.fare_index.proofs.groups.Groups.leads.Goals as goal

pub returns : goal.returns
returns g c =
    let leads = c.self.inside.places.now.leads.items in
    let within : c.args.place < length (map g.T.Keyed.key_of c.self.inside.items.now) = omega (arith, c.requires, ap (λ (grouped : Grouped). length grouped.keys) c.self.view_is) in
    let among : c.args.place + 1 < length c.self.inside.places.now.leads.items = omega (arith, within, c.self.invariant.many_leads) in
    let here : get_or c.self.inside.places.now.leads.items (c.args.place + 1) false ≡ c.index.result.now = get_or_default leads (c.args.place + 1) false c.index.result.now among ∙ sym c.index.ensures in
    λ d.
    let ends = c.self.invariant.lead c.args.place d within in (
      λ led. subst (λ (grouped : Grouped). position_from (is_in_group grouped (group_of grouped (get_or grouped.keys c.args.place d))) 0 grouped.keys ≡ Some c.args.place) c.self.view_is (ends.0 (here ∙ led)),
      λ first. sym here ∙ ends.1 (subst (λ (grouped : Grouped). position_from (is_in_group grouped (group_of grouped (get_or grouped.keys c.args.place d))) 0 grouped.keys ≡ Some c.args.place) (sym c.self.view_is) first),
    )
