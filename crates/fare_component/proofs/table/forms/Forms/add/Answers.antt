use Rattle.std.proofs.lemmas.List.Elements.{All-push, All-take}
use Rattle.fare_trip.specs.declared.sector.Sector.{Sector}
use Rattle.fare_component.specs.References.{AreReferencesFrom}
use Rattle.fare_component.proofs.ReferenceLemmas.{nothing_known}
use Rattle.fare_component.proofs.table.forms.Forms.add.Goals as goal
use Rattle.std.proofs.Common.{ap, ◌∙◌}

pub returns-clause-forms : goal.returns-clause-forms
returns-clause-forms c =
    let tariff = c.args.priced.now.edition.now in
    let trip = c.args.priced.now.trip.now in
    rw (c.in_ok-push.ensures.items, c.truncate.ensures.items)
    (All-push (AreReferencesFrom tariff trip c.args.tried.now.span.now.a) _ c.new.result
    (All-take (AreReferencesFrom tariff trip c.args.tried.now.span.now.a) 255 c.args.self.now.items.items c.requires.forms)
    (record {
      right = nothing_known tariff trip c.new.result c.new.ensures.none c.new.ensures.columns (c.new.ensures.reach tariff trip) c.new.ensures.asked;
      day = c.new.ensures.day ∙ ap (λ (s : Sector). s.day) c.sector-on.ensures;
    }))
