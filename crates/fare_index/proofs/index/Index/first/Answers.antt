-- the first place of the key among the keys of the items
use Rattle.std.proofs.Common.{◌∙◌, ap, map}
use Rattle.std.specs.List.{position_from}
use Rattle.fare_index.specs.Key.{same_key}
use Rattle.fare_index.proofs.Items.{position_by}
use Rattle.fare_index.proofs.index.Index.first.Goals as goal

pub returns : goal.returns
returns g c =
    c.seek.ensures
    ∙ ap (λ items. position_from (same_key c.args.key.now) 0 (map g.T.Keyed.key_of items)) (c.as_slice.ensures.value ∙ c.self.view_is)
    ∙ position_by g.T.Keyed.key_of (same_key c.args.key.now) 0 c.args.self.now
