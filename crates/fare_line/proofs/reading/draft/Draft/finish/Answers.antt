use Rattle.fare_line.specs.declared.reading.pieces.Piece.TheVariants.{End}
use Rattle.fare_line.proofs.DraftLaws.{allowed_of, kept_is_line}
use Rattle.fare_line.proofs.reading.draft.Draft.finish.Goals as goal

pub invariant_of-result : goal.invariant_of-result
invariant_of-result c =
    let allowed = allowed_of _ _ (End c.args.totals) c.self.view_is c.requires in
    kept_is_line c.self.inside.from c.self.inside.sectors.items c.self.inside.closed c.self.inside.parts.items c.self.inside.begun c.self.inside.gap c.self.inside.plus.items
    c.args.totals c.self.invariant.1 allowed
