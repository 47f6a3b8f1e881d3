use Rattle.std.proofs.Common.{arith}
use Rattle.fare_line.specs.declared.reading.pieces.Piece.TheVariants.{Part}
use Rattle.fare_line.proofs.DraftLaws.{allowed_of, part_kept, part_room}
use Rattle.fare_line.proofs.reading.draft.Draft.push_part.Goals as goal

pub push_to-requires : goal.push_to-requires
push_to-requires c =
    let allowed = allowed_of _ _ (Part c.args.part) c.self.view_is c.requires in
    part_room _ c.args.part c.self.invariant.1 allowed

pub invariant_of-self : goal.invariant_of-self
invariant_of-self c =
    let allowed = allowed_of _ _ (Part c.args.part) c.self.view_is c.requires in
    let all = c.len-self-inside.ensures.value in (
      omega arith,
      part_kept c.self.inside.from c.self.inside.sectors.items c.self.inside.closed c.self.inside.parts.items c.self.inside.begun c.self.inside.gap c.self.inside.plus.items
          c.len-self-inside.result c.push_to.new.parts.items c.args.part c.self.invariant.1 allowed all c.push_to.ensures,
    )
