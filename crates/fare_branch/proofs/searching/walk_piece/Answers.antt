use Rattle.std.proofs.Common.{arith, ◌∙◌}
use Rattle.fare_branch.proofs.PieceLemmas.{piece_more, piece_all}
use Rattle.fare_branch.proofs.searching.walk_piece.Goals as goal

pub loop-number-preserved : goal.loop-number-preserved
loop-number-preserved g c = record {
  fixed = c.walk_choice.ensures.fixed ∙ c.loop-number.invariant.fixed;
  holds = c.walk_choice.ensures.holds;
  within = omega arith;
  walk = piece_more c.args.table.now.edition c.args.table.now.trip c.args.piece.first c.loop-number.number (g.S.Seeker.passed c.args.seeker.now c.args.known.now) (g.S.Seeker.passed c.loop-number.seeker c.loop-number.known) (g.S.Seeker.passed c.walk_choice.new.seeker c.walk_choice.new.known) (g.S.Seeker.has c.args.seeker.now c.args.known.now) (g.S.Seeker.has c.loop-number.seeker c.loop-number.known) (g.S.Seeker.has c.walk_choice.new.seeker c.walk_choice.new.known)
      c.loop-number.auto.number c.loop-number.invariant.walk c.walk_choice.ensures.walk;
}

pub returns-clause-walk : goal.returns-clause-walk
returns-clause-walk g c =
    piece_all c.args.table.now.edition c.args.table.now.trip c.args.piece c.loop-number.number (g.S.Seeker.passed c.args.seeker.now c.args.known.now) (g.S.Seeker.passed c.loop-number.seeker c.loop-number.known) (g.S.Seeker.has c.args.seeker.now c.args.known.now) (g.S.Seeker.has c.loop-number.seeker c.loop-number.known)
    c.loop-number.invariant.within (λ past. omega arith) c.loop-number.invariant.walk
