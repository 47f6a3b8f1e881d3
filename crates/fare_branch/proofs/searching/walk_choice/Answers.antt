use Rattle.std.proofs.Common.{List, refl, subst}
use Rattle.fare_rules.specs.declared.part.Part.{Part}
use Rattle.fare_units.specs.Walk.{GoesOn, IsPart}
use Rattle.fare_branch.specs.Sought.{IsWalk}
use Rattle.fare_branch.proofs.PieceLemmas.{choice_walked}
use Rattle.fare_branch.proofs.searching.walk_choice.Goals as goal

pub returns-clause-walk : goal.returns-clause-walk
returns-clause-walk g c =
    let part : Part = record { end = c.in-Some.end; unit = 1; fare = c.in-Some.fare } in
    let P : List Part → Type 0 = λ front. IsWalk c.args.stage.now.table.now.edition c.args.stage.now.table.now.trip (GoesOn front (IsPart (record { end = c.in-Some.end; unit = 1; fare = c.in-Some.fare }))) (g.S.Seeker.passed c.args.seeker.now c.args.known.now) (g.S.Seeker.has c.args.seeker.now c.args.known.now) (g.S.Seeker.passed c.follow.new.seeker c.follow.new.known) (g.S.Seeker.has c.follow.new.seeker c.follow.new.known) in
    choice_walked c.args.stage.now.table.now.edition c.args.stage.now.table.now.trip c.args.number (record { end = c.in-Some.end; unit = 1; fare = c.in-Some.fare }) (g.S.Seeker.passed c.args.seeker.now c.args.known.now) (g.S.Seeker.passed c.follow.new.seeker c.follow.new.known) (g.S.Seeker.has c.args.seeker.now c.args.known.now) (g.S.Seeker.has c.follow.new.seeker c.follow.new.known) refl c.in-Some.ensures.choice (subst P c.requires.none c.follow.ensures.walk)
