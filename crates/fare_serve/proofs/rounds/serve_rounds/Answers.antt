use Rattle.std.proofs.Common.{◌≡◌, ◌∙◌, [], ◌∷◌, ◌++◌, List, arith}
use Rattle.fare_rounds.specs.Rounds.{Exchanged}
use Rattle.fare_serve.specs.Service.{AreRounds, door_state, standing}
use Rattle.fare_serve.proofs.ServiceLemmas.{rounds-later}
use Rattle.fare_serve.proofs.rounds.serve_rounds.Goals as goal

pub returns-then-ne-clause-rounds : goal.returns-then-ne-clause-rounds
returns-then-ne-clause-rounds g c =
    let before = c.rounds.invariant.rounds in
    let next = c.serve_next-end.ensures.round in
    (before.0 ++ next.0 ∷ [], rounds-later g.H.Handler.step c.args.service.now.count c.args.service.now.round _ _ _ before.0 next.0 before.1 next.1)

pub rounds-preserved : goal.rounds-preserved
rounds-preserved g c =
    let before = c.rounds.invariant.rounds in
    let next = c.serve_next-end.ensures.round in
    record {
      rounds = (before.0 ++ next.0 ∷ [], rounds-later g.H.Handler.step c.args.service.now.count c.args.service.now.round _ _ _ before.0 next.0 before.1 next.1);
      within = c.serve_next-end.ensures.within;
      none_held = c.serve_next-end.ensures.none_held;
      port = c.serve_next-end.ensures.port ∙ c.rounds.invariant.port;
      faults = omega arith;
      cuts = omega arith;
    }
