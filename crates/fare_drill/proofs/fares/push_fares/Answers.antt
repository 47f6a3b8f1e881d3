-- the fare of the next way, with the next draw
use Rattle.std.proofs.Common.{◌≡◌, ◌/◌, ◌+◌, ◌∙◌, ap, add-one}
use Rattle.fare_drill.specs.Draws.{state, draw, next_state}
use Rattle.fare_drill.specs.Fares.{drawn_fare, fare_of}
use Rattle.fare_drill.proofs.Growing.{numbered_more}
use Rattle.fare_drill.proofs.fares.push_fares.Goals as goal

pub loop-way-preserved : goal.loop-way-preserved
unfolding state draw
loop-way-preserved c =
    let stepped : c.next_state-x.result ≡ state c.args.seed (c.loop-way.way-index + 1) = rw add-one (c.next_state-x.ensures ∙ ap next_state c.loop-way.invariant.1) in
    let drawn : c.upper_half.result ≡ draw c.args.seed c.loop-way.way-index = c.upper_half.ensures ∙ ap (λ x. x / 65_536) stepped in
    (numbered_more (drawn_fare c.args.seed) _ _ _ _ c.loop-way.way-index _ _ c.loop-way.invariant.0 c.in_ok-push.ensures.items (c.fare_of.ensures ∙ ap (fare_of c.way-item.result) drawn) c.way-item.is c.loop-way-test.true, stepped)
