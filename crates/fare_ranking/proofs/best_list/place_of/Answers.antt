use Rattle.std.proofs.Common.{◌≡◌, true, false, arith}
use Rattle.fare_ranking.specs.Ranking.{comes_before, place_of}
use Rattle.fare_ranking.proofs.RankingLemmas.{place_over, place_here, place_past}
use Rattle.fare_ranking.proofs.best_list.place_of.Goals as goal

pub returns-then-not-earlier-clause-value : goal.returns-then-not-earlier-clause-value
returns-then-not-earlier-clause-value c =
    let later : comes_before c.index-found-place.result (c.args.parts.now, c.args.price) ≡ false = cc in
    place_here comes_before (c.args.parts.now, c.args.price) c.args.found.now c.loop-place.place c.index-found-place.result
    (place_of comes_before (c.args.parts.now, c.args.price) c.args.found.now)
    (omega arith) c.index-found-place.is later c.loop-place.invariant

pub loop-place-preserved : goal.loop-place-preserved
loop-place-preserved c =
    let sooner : comes_before c.index-found-place.result (c.args.parts.now, c.args.price) ≡ true = cc in
    place_over comes_before (c.args.parts.now, c.args.price) c.args.found.now c.loop-place.place c.index-found-place.result
    (place_of comes_before (c.args.parts.now, c.args.price) c.args.found.now)
    (omega arith) c.index-found-place.is sooner c.loop-place.invariant

pub returns-clause-value : goal.returns-clause-value
returns-clause-value c =
    place_past comes_before (c.args.parts.now, c.args.price) c.args.found.now c.loop-place.place
    (place_of comes_before (c.args.parts.now, c.args.price) c.args.found.now)
    (omega arith) c.loop-place.invariant
