-- those so far stand before the construction
use Rattle.std.proofs.Common.{◌≡◌, ◌+◌, drop}
use Rattle.fare_ranking.specs.Ranking.{comes_before, place_of}
use Rattle.fare_ranking.proofs.best_list.place_of.Given as goal

abbrev pub invariant-loop-place : goal.invariant-loop-place
invariant-loop-place l =
    place_of comes_before (l.parts, l.price) l.found
    ≡ l.place + place_of comes_before (l.parts, l.price) (drop l.place l.found)
