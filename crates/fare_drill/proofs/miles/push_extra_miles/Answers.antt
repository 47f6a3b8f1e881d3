-- the miles that begin at the next city
use Rattle.std.proofs.Common.{◌≡◌, ◌+◌, ◌-◌, ◌++◌, length, map, take, ap, ◌∙◌, arith, length-append}
use Rattle.std.specs.List.{enumerate_from, flat_map, range_with_len}
use Rattle.std.proofs.lemmas.List.{length-take}
use Rattle.std.proofs.lemmas.List.FromFn.{length-map-range_with_len}
use Rattle.fare_drill.specs.Miles.{extra_miles, pair, pairs_from}
use Rattle.fare_drill.proofs.Growing.{first_more, numbered_joined, pieces_more}
use Rattle.fare_drill.proofs.miles.push_extra_miles.Goals as goal

pub loop-first-preserved : goal.loop-first-preserved
loop-first-preserved c =
    let n = length c.args.cities.now in
    let i = c.loop-first.first in
    let number = c.loop-first.number in
    let before = flat_map (pairs_from (length c.args.cities.now)) (range_with_len 0 c.loop-first.first) in
    let rows = pieces_more (pairs_from n) 0 i i (omega arith) in
    let many : length (flat_map (pairs_from n) (range_with_len 0 (i + 1))) ≡ length before + (n - (i + 1)) =
    ap length rows ∙ length-append before (pairs_from n i) ∙ ap (λ k. length before + k) (length-map-range_with_len (pair i) (i + 1) (n - (i + 1))) in (
      numbered_joined extra_miles c.reserve.new.self.items c.loop-first.records.items _ 0 number (take c.args.extra before) (take (c.args.extra - number) (pairs_from n i)) c.loop-first.invariant.0 c.push_miles_from-number.ensures.records
          (omega (arith, length-take c.args.extra before, c.loop-first.invariant.1))
          ∙ ap (λ pairs. c.reserve.new.self.items ++ map extra_miles (enumerate_from 0 pairs)) (first_more (pairs_from n) i c.args.extra number c.loop-first.invariant.1),
      omega (arith, c.push_miles_from-number.ensures.number, c.loop-first.invariant.1, c.loop-first-test.true, many),
      c.push_miles_from-number.ensures.room,
    )
