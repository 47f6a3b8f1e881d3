-- one step from an allowance with the key to the next
use Rattle.std.proofs.Common.{◌≡◌, max, get_or, ap, ◌∙◌, arith}
use Rattle.fare_records.proofs.Chain.{keyed_first, from_first, walk_step}
use Rattle.fare_tariff.proofs.Looks.{extra_looks}
use Rattle.fare_tariff.proofs.look_up.miles.greatest_extra.Goals as goal

pub loop-at-init : goal.loop-at-init
loop-at-init c =
    let all = from_first _ _ _ (extra_looks c.args.key.now) c.args.filed.now c.first-at.result c.first-at.ensures in
    record {
      in_range = omega arith;
      keyed = keyed_first _ _ _ c.first-at.ensures;
      same = omega (arith, all);
    }

pub loop-at-smaller : goal.loop-at-smaller
loop-at-smaller c =
    let read : c.index-records-place.result ≡ get_or c.args.filed.now c.in-Some.place c.index-records-place.result = c.index-records-place.is ∙ ap (λ l. get_or l c.in-Some.place c.index-records-place.result) c.records.ensures.records in
    (walk_step _ _ _ (extra_looks c.args.key.now) c.args.filed.now c.loop-at.at c.next-at.result c.in-Some.place c.index-records-place.result c.in-Some.is c.loop-at.invariant.keyed read (c.next-at.ensures c.index-records-place.result)).shorter

pub loop-at-preserved : goal.loop-at-preserved
loop-at-preserved c =
    let read : c.index-records-place.result ≡ get_or c.args.filed.now c.in-Some.place c.index-records-place.result = c.index-records-place.is ∙ ap (λ l. get_or l c.in-Some.place c.index-records-place.result) c.records.ensures.records in
    let step = walk_step _ _ _ (extra_looks c.args.key.now) c.args.filed.now c.loop-at.at c.next-at.result c.in-Some.place c.index-records-place.result c.in-Some.is c.loop-at.invariant.keyed read (c.next-at.ensures c.index-records-place.result) in
    let more : c.max-most.result ≡ max c.loop-at.most c.extra_miles.result = c.max-most.ensures in
    record {
      in_range = omega (arith, more, c.loop-at.invariant.in_range, c.extra_miles.ensures.in_range);
      keyed = step.keyed;
      same = omega (arith, more, c.extra_miles.ensures.miles, step.here, step.there, c.loop-at.invariant.same);
    }
